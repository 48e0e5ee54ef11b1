use Rattle.railway_check.specs.FaultLines.{told_of}
use Rattle.railway_check.proofs.Added.{appended_more}
use Rattle.railway_check.proofs.fault_lines.add_faults.Goals as goal

pub loop-fault-preserved : goal.loop-fault-preserved
loop-fault-preserved c =
    appended_more (told_of c.args.explained c.args.railway.now) c.args.text.now.items c.loop-fault.text.items c.add_fault.new.text.items c.args.faults.now c.loop-fault.fault-index c.fault-item.result
    c.loop-fault-test.true c.fault-item.is c.loop-fault.invariant c.in_ok-add_fault.ensures
