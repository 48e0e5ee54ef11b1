use Rattle.std.proofs.Common.{◌++◌}
use Rattle.railway_layout.specs.Faults.{part_fault, part_faults}
use Rattle.railway_layout.proofs.Added.{each_done, each_more}
use Rattle.railway_layout.proofs.end_faults.add_part.Goals as goal

pub loop-number-preserved : goal.loop-number-preserved
loop-number-preserved c =
    each_more (part_fault c.args.place c.args.layout.now c.args.part.now) c.args.part.now c.loop-number.number c.index-part-number.result c.loop-number.faults.items c.add_part_name.new.faults.items
    (c.args.faults.now.items ++ part_faults c.args.place c.args.layout.now c.args.part.now) c.loop-number-test.true c.index-part-number.is c.in_ok-add_part_name.ensures c.loop-number.invariant

pub returns : goal.returns
returns c =
    each_done (part_fault c.args.place c.args.layout.now c.args.part.now) c.args.part.now c.loop-number.number c.loop-number.faults.items
    (c.args.faults.now.items ++ part_faults c.args.place c.args.layout.now c.args.part.now) c.loop-number-test.false c.loop-number.invariant
