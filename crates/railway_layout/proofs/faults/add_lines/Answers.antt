use Rattle.std.proofs.Common.{◌++◌}
use Rattle.railway_layout.specs.Faults.{all_line_faults, line_faults}
use Rattle.railway_layout.proofs.Added.{each_done, each_more}
use Rattle.railway_layout.proofs.faults.add_lines.Goals as goal

pub loop-number-preserved : goal.loop-number-preserved
loop-number-preserved c =
    each_more (line_faults c.args.stations.now c.args.lines.now) c.args.lines.now c.loop-number.number c.index-lines-number.result c.loop-number.faults.items c.add_line.new.faults.items
    (c.args.faults.now.items ++ all_line_faults c.args.stations.now c.args.lines.now) c.loop-number-test.true c.index-lines-number.is c.in_ok-add_line.ensures c.loop-number.invariant

pub returns : goal.returns
returns c =
    each_done (line_faults c.args.stations.now c.args.lines.now) c.args.lines.now c.loop-number.number c.loop-number.faults.items
    (c.args.faults.now.items ++ all_line_faults c.args.stations.now c.args.lines.now) c.loop-number-test.false c.loop-number.invariant
