use Rattle.railway_layout.specs.Ends.{line_of}
use Rattle.railway_layout.proofs.LinesMade.{made_more}
use Rattle.railway_layout.proofs.Seen.{lines_there}
use Rattle.railway_layout.proofs.railway.lines.Goals as goal

pub the_line-requires : goal.the_line-requires
the_line-requires c = lines_there c.args.stations.now c.args.written.now c.loop-line.line-index c.line-item.result c.requires c.loop-line-test.true c.line-item.is

pub loop-line-preserved : goal.loop-line-preserved
loop-line-preserved c =
    rw c.in_ok-push.ensures.items (made_more (line_of c.args.stations.now) c.args.written.now c.loop-line.lines.items c.loop-line.line-index c.line-item.result c.in_ok-the_line.field-0
    c.loop-line-test.true c.line-item.is c.in_ok-the_line.ensures c.loop-line.invariant)
