use Rattle.station_check.proofs.ReportGrows.{next_route}
use Rattle.station_check.proofs.report.write_pairs.Goals as goal

pub loop-earlier-preserved : goal.loop-earlier-preserved
loop-earlier-preserved g c =
    next_route c.args.table.now c.loop-earlier.earlier (g.W.Write.contents c.args.out.now) (g.W.Write.contents c.loop-earlier.out) (g.W.Write.contents c.write_conflicts.new.out)
    c.loop-earlier.invariant c.in_ok-write_conflicts.ensures
