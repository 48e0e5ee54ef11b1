use Rattle.station_check.proofs.ReportGrows.{ToldSlowTo}
use Rattle.station_check.proofs.report.write_slow.Given as goal

abbrev pub invariant-loop-route : goal.invariant-loop-route
invariant-loop-route g l = ToldSlowTo l.routes l.route-index (g.W.Write.contents l.fn.out) (g.W.Write.contents l.out)
