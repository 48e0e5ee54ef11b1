use Rattle.station_check.specs.inside.Told.{ToldRoutes}
use Rattle.station_check.proofs.report.write_pairs.Given as goal

abbrev pub invariant-loop-earlier : goal.invariant-loop-earlier
invariant-loop-earlier g l = ToldRoutes l.table l.earlier (g.W.Write.contents l.fn.out) (g.W.Write.contents l.out)
