use Rattle.std.proofs.Common.{◌-◌, suc}
use Rattle.station_check.specs.inside.Told.{ToldBehind}
use Rattle.station_check.proofs.report.write_conflicts.Given as goal

abbrev pub invariant-loop-later : goal.invariant-loop-later
invariant-loop-later g l = ToldBehind l.table l.earlier.0 (l.later - suc l.earlier.0) (g.W.Write.contents l.fn.out) (g.W.Write.contents l.out)
