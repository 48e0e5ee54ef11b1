use Rattle.std.proofs.Common.{◌≡◌, drop}
use Rattle.route_derivation.specs.inside.HindranceSearch.{first_open}
use Rattle.route_derivation.proofs.impossible.first_open.Given as goal

abbrev pub invariant-loop-point : goal.invariant-loop-point
invariant-loop-point l = first_open l.layout (drop l.point-index l.passed) ≡ first_open l.layout l.passed
