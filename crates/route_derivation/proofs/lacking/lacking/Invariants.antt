use Rattle.std.proofs.Common.{◌≡◌}
use Rattle.route_derivation.specs.inside.WaysKept.{lacking}
use Rattle.route_derivation.proofs.lacking.lacking.Given as goal

abbrev pub invariant-loop-route : goal.invariant-loop-route
invariant-loop-route l = l.kept.items ≡ lacking l.layout l.yielded
