use Rattle.std.proofs.Common.{◌≡◌}
use Rattle.route_derivation.specs.inside.ApproachSearch.{sections_below}
use Rattle.route_derivation.proofs.approach.sections_over.Given as goal

abbrev pub invariant-loop-place : goal.invariant-loop-place
invariant-loop-place l = l.sections.items ≡ sections_below l.layout l.ports l.place
