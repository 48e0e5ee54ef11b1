use Rattle.std.proofs.Common.{◌≡◌, drop}
use Rattle.route_derivation.specs.inside.HindranceSearch.{first_against}
use Rattle.route_derivation.proofs.impossible.first_against.Given as goal

abbrev pub invariant-loop-second : goal.invariant-loop-second
invariant-loop-second l = first_against l.layout l.first (drop l.second-index l.passed) ≡ first_against l.layout l.first l.passed
