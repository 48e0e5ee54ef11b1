use Rattle.std.proofs.Common.{◌≡◌, drop}
use Rattle.route_derivation.specs.inside.HindranceSearch.{first_both}
use Rattle.route_derivation.proofs.impossible.first_both.Given as goal

abbrev pub invariant-loop-first : goal.invariant-loop-first
invariant-loop-first l = first_both l.layout l.passed (drop l.first-index l.passed) ≡ first_both l.layout l.passed l.passed
