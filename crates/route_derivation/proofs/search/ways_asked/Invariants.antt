use Rattle.std.proofs.Common.{◌≡◌, ◌≤◌, length}
use Rattle.route_derivation.specs.inside.WaySearch.{ways_below}
use Rattle.route_derivation.proofs.search.ways_asked.Given as goal

abbrev pub invariant-loop-place : goal.invariant-loop-place
invariant-loop-place l = (l.found.items ≡ ways_below l.layout l.entries l.place) × (length l.found.items ≤ 64)
