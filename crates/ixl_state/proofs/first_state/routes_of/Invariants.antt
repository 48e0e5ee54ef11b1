use Rattle.std.proofs.Common.{◌≡◌, map, take}
use Rattle.ixl_spec.specs.First.{new_route_of}
use Rattle.ixl_state.proofs.first_state.routes_of.Given as goal

abbrev pub invariant-loop-row : goal.invariant-loop-row
invariant-loop-row l = l.routes.items ≡ map new_route_of (take l.row-index l.rows)
