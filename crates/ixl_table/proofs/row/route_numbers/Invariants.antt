use Rattle.std.proofs.Common.{◌≡◌, map, take}
use Rattle.ixl_table.specs.Table.{as_route}
use Rattle.ixl_table.proofs.row.route_numbers.Given as goal

abbrev pub invariant-loop-route : goal.invariant-loop-route
invariant-loop-route l = map as_route l.numbers.items ≡ take l.route-index l.routes
