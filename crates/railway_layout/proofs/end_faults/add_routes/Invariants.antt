use Rattle.std.proofs.Common.{◌≡◌, ◌++◌, take}
use Rattle.std.specs.List.{flat_map}
use Rattle.railway_layout.specs.Faults.{route_fault}
use Rattle.railway_layout.proofs.end_faults.add_routes.Given as goal

abbrev pub invariant-loop-route : goal.invariant-loop-route
invariant-loop-route l = l.faults.items ≡ l.fn.faults.items ++ flat_map (route_fault l.place l.end) (take l.route-index l.routes)
