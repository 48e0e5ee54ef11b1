use Rattle.std.proofs.Common.{◌≡◌, drop}
use Rattle.std.specs.FinSet.{empty, insert}
use Rattle.std.specs.List.{fold}
use Rattle.control_table.specs.inside.TableTests.{route_row}
use Rattle.control_table.proofs.masks.route_row.Given as goal

abbrev pub invariant-loop-route : goal.invariant-loop-route
invariant-loop-route l = fold (λ row s. insert row s.0) l.row (drop l.route-index l.routes) ≡ route_row l.routes
