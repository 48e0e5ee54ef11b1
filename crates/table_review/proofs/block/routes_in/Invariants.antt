use Rattle.std.proofs.Common.{◌≡◌, ◌++◌, [], take}
use Rattle.std.specs.List.{flat_map}
use Rattle.table_review.specs.Block.{route_text}
use Rattle.table_review.proofs.block.routes_in.Given as goal

abbrev pub invariant-loop-route : goal.invariant-loop-route
invariant-loop-route l = l.text.items ≡ [] ++ flat_map (route_text l.form l.layout) (take l.route-index l.routes)
