use Rattle.std.proofs.Common.{◌≡◌, take}
use Rattle.layout.proofs.site.copy_routes.Given as goal

abbrev pub invariant-loop-route : goal.invariant-loop-route
invariant-loop-route l = l.copies.items ≡ take l.route-index l.routes
