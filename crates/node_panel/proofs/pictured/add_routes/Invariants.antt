use Rattle.std.proofs.Common.{◌≡◌, ◌++◌, drop}
use Rattle.node_panel.specs.ClosedHeard.{each}
use Rattle.node_panel.specs.Heard.{route_line}
use Rattle.node_panel.proofs.pictured.add_routes.Given as goal

-- those so far, and after them those that are left
abbrev pub invariant-loop-place : goal.invariant-loop-place
invariant-loop-place l = l.lines.items ++ each route_line l.place (drop l.place l.routes) ≡ l.initial.lines.items ++ each route_line 0 l.routes
