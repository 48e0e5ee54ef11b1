use Rattle.std.proofs.Common.{◌≡◌, ◌++◌, drop}
use Rattle.node_panel.specs.ClosedHeard.{each, route_line}
use Rattle.node_panel.proofs.closed_heard.add_routes.Given as goal

-- those so far, and after them those that are left
abbrev pub invariant-loop-place : goal.invariant-loop-place
invariant-loop-place l = l.lines.items ++ each route_line l.place (drop l.place l.closed) ≡ l.initial.lines.items ++ each route_line 0 l.closed
