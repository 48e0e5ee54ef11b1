use Rattle.std.proofs.Common.{◌≡◌, ◌++◌, drop}
use Rattle.node_panel.specs.ClosedHeard.{each, point_line}
use Rattle.node_panel.proofs.closed_heard.add_points.Given as goal

-- those so far, and after them those that are left
abbrev pub invariant-loop-place : goal.invariant-loop-place
invariant-loop-place l = l.lines.items ++ each (point_line l.side) l.place (drop l.place l.closed) ≡ l.initial.lines.items ++ each (point_line l.side) 0 l.closed
