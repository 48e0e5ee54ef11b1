use Rattle.std.proofs.Common.{◌≡◌, ◌+◌, ◌++◌, drop}
use Rattle.node_panel.specs.ClosedHeard.{each}
use Rattle.node_panel.specs.Heard.{link_line}
use Rattle.node_panel.proofs.pictured.add_links.Given as goal

-- those so far, and after them those that are left
abbrev pub invariant-loop-place : goal.invariant-loop-place
invariant-loop-place l = l.lines.items ++ each link_line (l.place + 1) (drop l.place l.links) ≡ l.initial.lines.items ++ each link_line 1 l.links
