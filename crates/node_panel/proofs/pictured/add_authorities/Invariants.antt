use Rattle.std.proofs.Common.{◌≡◌, ◌++◌, drop}
use Rattle.node_panel.specs.ClosedHeard.{each}
use Rattle.node_panel.specs.Heard.{authority_line}
use Rattle.node_panel.proofs.pictured.add_authorities.Given as goal

-- those so far, and after them those that are left
abbrev pub invariant-loop-place : goal.invariant-loop-place
invariant-loop-place l = l.lines.items ++ each authority_line l.place (drop l.place l.authorities) ≡ l.initial.lines.items ++ each authority_line 0 l.authorities
