use Rattle.std.proofs.Common.{◌≡◌, ◌+◌, ◌++◌, drop}
use Rattle.node_panel.specs.ClosedHeard.{each}
use Rattle.node_panel.specs.Heard.{network_line}
use Rattle.node_panel.proofs.pictured.add_networks.Given as goal

-- those so far, and after them those that are left
abbrev pub invariant-loop-place : goal.invariant-loop-place
invariant-loop-place l = l.lines.items ++ each (network_line l.network) (l.place + 1) (drop l.place l.lost) ≡ l.initial.lines.items ++ each (network_line l.network) 1 l.lost
