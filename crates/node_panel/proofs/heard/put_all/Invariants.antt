use Rattle.std.proofs.Common.{◌≡◌, ◌++◌, drop, length, replicate}
use Rattle.node_panel.proofs.heard.put_all.Given as goal

-- so many have the value, and those after them are as they were
abbrev pub invariant-loop-place : goal.invariant-loop-place
invariant-loop-place g l = (l.all ≡ replicate l.place l.value ++ drop l.place l.initial.all) × (length l.all ≡ length l.initial.all)
