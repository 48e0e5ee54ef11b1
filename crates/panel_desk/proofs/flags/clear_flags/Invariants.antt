use Rattle.std.proofs.Common.{◌≡◌, ◌++◌, drop, false, length, replicate}
use Rattle.panel_desk.proofs.flags.clear_flags.Given as goal

-- so many are taken away, and those after them are as they were
abbrev pub invariant-loop-place : goal.invariant-loop-place
invariant-loop-place l = (l.flags ≡ replicate l.place false ++ drop l.place l.initial.flags) × (length l.flags ≡ length l.initial.flags)
