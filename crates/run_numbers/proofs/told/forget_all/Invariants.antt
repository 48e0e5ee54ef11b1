use Rattle.std.proofs.Common.{◌≡◌, ◌++◌, drop, length, replicate, None}
use Rattle.run_numbers.proofs.told.forget_all.Given as goal

-- so many are forgotten, and those after them are as they were
abbrev pub invariant-loop-place : goal.invariant-loop-place
invariant-loop-place l = (l.values ≡ replicate l.place None ++ drop l.place l.initial.values) × (length l.values ≡ length l.initial.values)
