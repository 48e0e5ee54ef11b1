use Rattle.std.proofs.Common.{◌≡◌, ℕ, ◌+◌, ◌%◌, ◌^◌, ◌<◌, length, slice_index}
use Rattle.md4.proofs.block.raised.Given as goal

abbrev pub invariant-loop-k : goal.invariant-loop-k
invariant-loop-k l = (length l.sums ≡ 16) × ((i : ℕ) → i < l.k → slice_index l.sums i ≡ (slice_index l.words i + l.constant) % 2 ^ 32)
