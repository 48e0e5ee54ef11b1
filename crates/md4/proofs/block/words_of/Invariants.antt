use Rattle.std.proofs.Common.{◌≡◌, ℕ, ◌<◌, length, slice_index}
use Rattle.md4.specs.Md4.{word}
use Rattle.md4.proofs.block.words_of.Given as goal

abbrev pub invariant-loop-k : goal.invariant-loop-k
invariant-loop-k l = (length l.words ≡ 16) × ((i : ℕ) → i < l.k → slice_index l.words i ≡ word l.block i)
