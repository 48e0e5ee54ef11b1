use Rattle.std.proofs.Common.{◌≡◌, ℕ, ◌%◌, List, ◌++◌, length}
use Rattle.md4.specs.Md4.{after_all}
use Rattle.md4.proofs.message.after_whole_blocks.Given as goal

abbrev pub invariant-loop-block : goal.invariant-loop-block
invariant-loop-block l = record {
  value : (later : List ℕ) → after_all l.registers (l.left ++ later) ≡ after_all l.fn.start (l.bytes ++ later);
  left : length l.left % 64 ≡ length l.bytes % 64;
}

abbrev pub decreases-loop-block : goal.decreases-loop-block
decreases-loop-block l = length l.left
