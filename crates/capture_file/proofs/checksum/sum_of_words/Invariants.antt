use Rattle.std.proofs.Common.{◌≡◌, ◌+◌, ◌*◌, ◌≤◌, length}
use Rattle.capture_file.specs.Checksum.{word_sum}
use Rattle.capture_file.proofs.checksum.sum_of_words.Given as goal

abbrev pub invariant-loop-word : goal.invariant-loop-word
invariant-loop-word l = record {
  value : l.sum + word_sum l.left ≡ word_sum l.bytes;
  most : l.sum + 65535 * length l.left ≤ 65535 * length l.bytes;
  few : length l.left ≤ length l.bytes;
}

abbrev pub decreases-loop-word : goal.decreases-loop-word
decreases-loop-word l = length l.left
