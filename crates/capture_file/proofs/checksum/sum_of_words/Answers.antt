use Rattle.std.proofs.Common.{arith}
use Rattle.capture_file.proofs.Sums.{next_word}
use Rattle.capture_file.proofs.checksum.sum_of_words.Goals as goal

pub loop-word-preserved : goal.loop-word-preserved
loop-word-preserved c =
    let cut = c.in-Some.ensures.cases in
    let next = next_word c.loop-word.left.now c.in-Some.word.now c.in-Some.rest.now (omega (arith, cut.2)) cut.0 cut.1 in
    record {
      value = omega (arith, next, c.from-sum.ensures, c.from_be_bytes.ensures, c.loop-word.invariant.value);
      most = omega (arith, cut.2, c.from-sum.ensures, c.loop-word.invariant.most);
      few = omega (arith, cut.2, c.loop-word.invariant.few);
    }
