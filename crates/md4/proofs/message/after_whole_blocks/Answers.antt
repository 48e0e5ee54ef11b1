use Rattle.std.proofs.Common.{◌∙◌, arith}
use Rattle.md4.proofs.Blocks.{after_all_next}
use Rattle.md4.proofs.message.after_whole_blocks.Goals as goal

pub loop-block-preserved : goal.loop-block-preserved
loop-block-preserved c =
    let cut = c.in-Some.ensures.cases in
    record {
      value = λ later.
          rw (c.after_block-after.ensures, cut.0, cut.1)
          (after_all_next c.loop-block.registers c.loop-block.left.now later (omega (arith, cut.2)) ∙ c.loop-block.invariant.value later);
      left = omega (arith, cut.2);
    }
