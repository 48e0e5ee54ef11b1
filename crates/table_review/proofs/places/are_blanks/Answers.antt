use Rattle.std.proofs.Common.{arith}
use Rattle.table_review.proofs.Blanks.{next_blank}
use Rattle.table_review.proofs.places.are_blanks.Goals as goal

pub loop-at-init : goal.loop-at-init
loop-at-init c n le lt = absurd (omega (arith, le, lt))

pub loop-at-preserved : goal.loop-at-preserved
loop-at-preserved c = next_blank c.args.text.now c.args.from c.loop-at.at c.has_blank.result c.loop-at.invariant c.has_blank.ensures c.if-not-has_blank.false
