use Rattle.table_review.specs.Block.{further_text}
use Rattle.table_review.proofs.Added.{appended_at}
use Rattle.table_review.proofs.block.add_all_further.Goals as goal

pub loop-item-preserved : goal.loop-item-preserved
loop-item-preserved c =
    appended_at (further_text c.args.layout.now) c.args.text.now.items c.loop-item.text.items c.add_further.new.text.items c.args.items.now c.loop-item.item-index _ c.loop-item-test.true
    c.loop-item.invariant c.in_ok-add_further.ensures
