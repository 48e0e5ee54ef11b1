use Rattle.control_table.proofs.Loops.{masks-go_on, within-goes_on, masks-are_done}
use Rattle.control_table.proofs.masks.all_masks.Goals as goal

pub loop-index-preserved : goal.loop-index-preserved
loop-index-preserved c =
    let routes = c.args.routes.now in
    let rows = c.args.rows.now in
    let i = c.loop-index.index in
    let r = c.index-routes-index.result in
    let row = c.index-rows-index.result in (
      masks-go_on routes rows i c.loop-index.masks.items c.push.new.self.items r row c.masks_of.result _ c.loop-index-test.true c.requires.each c.index-routes-index.is c.index-rows-index.is c.masks_of.ensures c.in_ok-push.ensures.items c.loop-index.invariant.0,
      (within-goes_on routes rows i r row c.loop-index-test.true c.requires.each c.loop-index.invariant.1).1,
    )

pub returns : goal.returns
returns c = masks-are_done c.args.routes.now c.args.rows.now c.loop-index.index c.loop-index.masks.items _ c.loop-index-test.false c.loop-index.invariant.0
