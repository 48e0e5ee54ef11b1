use Rattle.std.proofs.Common.{[]}
use Rattle.table_review.specs.Block.{route_text}
use Rattle.table_review.proofs.Added.{appended_more}
use Rattle.table_review.proofs.block.routes_in.Goals as goal

pub loop-route-preserved : goal.loop-route-preserved
loop-route-preserved c =
    appended_more (route_text c.args.form c.args.layout.now) [] c.loop-route.text.items c.add_route.new.text.items c.args.routes.now c.loop-route.route-index c.route-item.result
    c.loop-route-test.true c.route-item.is c.loop-route.invariant c.in_ok-add_route.ensures
