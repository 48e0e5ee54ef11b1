use Rattle.route_derivation.proofs.DerivedLaws.{along-more}
use Rattle.route_derivation.proofs.derived.routes_along.Goals as goal

pub loop-way-preserved : goal.loop-way-preserved
loop-way-preserved c =
    rw c.in_ok-push-2.ensures.items (along-more c.args.made.layout.now c.args.made.slow.now c.args.made.rule c.args.ways.now c.loop-way.way-index c.loop-way.routes.items c.way-item.result c.in_ok-route.route c.loop-way-test.true c.way-item.is c.loop-way.invariant c.in_ok-route.ensures)
