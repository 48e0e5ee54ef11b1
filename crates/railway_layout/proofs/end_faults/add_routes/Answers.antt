use Rattle.railway_layout.specs.Faults.{route_fault}
use Rattle.railway_layout.proofs.Added.{appended_more}
use Rattle.railway_layout.proofs.end_faults.add_routes.Goals as goal

pub loop-route-preserved : goal.loop-route-preserved
loop-route-preserved c =
    appended_more (route_fault c.args.place c.args.end.now) c.args.faults.now.items c.loop-route.faults.items c.add_route.new.faults.items c.args.routes.now c.loop-route.route-index c.route-item.result
    c.loop-route-test.true c.route-item.is c.loop-route.invariant c.in_ok-add_route.ensures
