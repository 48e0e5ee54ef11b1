use Rattle.station_check.proofs.ReportGrows.{slow_next}
use Rattle.station_check.proofs.report.write_slow.Goals as goal

pub loop-route-preserved : goal.loop-route-preserved
loop-route-preserved g c =
    slow_next c.args.routes.now c.loop-route.route-index c.route-item.result c.route-item.result (g.W.Write.contents c.args.out.now) (g.W.Write.contents c.loop-route.out) (g.W.Write.contents c.write_aspect.new.out)
    c.loop-route-test.true c.route-item.is c.loop-route.invariant c.in_ok-write_aspect.ensures
