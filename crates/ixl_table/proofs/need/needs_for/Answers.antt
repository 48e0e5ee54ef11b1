use Rattle.ixl_table.proofs.Made.{needs-grow}
use Rattle.ixl_table.proofs.need.needs_for.Goals as goal

pub loop-point-preserved : goal.loop-point-preserved
loop-point-preserved c = needs-grow c.args.table.now c.args.route c.args.sections.now c.args.asked.now c.loop-point.needs.items c.loop-point.point-index c.until.result c.push.new.self.items c.loop-point-test.true c.until.ensures c.in_ok-push.ensures.items c.loop-point.invariant
