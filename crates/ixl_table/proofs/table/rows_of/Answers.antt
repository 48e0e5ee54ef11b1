use Rattle.ixl_table.proofs.Made.{rows-grow}
use Rattle.ixl_table.proofs.table.rows_of.Goals as goal

pub loop-route-preserved : goal.loop-route-preserved
loop-route-preserved c = rows-grow c.args.table.now c.loop-route.route c.loop-route.rows.items c.in_ok-row_of.field-0 c.push.new.self.items c.in_ok-row_of.ensures c.in_ok-push.ensures.items c.loop-route.invariant
