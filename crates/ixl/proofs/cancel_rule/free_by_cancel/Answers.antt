use Rattle.ixl.proofs.Rules.{cancelled_freed, nothing_cancelled}
use Rattle.ixl.proofs.cancel_rule.free_by_cancel.Goals as goal

pub returns-then-is_cancel_due : goal.returns-then-is_cancel_due
returns-then-is_cancel_due c = cancelled_freed c.args.now c.args.number c.args.state.now c.free.new.self c.is_cancel_due.result c.keeps_route.ensures.kept c.is_cancel_due.ensures c.if-is_cancel_due.true c.free.ensures

pub returns-else-is_cancel_due : goal.returns-else-is_cancel_due
returns-else-is_cancel_due c = nothing_cancelled c.args.now c.args.number c.args.state.now c.is_cancel_due.result c.keeps_route.ensures.kept c.is_cancel_due.ensures c.if-is_cancel_due.false
