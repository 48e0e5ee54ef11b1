use Rattle.ixl.proofs.Rules.{nothing_moved, point_moved}
use Rattle.ixl.proofs.point_moves.move_point.Goals as goal

pub returns-then-is_move_due : goal.returns-then-is_move_due
returns-then-is_move_due c = point_moved c.args.now c.args.number c.args.need c.point.result c.side.result c.args.state.now c.args.outbox.now c.give_move.new.self c.give_move.new.outbox c.is_move_due.result
    c.keeps_route.ensures.kept c.is_move_due.ensures c.if-is_move_due.true c.point.ensures c.side.ensures c.give_move.ensures

pub returns-else-is_move_due : goal.returns-else-is_move_due
returns-else-is_move_due c = nothing_moved c.args.now c.args.number c.args.need c.args.state.now c.args.outbox.now c.is_move_due.result c.keeps_route.ensures.kept c.requires.clock c.is_move_due.ensures c.if-is_move_due.false
