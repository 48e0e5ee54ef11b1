use Rattle.std.proofs.Common.{take}
use Rattle.route_lock.proofs.RowLaws.{HeldOf}
use Rattle.route_lock.proofs.rows.held.Given as goal

abbrev pub invariant-loop-need : goal.invariant-loop-need
invariant-loop-need l = HeldOf l.table l.route l.sections l.side (take l.need-index l.need-items) l.row
