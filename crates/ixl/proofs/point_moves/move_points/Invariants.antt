use Rattle.ixl.proofs.Rules.{HaveMoved}
use Rattle.ixl.proofs.point_moves.move_points.Given as goal

abbrev pub invariant-loop-place : goal.invariant-loop-place
invariant-loop-place l = HaveMoved l.now l.number l.place l.fn.state l.fn.outbox l.state l.outbox
