use Rattle.ixl_known.proofs.RowLaws.{HavePoints}
use Rattle.ixl_known.proofs.rows.PointRows.of.Given as goal

abbrev pub invariant-loop-point : goal.invariant-loop-point
invariant-loop-point l = HavePoints l.known_points l.point l.available l.right l.left
