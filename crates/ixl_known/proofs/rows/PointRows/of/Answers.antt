use Rattle.ixl_known.proofs.RowLaws.{all_points, no_points, one_point}
use Rattle.ixl_known.proofs.rows.PointRows.of.Goals as goal

pub loop-point-init : goal.loop-point-init
loop-point-init c = rw (c.empty-available.ensures, c.empty-right.ensures, c.empty-left.ensures) (no_points c.args.known_points.now)

pub loop-point-preserved : goal.loop-point-preserved
loop-point-preserved c = one_point _ _ c.index-known_points-point.result _ _ _ _ _ _ _ _ _ c.loop-point-test.true c.index-known_points-point.is c.loop-point.invariant
    c.is_available.ensures c.is_known.ensures c.is_known-in-loop-point.ensures c.with_where-available.ensures c.with_where-right.ensures c.with_where-left.ensures

pub returns : goal.returns
returns c = all_points _ _ _ _ _ c.loop-point-test.false c.loop-point.invariant
