use Rattle.std.proofs.Common.{string_bytes}
use Rattle.std.specs.Prelude.{codes}
use Rattle.station_layout.proofs.Joined.{joined_on, joined_step, space_valid}
use Rattle.station_layout.proofs.PointsOnPath.{held, not_held}
use Rattle.station_layout.proofs.conflict_reasons.add_reasons.Goals as goal
use Rattle.station_layout.proofs.conflict_reasons.add_reasons.Goals.{then-holds+in_ok-add, else-holds}

pub loop-holds-preserved : goal.loop-holds-preserved
loop-holds-preserved c =
    let cell = string_bytes c.loop-holds.cell in
    let before = c.loop-holds.before.now in
    elim c.if-holds.branch [
      | then-holds+in_ok-add w ↦
          rw w.before-is (rw w.cell-is (
            space_valid,
            joined_step (codes " ") before cell _ (string_bytes w.add.new.cell) _ _ _ c.loop-holds.invariant.1 (held _ c.loop-holds.holds-index _ c.loop-holds-test.true w.if-holds.true) w.in_ok-add.ensures,
          ))
      | else-holds w ↦
          rw w.before-is (rw w.cell-is (
            c.loop-holds.invariant.0,
            joined_on (codes " ") before cell _ _ _ c.loop-holds.invariant.1 (not_held _ c.loop-holds.holds-index _ c.loop-holds-test.true w.if-holds.false),
          ))
    ]
