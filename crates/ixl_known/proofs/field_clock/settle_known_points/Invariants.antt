use Rattle.ixl_spec.specs.State.{KnownPointState}
use Rattle.ixl_spec.specs.Step.{clocked_known_point}
use Rattle.std.specs.Prelude.{IsTrue}
use Rattle.ixl_known.specs.inside.Alike.{AreKnownAlike}
use Rattle.ixl_known.proofs.ClockOnNodes.{HaveSettled}
use Rattle.ixl_known.proofs.field_clock.settle_known_points.Given as goal

abbrev pub invariant-loop-known_point : goal.invariant-loop-known_point
invariant-loop-known_point l = HaveSettled (λ (one : KnownPointState). one.client) (clocked_known_point l.now) l.now l.initial.known_points l.known_points l.known_point-index × (IsTrue l.alike → AreKnownAlike l.initial.known_points l.known_points)
