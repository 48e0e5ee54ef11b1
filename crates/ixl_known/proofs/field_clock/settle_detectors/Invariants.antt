use Rattle.ixl_spec.specs.State.{KnownDetectorState}
use Rattle.ixl_spec.specs.Step.{clocked_detector}
use Rattle.std.specs.Prelude.{IsTrue}
use Rattle.ixl_known.specs.inside.Alike.{TellTheSame}
use Rattle.ixl_known.proofs.ClockOnNodes.{HaveSettled}
use Rattle.ixl_known.proofs.field_clock.settle_detectors.Given as goal

abbrev pub invariant-loop-detector : goal.invariant-loop-detector
invariant-loop-detector l = HaveSettled (λ (one : KnownDetectorState). one.client) (clocked_detector l.now) l.now l.initial.detectors l.detectors l.detector-index × (IsTrue l.alike → TellTheSame l.initial.detectors l.detectors)
