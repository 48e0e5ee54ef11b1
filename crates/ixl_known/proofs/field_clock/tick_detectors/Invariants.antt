use Rattle.ixl_spec.specs.Step.{detector_ticking}
use Rattle.std.specs.Prelude.{IsTrue}
use Rattle.ixl_known.specs.inside.Alike.{TellTheSame}
use Rattle.ixl_known.specs.inside.Turns.{DetectorsTurned}
use Rattle.ixl_known.proofs.field_clock.tick_detectors.Given as goal

abbrev pub invariant-loop-place : goal.invariant-loop-place
invariant-loop-place l = DetectorsTurned l.now 2 (detector_ticking l.now) l.place l.fn.detectors l.fn.outbox l.detectors l.outbox × (IsTrue l.alike → TellTheSame l.fn.detectors l.detectors)
