use Rattle.std.specs.Prelude.{◌≡◌, List, Some, slice_get}
use Rattle.ixl_spec.specs.State.{KnownDetectorState}
use Rattle.ixl_known.specs.inside.Rows.{AreRowsSoFar}
use Rattle.ixl_known.proofs.rows.SectionRows.renewed.Given as goal

abbrev pub invariant-loop-section : goal.invariant-loop-section
invariant-loop-section l = (detectors : List KnownDetectorState) → slice_get detectors l.place ≡ Some l.detector → AreRowsSoFar l.place 0 l.reporters detectors l.fn.self → AreRowsSoFar l.place l.section l.reporters detectors l.rows
