use Rattle.ixl_known.proofs.RowLaws.{HaveSections}
use Rattle.ixl_known.proofs.rows.SectionRows.of.Given as goal

abbrev pub invariant-loop-section : goal.invariant-loop-section
invariant-loop-section l = HaveSections l.reporters l.detectors l.section l.clear l.occupied
