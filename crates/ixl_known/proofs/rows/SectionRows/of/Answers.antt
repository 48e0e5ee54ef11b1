use Rattle.std.proofs.Common.{Some, ap, sym, ◌∙◌}
use Rattle.std.proofs.lemmas.Option.{slice_get-get_or}
use Rattle.ixl_known.proofs.RowLaws.{all_sections, no_sections, one_clear, one_occupied, one_unknown}
use Rattle.ixl_known.proofs.rows.SectionRows.of.Goals.{in-Some-true, in-Some-false, in-None}
use Rattle.ixl_known.proofs.rows.SectionRows.of.Goals as goal

pub loop-section-init : goal.loop-section-init
loop-section-init c = rw (c.empty-clear.ensures, c.empty-occupied.ensures) (no_sections c.args.reporters.now c.args.detectors.now)

pub loop-section-preserved : goal.loop-section-preserved
loop-section-preserved c = elim c.match-told.branch [
  | in-Some-true w ↦ rw (w.clear-is, w.occupied-is, w.with-occupied.ensures) (one_occupied c.args.reporters.now c.args.detectors.now c.loop-section.section _ _ _
      (slice_get-get_or c.args.reporters.now c.loop-section.section (0, 0) c.loop-section-test.true) c.loop-section.invariant (ap Some (sym w.in-Some-true.field-0-test) ∙ sym w.in-Some-true.is ∙ c.told.ensures))
  | in-Some-false w ↦ rw (w.clear-is, w.occupied-is, w.with-clear.ensures) (one_clear c.args.reporters.now c.args.detectors.now c.loop-section.section _ _ _
      (slice_get-get_or c.args.reporters.now c.loop-section.section (0, 0) c.loop-section-test.true) c.loop-section.invariant (ap Some (sym w.in-Some-false.field-0-test) ∙ sym w.in-Some-false.is ∙ c.told.ensures))
  | in-None w ↦ rw (w.clear-is, w.occupied-is) (one_unknown c.args.reporters.now c.args.detectors.now c.loop-section.section _ _ _
      (slice_get-get_or c.args.reporters.now c.loop-section.section (0, 0) c.loop-section-test.true) c.loop-section.invariant (sym w.in-None.is ∙ c.told.ensures))
]

pub returns : goal.returns
returns c = all_sections _ _ _ _ _ c.loop-section-test.false c.loop-section.invariant
