use Rattle.std.proofs.lemmas.Option.{slice_get-get_or}
use Rattle.ixl_known.proofs.RowsRenewed.{all_rows_renewed, rows_passed_over, rows_renewed}
use Rattle.ixl_known.proofs.rows.SectionRows.renewed.Goals.{then-reporter-place, else-reporter-place}
use Rattle.ixl_known.proofs.rows.SectionRows.renewed.Goals as goal

pub loop-section-preserved : goal.loop-section-preserved
loop-section-preserved c detectors there so_far = elim c.if-reporter-place.branch [
  | then-reporter-place w ↦ rw (w.rows-is) (rows_renewed c.args.place c.loop-section.section c.args.reporters.now detectors c.loop-section.rows _
      (slice_get-get_or c.args.reporters.now c.loop-section.section (0, 0) c.loop-section-test.true) (c.loop-section.invariant detectors there so_far)
      c.args.detector.now _ _ _ _ w.if-reporter-place.true there c.is_ready-is_ready.ensures c.occupied-told.ensures w.contains.ensures
      w.with_told-rows.ensures.clear w.with_told-rows.ensures.occupied)
  | else-reporter-place w ↦ rw (w.rows-is) (rows_passed_over c.args.place c.loop-section.section c.args.reporters.now detectors c.loop-section.rows _
      (slice_get-get_or c.args.reporters.now c.loop-section.section (0, 0) c.loop-section-test.true) (c.loop-section.invariant detectors there so_far) w.if-reporter-place.false)
]

pub returns : goal.returns
returns c detectors there so_far = all_rows_renewed c.args.place c.loop-section.section c.args.reporters.now detectors c.loop-section.rows c.loop-section-test.false (c.loop-section.invariant detectors there so_far)
