use Rattle.std.proofs.Common.{◌∙◌, ap, sym, arith}
use Rattle.std.specs.FinSet.{contains, insert}
use Rattle.node_kinds.specs.Kept.{places_where}
use Rattle.node_kinds.proofs.Listed.{same_truth}
use Rattle.node_kinds.proofs.Locked.{more_places, no_places}
use Rattle.node_kinds.proofs.closings_kept.first_sections.Goals as goal
use Rattle.node_kinds.proofs.closings_kept.first_sections.Goals.{then-contains, else-contains}

pub loop-place-init : goal.loop-place-init
loop-place-init c test same = c.empty-row.ensures ∙ sym (no_places test)

pub loop-place-preserved : goal.loop-place-preserved
loop-place-preserved c test same =
    let place = c.loop-place.place in
    let so_far = c.loop-place.invariant test same in
    let passes = c.contains.ensures ∙ same_truth (contains c.args.locked place) (test place) (same place) in
    elim c.if-contains.branch [
      | then-contains w ↦ w.row-is ∙ w.with-row.ensures ∙ ap (λ row. insert row place) so_far ∙ sym (more_places test place _ (sym w.if-contains.true ∙ passes))
      | else-contains w ↦ w.row-is ∙ so_far ∙ sym (more_places test place _ (sym w.if-contains.false ∙ passes))
    ]

pub returns : goal.returns
returns c test same = c.loop-place.invariant test same ∙ ap (places_where test) (omega (arith, c.loop-place-test.false, c.loop-place.auto.place-end))
