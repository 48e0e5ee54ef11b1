use Rattle.std.proofs.Common.{◌∙◌, ap, sym, arith}
use Rattle.std.specs.FinSet.{insert}
use Rattle.node_kinds.specs.Kept.{is_held, places_where}
use Rattle.node_kinds.proofs.Locked.{more_places, no_places}
use Rattle.node_kinds.proofs.closings_kept.points_held.Goals as goal
use Rattle.node_kinds.proofs.closings_kept.points_held.Goals.{then-is_held, else-is_held}

pub loop-point-init : goal.loop-point-init
loop-point-init c = c.empty-row.ensures ∙ sym (no_places (is_held c.args.state.now.sited.table c.args.state.now.ixl))

pub loop-point-preserved : goal.loop-point-preserved
loop-point-preserved c =
    let point = c.loop-point.point in
    let test = is_held c.args.state.now.sited.table c.args.state.now.ixl in
    elim c.if-is_held.branch [
      | then-is_held w ↦ w.row-is ∙ w.with-row.ensures ∙ ap (λ row. insert row point) c.loop-point.invariant ∙ sym (more_places test point _ (sym w.if-is_held.true ∙ c.is_held.ensures))
      | else-is_held w ↦ w.row-is ∙ c.loop-point.invariant ∙ sym (more_places test point _ (sym w.if-is_held.false ∙ c.is_held.ensures))
    ]

pub returns : goal.returns
returns c = c.loop-point.invariant ∙ ap (places_where (is_held c.args.state.now.sited.table c.args.state.now.ixl)) (omega (arith, c.loop-point-test.false, c.loop-point.auto.point-end))
