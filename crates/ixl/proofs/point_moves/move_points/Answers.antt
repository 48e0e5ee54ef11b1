use Rattle.std.proofs.Common.{◌≡◌, length, get_or, arith, ap, sym, ◌∙◌, subst}
use Rattle.std.specs.Prelude.{Some, slice_get}
use Rattle.ixl_state.specs.ixl_spec.Table.{Row}
use Rattle.ixl_state.specs.ixl_table.Table.{SitedTable}
use Rattle.ixl.proofs.Rules.{all_moved, no_point_moved, no_route_moved, one_moved}
use Rattle.ixl.proofs.RowLaws.{same_row}
use Rattle.ixl.proofs.point_moves.move_points.Goals.{then-not-waits-via-then-not-waits, then-not-waits-via-else-not-waits+then-are_points_known}
use Rattle.ixl.proofs.point_moves.move_points.Goals as goal

pub returns-then-not-waits : goal.returns-then-not-waits
returns-then-not-waits c = elim c.then-not-waits.branch [
  | then-not-waits-via-then-not-waits w ↦ no_route_moved c.args.now c.args.number c.args.state.now c.args.outbox.now c.waits.result c.keeps_route.ensures.kept c.requires.clock c.waits.ensures w.if-not-waits.true
  | then-not-waits-via-else-not-waits+then-are_points_known w ↦ no_point_moved c.args.now c.args.number c.args.state.now c.args.outbox.now w.are_points_known.result c.keeps_route.ensures.kept c.requires.clock w.are_points_known.ensures w.if-are_points_known.true
]

pub loop-place-preserved : goal.loop-place-preserved
loop-place-preserved c =
    one_moved c.args.now c.args.number c.loop-place.place c.index-needs-place.result c.args.state.now c.args.outbox.now c.loop-place.state c.loop-place.outbox c.move_point.new.state c.move_point.new.outbox c.loop-place.invariant
    (λ row route kept.
    let at_start : c.needs-place-end.result.now ≡ row.needs = c.needs-place-end.ensures ∙ ap (λ (r : Row). r.needs) (same_row c.args.state.now.sited.table.rows c.args.number c.row_of.result.now row c.row_of.ensures kept.0)
    in let now_there : slice_get c.loop-place.state.sited.table.rows c.args.number ≡ Some row = subst (λ (p : SitedTable). slice_get p.table.rows c.args.number ≡ Some row) (sym (c.loop-place.invariant row route kept).sited) kept.0
    in let same : c.needs.result.now ≡ row.needs = c.needs.ensures ∙ ap (λ (r : Row). r.needs) (same_row c.loop-place.state.sited.table.rows c.args.number c.row_of-in-loop-place.result.now row c.row_of-in-loop-place.ensures now_there)
    in (omega (arith, c.loop-place-test.true, ap length at_start), c.index-needs-place.is ∙ ap (λ list. get_or list c.loop-place.place c.index-needs-place.result) same))
    c.move_point.ensures

pub returns : goal.returns
returns c = all_moved c.args.now c.args.number c.loop-place.place c.args.state.now c.args.outbox.now c.loop-place.state c.loop-place.outbox c.keeps_route.ensures.kept
    (λ row route kept.
    let same : length c.needs-place-end.result.now ≡ length row.needs = ap length (c.needs-place-end.ensures ∙ ap (λ (r : Row). r.needs) (same_row c.args.state.now.sited.table.rows c.args.number c.row_of.result.now row c.row_of.ensures kept.0))
    in (omega (arith, same, c.loop-place-test.false, c.loop-place.auto.place-end), c.required_points_are_few.ensures row route kept)) c.loop-place.invariant
