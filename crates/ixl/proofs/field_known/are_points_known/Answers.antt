use Rattle.std.proofs.Common.{ap, sym, ◌∙◌}
use Rattle.std.specs.Prelude.{◌&&◌}
use Rattle.std.specs.FinSet.{contains}
use Rattle.ixl_state.specs.sci_telegram.declared.message.Side.TheVariants as sides
use Rattle.ixl_state.specs.ixl_spec.Table.{Row}
use Rattle.ixl_state.specs.ixl_spec.View.{all_known, is_known}
use Rattle.ixl.proofs.RowLaws.{of_field, points_known, points_unknown, same_row}
use Rattle.ixl.proofs.field_known.are_points_known.Goals as goal

pub returns-then-is_subset : goal.returns-then-is_subset
returns-then-is_subset c row route kept =
    sym (ap (λ b. b && c.is_subset-then-is_subset.result) c.if-is_subset.true)
    ∙ points_known c.args.state.now.ixl c.row_of-row.result.now.needs c.right_row.result c.left_row.result c.known_right.result c.known_left.result c.is_subset.result c.is_subset-then-is_subset.result c.right_row.ensures c.left_row.ensures
    (λ point. of_field c.args.state.now c.field-field.result.now (contains c.known_right.result point) (λ ixl. is_known ixl point sides.Right) c.field-field.ensures (λ rest. c.known_right.ensures rest point))
    (λ point. of_field c.args.state.now c.field-field.result.now (contains c.known_left.result point) (λ ixl. is_known ixl point sides.Left) c.field-field.ensures (λ rest. c.known_left.ensures rest point))
    c.is_subset.ensures c.is_subset-then-is_subset.ensures
    ∙ ap (λ (r : Row). all_known c.args.state.now.ixl r.needs) (same_row c.args.state.now.sited.table.rows c.args.number c.row_of-row.result.now row c.row_of-row.ensures kept.0)

pub returns-else-is_subset : goal.returns-else-is_subset
returns-else-is_subset c row route kept =
    points_unknown c.args.state.now.ixl c.row_of-row.result.now.needs c.right_row.result c.known_right.result c.is_subset.result c.right_row.ensures
    (λ point. of_field c.args.state.now c.field-field.result.now (contains c.known_right.result point) (λ ixl. is_known ixl point sides.Right) c.field-field.ensures (λ rest. c.known_right.ensures rest point))
    c.is_subset.ensures c.if-is_subset.false
    ∙ ap (λ (r : Row). all_known c.args.state.now.ixl r.needs) (same_row c.args.state.now.sited.table.rows c.args.number c.row_of-row.result.now row c.row_of-row.ensures kept.0)
