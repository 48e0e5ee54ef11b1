use Rattle.std.proofs.Common.{ap, ◌∙◌}
use Rattle.std.specs.FinSet.{contains}
use Rattle.ixl_state.specs.ixl_spec.Table.{Row}
use Rattle.ixl_state.specs.ixl_spec.View.{all_clear, is_clear}
use Rattle.ixl.proofs.RowLaws.{clear_of, same_row, set_passes}
use Rattle.ixl.proofs.field_known.are_sections_clear.Goals as goal

pub returns : goal.returns
returns c row route kept =
    set_passes (is_clear c.args.state.now.sited.table c.args.state.now.ixl) c.row_of-row.result.now.sections c.section_row.result c.clear.result c.is_subset.result c.section_row.ensures
    (λ section. clear_of c.args.state.now c.field.result.now (contains c.clear.result section) (λ table ixl. is_clear table ixl section) c.field.ensures (λ table rest same. c.clear.ensures table rest same section))
    c.is_subset.ensures
    ∙ ap (λ (r : Row). all_clear c.args.state.now.sited.table c.args.state.now.ixl r.sections) (same_row c.args.state.now.sited.table.rows c.args.number c.row_of-row.result.now row c.row_of-row.ensures kept.0)
