use Rattle.std.proofs.Common.{ap, not, refl, ◌∙◌}
use Rattle.std.specs.Prelude.{◌==◌, length}
use Rattle.std.specs.FinSet.{contains}
use Rattle.ixl_state.specs.ixl_spec.Table.{Row}
use Rattle.ixl_state.specs.ixl_spec.View.{is_approach_clear, is_clear}
use Rattle.ixl.proofs.RowLaws.{and_then, clear_of, same_row, set_passes}
use Rattle.ixl.proofs.field_known.is_approach_clear.Goals as goal

pub returns-then-not-is_empty : goal.returns-then-not-is_empty
returns-then-not-is_empty c row route kept =
    and_then c.is_subset.result (not c.is_empty.result) c.is_subset.result _ _ refl (ap not c.if-not-is_empty.true) (ap not (c.is_empty.ensures ∙ ap (λ list. length list == 0) c.approach.ensures))
    (set_passes (is_clear c.args.state.now.sited.table c.args.state.now.ixl) c.row_of-row.result.now.approach c.approach_row.result c.clear.result c.is_subset.result c.approach_row.ensures
    (λ section. clear_of c.args.state.now c.field.result.now (contains c.clear.result section) (λ table ixl. is_clear table ixl section) c.field.ensures (λ table rest same. c.clear.ensures table rest same section))
    c.is_subset.ensures)
    ∙ ap (λ (r : Row). is_approach_clear c.args.state.now.sited.table c.args.state.now.ixl r) (same_row c.args.state.now.sited.table.rows c.args.number c.row_of-row.result.now row c.row_of-row.ensures kept.0)
