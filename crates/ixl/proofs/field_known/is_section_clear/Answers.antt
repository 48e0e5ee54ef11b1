use Rattle.ixl_state.specs.ixl_spec.View.{is_clear}
use Rattle.ixl.proofs.RowLaws.{clear_of}
use Rattle.ixl.proofs.field_known.is_section_clear.Goals as goal

pub returns : goal.returns
returns c = clear_of c.args.state.now c.field.result.now c.is_clear.result (λ table ixl. is_clear table ixl c.args.section) c.field.ensures c.is_clear.ensures
