use Rattle.ixl_state.specs.ixl_spec.View.{is_known}
use Rattle.ixl.proofs.RowLaws.{of_field}
use Rattle.ixl.proofs.field_known.is_point_known.Goals as goal

pub returns : goal.returns
returns c = of_field c.args.state.now c.field.result.now c.is_known.result (λ ixl. is_known ixl c.args.point c.args.side) c.field.ensures c.is_known.ensures
