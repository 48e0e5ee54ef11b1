use Rattle.ixl_state.specs.ixl_spec.View.{is_point_available}
use Rattle.ixl.proofs.RowLaws.{of_field}
use Rattle.ixl.proofs.field_known.is_point_available.Goals as goal

pub returns : goal.returns
returns c = of_field c.args.state.now c.field.result.now c.is_point_available.result (λ ixl. is_point_available ixl c.args.point) c.field.ensures c.is_point_available.ensures
