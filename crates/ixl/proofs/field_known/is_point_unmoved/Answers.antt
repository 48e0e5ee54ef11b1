use Rattle.ixl_state.specs.ixl_spec.Rules.{is_unmoved}
use Rattle.ixl.proofs.RowLaws.{of_field}
use Rattle.ixl.proofs.field_known.is_point_unmoved.Goals as goal

pub returns : goal.returns
returns c = of_field c.args.state.now c.field.result.now c.is_unmoved.result (λ ixl. is_unmoved ixl c.args.point c.args.number) c.field.ensures c.is_unmoved.ensures
