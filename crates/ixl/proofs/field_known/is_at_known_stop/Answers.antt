use Rattle.std.proofs.Common.{ap, ◌∙◌}
use Rattle.ixl_state.specs.ixl_spec.View.{is_at_known_stop}
use Rattle.ixl.proofs.RowLaws.{of_field}
use Rattle.ixl.proofs.field_known.is_at_known_stop.Goals as goal

pub returns : goal.returns
returns c row route kept =
    of_field c.args.state.now c.field.result.now c.is_at_known_stop.result (λ ixl. is_at_known_stop c.args.now ixl c.entry.result) c.field.ensures c.is_at_known_stop.ensures
    ∙ ap (is_at_known_stop c.args.now c.args.state.now.ixl) (c.entry.ensures row route kept)
