use Rattle.std.proofs.Common.{ap, ◌∙◌}
use Rattle.ixl_state.specs.ixl_spec.View.{is_signal_ready}
use Rattle.ixl.proofs.RowLaws.{of_field}
use Rattle.ixl.proofs.field_known.is_signal_ready.Goals as goal

pub returns : goal.returns
returns c row route kept =
    of_field c.args.state.now c.field.result.now c.is_signal_ready.result (λ ixl. is_signal_ready ixl c.entry.result) c.field.ensures c.is_signal_ready.ensures
    ∙ ap (is_signal_ready c.args.state.now.ixl) (c.entry.ensures row route kept)
