use Rattle.std.proofs.Common.{◌≡◌}
use Rattle.ixl_state.specs.ixl_spec.View.{is_occupied}
use Rattle.ixl.proofs.Views.{in_state}
use Rattle.ixl.proofs.refusals.is_occupied.Goals as goal

pub returns : goal.returns
returns c = in_state (λ table ixl. c.is_occupied.result ≡ is_occupied table ixl c.args.section) c.args.state.now c.field.result.now c.field.ensures c.is_occupied.ensures
