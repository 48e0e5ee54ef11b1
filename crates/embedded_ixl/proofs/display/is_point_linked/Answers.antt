use Rattle.std.proofs.Common.{◌≡◌}
use Rattle.ixl_state.specs.ixl_spec.View.{is_point_ready}
use Rattle.embedded_ixl.proofs.Views.{of_nodes}
use Rattle.embedded_ixl.proofs.display.is_point_linked.Goals as goal

pub returns : goal.returns
returns c = of_nodes (λ ixl. c.is_point_ready.result ≡ is_point_ready ixl c.args.place) c.args.state.now c.field.result.now c.field.ensures c.is_point_ready.ensures
