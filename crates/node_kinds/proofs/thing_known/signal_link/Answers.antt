use Rattle.std.proofs.Common.{◌≡◌, ◌∙◌, ap}
use Rattle.simulator_spec.specs.ixl_spec.View.{is_signal_ready}
use Rattle.node_kinds.specs.Interlockings.{link_known}
use Rattle.node_kinds.proofs.Views.{of_nodes}
use Rattle.node_kinds.proofs.thing_known.signal_link.Goals as goal

pub returns : goal.returns
returns c =
    c.link.ensures ∙ ap (link_known c.args.place) (of_nodes (λ ixl. c.is_signal_ready.result ≡ is_signal_ready ixl c.args.place) c.args.state.now c.field.result.now c.field.ensures c.is_signal_ready.ensures)
