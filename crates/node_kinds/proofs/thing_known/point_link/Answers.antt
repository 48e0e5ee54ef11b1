use Rattle.std.proofs.Common.{◌≡◌, ◌∙◌, ◌+◌, ap, length}
use Rattle.simulator_spec.specs.ixl_spec.View.{is_point_ready}
use Rattle.ixl_state.specs.ixl_known.Field.{FieldState}
use Rattle.node_kinds.specs.Interlockings.{link_known}
use Rattle.node_kinds.proofs.Views.{of_nodes}
use Rattle.node_kinds.proofs.thing_known.point_link.Goals as goal

pub returns : goal.returns
returns c =
    let state = c.args.state.now in
    let signals = c.signals.ensures ∙ ap (λ (f : FieldState). length f.known_signals) c.field-field.ensures in
    c.link.ensures
    ∙ ap (λ n. link_known (n + c.args.place) c.is_point_ready.result) signals
    ∙ ap (link_known (length state.ixl.known_signals + c.args.place))
    (of_nodes (λ ixl. c.is_point_ready.result ≡ is_point_ready ixl c.args.place) state c.field-field.result.now c.field-field.ensures c.is_point_ready.ensures)
