use Rattle.std.proofs.Common.{◌≡◌}
use Rattle.ixl_state.specs.ixl_spec.View.{is_at_known_stop, is_signal_ready}
use Rattle.ixl.proofs.Views.{both_first, both_then, of_nodes}
use Rattle.ixl.proofs.refusals.is_signal_there.Goals as goal

pub returns-then-is_signal_ready : goal.returns-then-is_signal_ready
returns-then-is_signal_ready c = both_then c.is_signal_ready.result c.is_at_known_stop.result _ _
    (of_nodes (λ ixl. c.is_signal_ready.result ≡ is_signal_ready ixl c.args.signal) c.args.state.now c.field.result.now c.field.ensures c.is_signal_ready.ensures)
    (of_nodes (λ ixl. c.is_at_known_stop.result ≡ is_at_known_stop c.args.now ixl c.args.signal) c.args.state.now c.field-then-is_signal_ready.result.now c.field-then-is_signal_ready.ensures c.is_at_known_stop.ensures)
    c.if-is_signal_ready.true

pub returns-else-is_signal_ready : goal.returns-else-is_signal_ready
returns-else-is_signal_ready c = both_first c.is_signal_ready.result _ _
    (of_nodes (λ ixl. c.is_signal_ready.result ≡ is_signal_ready ixl c.args.signal) c.args.state.now c.field.result.now c.field.ensures c.is_signal_ready.ensures) c.if-is_signal_ready.false
