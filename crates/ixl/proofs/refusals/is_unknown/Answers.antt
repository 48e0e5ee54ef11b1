use Rattle.std.proofs.Common.{◌≡◌}
use Rattle.ixl_state.specs.ixl_spec.View.{is_clear, is_occupied}
use Rattle.ixl.proofs.Views.{in_state, neither_first, neither_then}
use Rattle.ixl.proofs.refusals.is_unknown.Goals as goal

pub returns-then-not-is_clear : goal.returns-then-not-is_clear
returns-then-not-is_clear c = neither_then c.is_clear.result c.is_occupied.result _ _
    (in_state (λ table ixl. c.is_clear.result ≡ is_clear table ixl c.args.section) c.args.state.now c.field.result.now c.field.ensures c.is_clear.ensures)
    (in_state (λ table ixl. c.is_occupied.result ≡ is_occupied table ixl c.args.section) c.args.state.now c.field-then-not-is_clear.result.now c.field-then-not-is_clear.ensures c.is_occupied.ensures)
    c.if-not-is_clear.true

pub returns-else-not-is_clear : goal.returns-else-not-is_clear
returns-else-not-is_clear c = neither_first c.is_clear.result _ _
    (in_state (λ table ixl. c.is_clear.result ≡ is_clear table ixl c.args.section) c.args.state.now c.field.result.now c.field.ensures c.is_clear.ensures) c.if-not-is_clear.false
