use Rattle.std.proofs.Common.{◌≡◌, ◌∙◌, ap}
use Rattle.ixl_state.specs.ixl_spec.View.{is_held_at, is_point_available}
use Rattle.ixl.proofs.Views.{neither_first, neither_then, of_nodes}
use Rattle.ixl.proofs.refusals.is_point_wanting.Goals as goal

pub returns-then-not-is_point_available : goal.returns-then-not-is_point_available
returns-then-not-is_point_available c = neither_then c.is_point_available.result c.is_held_at.result _ _
    (of_nodes (λ ixl. c.is_point_available.result ≡ is_point_available ixl c.point.result) c.args.state.now c.field.result.now c.field.ensures c.is_point_available.ensures
    ∙ ap (λ p. is_point_available c.args.state.now.ixl p) c.point.ensures)
    (c.is_held_at.ensures ∙ ap (λ p. is_held_at c.args.state.now.sited.table c.args.state.now.ixl p c.side.result) c.point-then-not-is_point_available.ensures
    ∙ ap (λ s. is_held_at c.args.state.now.sited.table c.args.state.now.ixl c.args.need.point s) c.side.ensures)
    c.if-not-is_point_available.true

pub returns-else-not-is_point_available : goal.returns-else-not-is_point_available
returns-else-not-is_point_available c = neither_first c.is_point_available.result _ _
    (of_nodes (λ ixl. c.is_point_available.result ≡ is_point_available ixl c.point.result) c.args.state.now c.field.result.now c.field.ensures c.is_point_available.ensures
    ∙ ap (λ p. is_point_available c.args.state.now.ixl p) c.point.ensures) c.if-not-is_point_available.false
