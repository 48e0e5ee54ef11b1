use Rattle.std.proofs.Common.{◌∙◌, ap}
use Rattle.ixl_state.specs.ixl_spec.State.{RouteState}
use Rattle.ixl.proofs.Views.{unless_first, unless_then}
use Rattle.ixl.proofs.operations.keeps_open.Goals as goal

pub returns-then-not-is_cancelled : goal.returns-then-not-is_cancelled
returns-then-not-is_cancelled c row route kept = unless_then c.is_cancelled.result c.is_in_use.result _ _
    (c.is_cancelled.ensures ∙ ap (λ (r : RouteState). r.cancelled) (c.route.ensures row route kept)) (c.is_in_use.ensures row route kept) c.if-not-is_cancelled.true

pub returns-else-not-is_cancelled : goal.returns-else-not-is_cancelled
returns-else-not-is_cancelled c row route kept = unless_first c.is_cancelled.result _ _
    (c.is_cancelled.ensures ∙ ap (λ (r : RouteState). r.cancelled) (c.route.ensures row route kept)) c.if-not-is_cancelled.false
