use Rattle.std.proofs.Common.{◌∙◌, ap}
use Rattle.ixl_state.specs.ixl_spec.Rules.{is_release_over}
use Rattle.ixl_state.specs.ixl_spec.State.{RouteState}
use Rattle.ixl.proofs.Views.{either_first, either_then}
use Rattle.ixl.proofs.cancel_rule.lets_go.Goals as goal

pub returns-then-none_came : goal.returns-then-none_came
returns-then-none_came c row route kept = either_first c.none_came.result _ _ (c.none_came.ensures row route kept) c.if-none_came.true

pub returns-else-none_came : goal.returns-else-none_came
returns-else-none_came c row route kept =
    either_then c.none_came.result c.is_release_over.result _ _ (c.none_came.ensures row route kept)
    (c.is_release_over.ensures ∙ ap (λ (r : RouteState). is_release_over c.args.now r.released) (c.route.ensures row route kept)) c.if-none_came.false
