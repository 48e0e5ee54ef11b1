use Rattle.std.proofs.Common.{◌∙◌, ap}
use Rattle.ixl_state.specs.ixl_spec.State.{RouteState}
use Rattle.ixl_state.specs.ixl_spec.View.{has_authority}
use Rattle.ixl.proofs.Views.{both_first, both_then}
use Rattle.ixl.proofs.authority.has_authority_from.Goals as goal

pub returns-then-begins_at : goal.returns-then-begins_at
returns-then-begins_at c row route kept = both_then c.begins_at.result c.has_authority.result _ _ (c.begins_at.ensures row route kept)
    (c.has_authority.ensures ∙ ap (λ (r : RouteState). has_authority r.phase) (c.route.ensures row route kept)) c.if-begins_at.true

pub returns-else-begins_at : goal.returns-else-begins_at
returns-else-begins_at c row route kept = both_first c.begins_at.result _ _ (c.begins_at.ensures row route kept) c.if-begins_at.false
