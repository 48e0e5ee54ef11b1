use Rattle.std.proofs.Common.{◌≡◌, ◌∙◌, sym, subst, Option, None}
use Rattle.std.specs.Prelude.{◌↔◌}
use Rattle.ixl_state.specs.ixl_spec.Due.{Admissible}
use Rattle.ixl_state.specs.ixl_spec.Step.{all_clocked}
use Rattle.ixl_state.specs.ixl_spec.declared.command.Command.TheVariants.{Request}
use Rattle.ixl_state.specs.ixl_spec.declared.command.Refusal.{Refusal}
use Rattle.embedded_ixl.proofs.Requests.{cause_is}
use Rattle.embedded_ixl.proofs.laws.a_request_is_accepted_where_admissible.Goals as goal

pub returns-clause-accepted : goal.returns-clause-accepted
returns-clause-accepted c now route it =
    let state = it.interlocking.state in
    subst (λ (cause : Option Refusal). (cause ≡ None) ↔ Admissible now state.sited.table (all_clocked now state.ixl) route.0) (sym (cause_is now (Request route) it))
    (c.request_is_accepted_where_admissible.ensures.accepted now state.sited.table (all_clocked now state.ixl) route)

pub returns-clause-refused : goal.returns-clause-refused
returns-clause-refused c now route it cause is =
    let state = it.interlocking.state in
    c.request_is_accepted_where_admissible.ensures.refused now state.sited.table (all_clocked now state.ixl) route cause (sym (cause_is now (Request route) it) ∙ is)
