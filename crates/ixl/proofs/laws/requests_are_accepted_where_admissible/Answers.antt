use Rattle.ixl_state.specs.ixl_spec.Step.{all_clocked}
use Rattle.ixl_state.specs.First.{key_of}
use Rattle.ixl_state.specs.ixl_spec.declared.command.Command.TheVariants as commands
use Rattle.ixl.proofs.StepAnswers.{accepted_is, accepted_so, refused_is}
use Rattle.ixl.proofs.laws.requests_are_accepted_where_admissible.Goals as goal

pub returns-clause-accepted : goal.returns-clause-accepted
returns-clause-accepted c now route old new answer stepped =
    let law = c.request_is_accepted_where_admissible.ensures.accepted now old.state.sited.table (all_clocked now old.state.ixl) route
    in (
      λ accepts. law.0 (accepted_is now old.state.sited.table (key_of old.state.sited.site) (commands.Request route) old.state.ixl answer stepped.answered accepts),
      λ admissible. accepted_so now old.state.sited.table (key_of old.state.sited.site) (commands.Request route) old.state.ixl answer stepped.answered (law.1 admissible),
    )

pub returns-clause-refused : goal.returns-clause-refused
returns-clause-refused c now route old new answer cause stepped refuses =
    c.request_is_accepted_where_admissible.ensures.refused now old.state.sited.table (all_clocked now old.state.ixl) route cause
    (refused_is now old.state.sited.table (key_of old.state.sited.site) (commands.Request route) old.state.ixl answer cause stepped.answered refuses)
