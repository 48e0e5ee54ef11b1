use Rattle.ixl_state.specs.ixl_spec.Step.{all_clocked}
use Rattle.ixl_state.specs.ixl_spec.declared.command.Command.TheVariants as commands
use Rattle.ixl_laws.proofs.OperationAnswers.{accepted_is, accepted_so, also_there, refused_is}
use Rattle.ixl_laws.proofs.operations.operations_are_accepted_where_they_may_be.Goals as goal

pub returns-clause-released : goal.returns-clause-released
unfolding all_clocked
returns-clause-released c now route old new answer step fits =
    let law = c.release_is_accepted_where_it_may_be.ensures.accepted now old.state.sited.table (all_clocked now old.state.ixl) route
    (λ state is. also_there old.state.ixl.routes old.state.sited.table.rows route.0 state fits.each is)
    in (
      λ accepts. law.0 (accepted_is now (commands.Release route) old new answer step accepts),
      λ may. accepted_so now (commands.Release route) old new answer step (law.1 may),
    )

pub returns-clause-unreleased : goal.returns-clause-unreleased
unfolding all_clocked
returns-clause-unreleased c now route old new answer cause step fits refuses =
    c.release_is_accepted_where_it_may_be.ensures.refused now old.state.sited.table (all_clocked now old.state.ixl) route
    (λ state is. also_there old.state.ixl.routes old.state.sited.table.rows route.0 state fits.each is) cause
    (refused_is now (commands.Release route) old new answer cause step refuses)

pub returns-clause-moved : goal.returns-clause-moved
returns-clause-moved c now point side old new answer step =
    let law = c.move_is_accepted_where_it_may_be.ensures.accepted now old.state.sited.table (all_clocked now old.state.ixl) point side
    in (
      λ accepts. law.0 (accepted_is now (commands.Move point side) old new answer step accepts),
      λ may. accepted_so now (commands.Move point side) old new answer step (law.1 may),
    )

pub returns-clause-unmoved : goal.returns-clause-unmoved
returns-clause-unmoved c now point side old new answer cause step refuses =
    c.move_is_accepted_where_it_may_be.ensures.refused now old.state.sited.table (all_clocked now old.state.ixl) point side cause
    (refused_is now (commands.Move point side) old new answer cause step refuses)

pub returns-clause-closed : goal.returns-clause-closed
returns-clause-closed c now named old new answer step =
    let law = c.close_is_accepted_where_nothing_is_used.ensures.closed now old.state.sited.table (all_clocked now old.state.ixl) named
    in (
      λ accepts. law.0 (accepted_is now (commands.Close named) old new answer step accepts),
      λ may. accepted_so now (commands.Close named) old new answer step (law.1 may),
    )

pub returns-clause-unclosed : goal.returns-clause-unclosed
returns-clause-unclosed c now named old new answer cause step refuses =
    c.close_is_accepted_where_nothing_is_used.ensures.refused now old.state.sited.table (all_clocked now old.state.ixl) named cause
    (refused_is now (commands.Close named) old new answer cause step refuses)

pub returns-clause-opened : goal.returns-clause-opened
returns-clause-opened c now named old new answer step =
    let law = c.close_is_accepted_where_nothing_is_used.ensures.opened now old.state.sited.table (all_clocked now old.state.ixl) named
    in (
      λ accepts. law.0 (accepted_is now (commands.Open named) old new answer step accepts),
      λ there. accepted_so now (commands.Open named) old new answer step (law.1 there),
    )
