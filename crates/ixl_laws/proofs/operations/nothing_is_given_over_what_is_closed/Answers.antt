use Rattle.std.proofs.Common.{refl}
use Rattle.ixl_state.specs.First.{key_of}
use Rattle.ixl_state.specs.ixl_spec.Step.{Accepted, all_clocked}
use Rattle.ixl_state.specs.ixl_spec.declared.command.Command.TheVariants as commands
use Rattle.ixl_laws.proofs.GivenOver.{no_aspect, no_move}
use Rattle.ixl_laws.proofs.InputUses.{input_unused}
use Rattle.ixl_laws.proofs.OperationAnswers.{accepted_is}
use Rattle.ixl_laws.proofs.operations.nothing_is_given_over_what_is_closed.Goals as goal

pub returns-clause-aspects : goal.returns-clause-aspects
returns-clause-aspects c now number input old new step place taken thing unused at gives uses closed =
    no_aspect now input old new step
    (input_unused (λ now table ixl route none. (c.request_is_accepted_where_admissible.ensures.accepted now table ixl route).0 none)
    (λ now table ixl named none. (c.close_is_accepted_where_nothing_is_used.ensures.closed now table ixl named).0 none)
    (λ closed named thing is. (c.a_command_changes_what_it_names_alone.ensures.closed closed named thing).0 is)
    (λ closed named thing is. ((c.a_command_changes_what_it_names_alone.ensures.opened closed named thing).0 is).1)
    now old.state.sited.table (key_of old.state.sited.site) input old.state.ixl unused)
    number place taken thing at gives uses closed

pub returns-clause-moves : goal.returns-clause-moves
returns-clause-moves c now point input old new step place taken unused is_table at gives closed =
    no_move now input old new step
    (input_unused (λ now table ixl route none. (c.request_is_accepted_where_admissible.ensures.accepted now table ixl route).0 none)
    (λ now table ixl named none. (c.close_is_accepted_where_nothing_is_used.ensures.closed now table ixl named).0 none)
    (λ closed named thing is. (c.a_command_changes_what_it_names_alone.ensures.closed closed named thing).0 is)
    (λ closed named thing is. ((c.a_command_changes_what_it_names_alone.ensures.opened closed named thing).0 is).1)
    now old.state.sited.table (key_of old.state.sited.site) input old.state.ixl unused)
    point place taken is_table at gives closed

pub returns-clause-commands : goal.returns-clause-commands
unfolding all_clocked
returns-clause-commands c now point side old new step closed =
    ((c.move_is_accepted_where_it_may_be.ensures.accepted now old.state.sited.table (all_clocked now old.state.ixl) point side).0
    (accepted_is now (commands.Move point side) old new Accepted step refl)).unclosed closed
