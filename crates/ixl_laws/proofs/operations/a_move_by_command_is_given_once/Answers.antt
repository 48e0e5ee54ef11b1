use Rattle.std.proofs.Common.{refl}
use Rattle.ixl_state.specs.ixl_spec.Step.{Accepted, Refused, all_clocked}
use Rattle.ixl_state.specs.ixl_spec.declared.command.Command.TheVariants as commands
use Rattle.ixl_laws.proofs.MovedOnce.{moved_once, nothing_moved}
use Rattle.ixl_laws.proofs.OperationAnswers.{accepted_is, refused_is}
use Rattle.ixl_laws.proofs.operations.a_move_by_command_is_given_once.Goals as goal

pub returns-clause-given : goal.returns-clause-given
returns-clause-given c now point side old new step accepts =
    let none = accepted_is now (commands.Move point side) old new Accepted accepts refl
    in let may = (c.move_is_accepted_where_it_may_be.ensures.accepted now old.state.sited.table (all_clocked now old.state.ixl) point side).0 none
    in moved_once now point side old (c.initialisations_go_out_in_order.ensures.command now) none may.available new step

pub returns-clause-refused : goal.returns-clause-refused
returns-clause-refused c now point side old new cause refuses =
    nothing_moved now point side old cause (refused_is now (commands.Move point side) old new (Refused cause) cause refuses refl)
