use Rattle.std.proofs.Common.{refl}
use Rattle.ixl_state.specs.ixl_spec.Step.{Accepted, all_clocked}
use Rattle.ixl_state.specs.ixl_spec.declared.command.Command.TheVariants as commands
use Rattle.ixl_laws.proofs.OperationAnswers.{accepted_is}
use Rattle.ixl_laws.proofs.operations.moves_by_command_go_to_points_that_nothing_holds.Goals as goal

pub returns : goal.returns
unfolding all_clocked
returns c now point side old new step =
    let law = c.move_is_accepted_where_it_may_be.ensures.accepted now old.state.sited.table (all_clocked now old.state.ixl) point side
    in (law.0 (accepted_is now (commands.Move point side) old new Accepted step refl)).unheld
