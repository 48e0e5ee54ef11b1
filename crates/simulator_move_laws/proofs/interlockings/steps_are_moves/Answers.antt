use Rattle.ixl_spec.specs.Step.{Commands, Datagram, Tick, stepped, ticked}
use Rattle.simulator_move_laws.specs.Rows.{machine_table}
use Rattle.simulator_move_laws.proofs.Interlocking.Steps.{steps_so}
use Rattle.simulator_move_laws.proofs.Interlocking.Whole.{steps_lead}
use Rattle.simulator_move_laws.proofs.interlockings.steps_are_moves.Goals as goal

pub returns-clause-datagram : goal.returns-clause-datagram
unfolding stepped ticked
returns-clause-datagram c now table key bytes ixl outbox given machine sees far at_first counted =
    steps_so now (Datagram bytes) table ixl given machine far (c.moves_of_one_are_moves.ensures.signal (machine_table table)) (c.moves_of_one_are_moves.ensures.point (machine_table table))
    (c.lists_of_moves_compose.ensures.then (machine_table table)) c.step_hears_what_was_taken.ensures c.step_is_calls.ensures.receipt at_first counted sees key outbox

pub returns-clause-command : goal.returns-clause-command
unfolding stepped ticked
returns-clause-command c now table key command ixl outbox given machine sees far at_first counted =
    steps_so now (Commands command) table ixl given machine far (c.moves_of_one_are_moves.ensures.signal (machine_table table)) (c.moves_of_one_are_moves.ensures.point (machine_table table))
    (c.lists_of_moves_compose.ensures.then (machine_table table)) c.step_hears_what_was_taken.ensures c.step_is_calls.ensures.receipt at_first counted sees key outbox

pub returns-clause-tick : goal.returns-clause-tick
returns-clause-tick c now table key ixl outbox given machine sees far at_first counted =
    steps_lead now table ixl given machine (c.moves_of_one_are_moves.ensures.signal (machine_table table)) (c.moves_of_one_are_moves.ensures.point (machine_table table))
    (c.lists_of_moves_compose.ensures.then (machine_table table)) c.step_hears_what_was_taken.ensures c.step_is_calls.ensures.receipt at_first counted sees key outbox Tick far
