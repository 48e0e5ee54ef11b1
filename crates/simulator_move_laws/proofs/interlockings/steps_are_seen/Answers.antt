use Rattle.simulator_move_laws.specs.Rows.{machine_table}
use Rattle.simulator_move_laws.proofs.Interlocking.Whole.{steps_sees}
use Rattle.simulator_move_laws.proofs.interlockings.steps_are_seen.Goals as goal

pub returns : goal.returns
returns c now input table key ixl outbox given machine sees far at_first counted =
    steps_sees now table ixl given machine (c.moves_of_one_are_moves.ensures.signal (machine_table table)) (c.moves_of_one_are_moves.ensures.point (machine_table table))
    (c.lists_of_moves_compose.ensures.then (machine_table table)) c.step_hears_what_was_taken.ensures c.step_is_calls.ensures.receipt at_first counted sees key outbox input far
