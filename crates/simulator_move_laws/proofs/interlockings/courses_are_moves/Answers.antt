use Rattle.simulator_move_laws.specs.Rows.{machine_table}
use Rattle.simulator_move_laws.proofs.Interlocking.Events.{all}
use Rattle.simulator_move_laws.proofs.interlockings.courses_are_moves.Goals as goal

pub returns : goal.returns
returns c table meaning moment machine at_first at may =
    all table (c.lists_of_moves_compose.ensures.then (machine_table table))
    (λ now input key outbox ixl given machine sees far counted. c.steps_are_seen.ensures now input table key ixl outbox given machine sees far at_first counted)
    (λ now later ixl given machine order sees alone. c.passing_time_is_moves.ensures now later (machine_table table) ixl given machine order sees alone) meaning moment machine at may
