use Rattle.simulator_move_laws.specs.Rows.{machine_table}
use Rattle.simulator_move_laws.proofs.Interlocking.Nodes.{known_signal_hears}
use Rattle.simulator_move_laws.proofs.Interlocking.KnownPointNodes.{known_point_hears}
use Rattle.simulator_move_laws.proofs.datagrams.datagrams_are_moves.Goals as goal

pub returns-clause-signal : goal.returns-clause-signal
returns-clause-signal c now input table ixl given machine part far leads bytes place from =
    known_signal_hears now input (machine_table table) ixl given machine far (c.moves_of_one_are_moves.ensures.signal (machine_table table))
    (c.lists_of_moves_compose.ensures.then (machine_table table)) bytes place part from leads

pub returns-clause-point : goal.returns-clause-point
returns-clause-point c now input table ixl given machine part far leads bytes place from =
    known_point_hears now input (machine_table table) ixl given machine far (c.moves_of_one_are_moves.ensures.point (machine_table table))
    (c.lists_of_moves_compose.ensures.then (machine_table table)) c.step_hears_what_was_taken.ensures c.step_is_calls.ensures.receipt bytes place part from leads
