use Rattle.simulator_move_laws.specs.Rows.{machine_table}
use Rattle.simulator_move_laws.proofs.Interlocking.RulesKept.{rules_kept}
use Rattle.simulator_move_laws.proofs.rules.rules_are_moves.Goals as goal

pub returns : goal.returns
returns c now input table ixl given machine part far at_first leads =
    rules_kept now input table ixl given machine far (c.moves_of_one_are_moves.ensures.signal (machine_table table)) (c.moves_of_one_are_moves.ensures.point (machine_table table))
    (c.lists_of_moves_compose.ensures.then (machine_table table)) c.step_hears_what_was_taken.ensures c.step_is_calls.ensures.receipt at_first part leads
