use Rattle.simulator_move_laws.proofs.Interlocking.Ticks.{ticks_lead}
use Rattle.simulator_move_laws.proofs.on_tick.ticks_are_moves.Goals as goal

pub returns : goal.returns
returns c now table ixl given machine part far leads =
    ticks_lead now table ixl given machine far (c.moves_of_one_are_moves.ensures.signal table) (c.moves_of_one_are_moves.ensures.point table) (c.lists_of_moves_compose.ensures.then table) part leads
