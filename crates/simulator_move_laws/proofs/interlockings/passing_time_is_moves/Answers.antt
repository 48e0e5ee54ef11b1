use Rattle.simulator_move_laws.proofs.Interlocking.ClockPasses.{passes}
use Rattle.simulator_move_laws.proofs.interlockings.passing_time_is_moves.Goals as goal

pub returns : goal.returns
returns c now later table ixl given machine order sees alone =
    passes now later ixl order table given machine sees alone (c.moves_of_each_are_moves.ensures.signals table) (c.moves_of_each_are_moves.ensures.points table) (c.lists_of_moves_compose.ensures.then table)
