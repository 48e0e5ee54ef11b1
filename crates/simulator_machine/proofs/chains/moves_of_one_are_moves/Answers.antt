use Rattle.simulator_machine.proofs.Composed.{signal_chain, point_chain}
use Rattle.simulator_machine.proofs.chains.moves_of_one_are_moves.Goals as goal

pub returns-clause-signal : goal.returns-clause-signal
returns-clause-signal c = signal_chain

pub returns-clause-point : goal.returns-clause-point
returns-clause-point c = point_chain
