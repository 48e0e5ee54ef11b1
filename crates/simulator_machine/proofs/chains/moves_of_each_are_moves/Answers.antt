use Rattle.simulator_machine.proofs.Composed.{signal_chains, point_chains}
use Rattle.simulator_machine.proofs.chains.moves_of_each_are_moves.Goals as goal

pub returns-clause-signals : goal.returns-clause-signals
returns-clause-signals c = signal_chains

pub returns-clause-points : goal.returns-clause-points
returns-clause-points c = point_chains
