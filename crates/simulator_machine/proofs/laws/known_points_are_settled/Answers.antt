use Rattle.simulator_machine.proofs.Points.{known_settled}
use Rattle.simulator_machine.proofs.laws.known_points_are_settled.Goals as goal

pub returns : goal.returns
returns c = known_settled
