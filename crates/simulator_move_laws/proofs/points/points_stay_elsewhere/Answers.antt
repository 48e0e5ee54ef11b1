use Rattle.simulator_move_laws.proofs.Controllers.Turns.{elsewhere_seen}
use Rattle.simulator_move_laws.proofs.points.points_stay_elsewhere.Goals as goal

pub returns : goal.returns
returns c = elsewhere_seen
