use Rattle.simulator_move_laws.proofs.Controllers.Lamps.{elsewhere_seen}
use Rattle.simulator_move_laws.proofs.signals.signals_stay_elsewhere.Goals as goal

pub returns : goal.returns
returns c = elsewhere_seen
