use Rattle.simulator_recovery.proofs.Lemmas.Lamps.ConfirmedStops.{none_proceeds}
use Rattle.simulator_recovery.proofs.lamps.withdrawn_routes_stand_alone.Goals as goal

pub returns : goal.returns
returns c = none_proceeds
