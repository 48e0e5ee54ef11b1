use Rattle.simulator_recovery.proofs.Lemmas.Lamps.ConfirmedStops.{stops_given}
use Rattle.simulator_recovery.proofs.lamps.stop_is_given_last.Goals as goal

pub returns : goal.returns
returns c = stops_given
