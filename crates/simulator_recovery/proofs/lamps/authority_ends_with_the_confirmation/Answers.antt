use Rattle.simulator_recovery.proofs.Lemmas.Lamps.ConfirmedStops.{not_outlived}
use Rattle.simulator_recovery.proofs.lamps.authority_ends_with_the_confirmation.Goals as goal

pub returns : goal.returns
returns c = not_outlived
