use Rattle.simulator_recovery.proofs.Lemmas.Lamps.SeenSignals.{falls_to_stop}
use Rattle.simulator_recovery.proofs.lamps.lamps_follow_what_was_given.Goals as goal

pub returns : goal.returns
returns c = falls_to_stop c.laws_below.ensures
