use Rattle.simulator_recovery.proofs.Lemmas.Rounds.Rounds.{reached_on}
use Rattle.simulator_recovery.proofs.rounds.good_rounds_are_events.Goals as goal

pub returns : goal.returns
returns c = reached_on c.laws_below.ensures
