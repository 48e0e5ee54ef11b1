use Rattle.simulator_recovery.proofs.Lemmas.Rounds.Rounds.{hold_is_over}
use Rattle.simulator_recovery.proofs.rounds.the_hold_ends.Goals as goal

pub returns : goal.returns
returns c = λ between flowing flow. hold_is_over c.laws_below.ensures between flowing flow.once flow.station flow.reached
