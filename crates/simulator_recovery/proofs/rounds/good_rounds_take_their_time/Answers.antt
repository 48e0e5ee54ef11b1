use Rattle.simulator_recovery.proofs.Lemmas.Rounds.Rounds.{take_their_time}
use Rattle.simulator_recovery.proofs.rounds.good_rounds_take_their_time.Goals as goal

pub returns : goal.returns
returns c = λ between flowing flow. take_their_time c.laws_below.ensures between flowing flow.once flow.station flow.reached
