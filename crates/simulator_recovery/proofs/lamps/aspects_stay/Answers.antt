use Rattle.simulator_recovery.proofs.Lemmas.Lamps.ProceedsStays.{stays_shown}
use Rattle.simulator_recovery.proofs.lamps.aspects_stay.Goals as goal

pub returns : goal.returns
returns c = λ between later more flowing number row flow. stays_shown c.laws_below.ensures between later more flowing number row flow.once flow.station flow.table flow.reached
