use Rattle.simulator_recovery.proofs.Lemmas.Lamps.StopComes.{stop_behind_cancel}
use Rattle.simulator_recovery.proofs.lamps.lamps_fall_behind_a_cancel.Goals as goal

pub returns : goal.returns
returns c = λ between later before flowing route row flow. stop_behind_cancel c.laws_below.ensures between later before flowing route row flow.once flow.station flow.table flow.reached
