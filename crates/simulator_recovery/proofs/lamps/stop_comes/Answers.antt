use Rattle.simulator_recovery.proofs.Lemmas.Lamps.StopComes.{stop_comes}
use Rattle.simulator_recovery.proofs.lamps.stop_comes.Goals as goal

pub returns : goal.returns
returns c = λ between later flowing signal flow. stop_comes c.laws_below.ensures between later flowing signal flow.once flow.station flow.table flow.reached
