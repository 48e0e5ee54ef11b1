use Rattle.simulator_recovery.proofs.Lemmas.Lamps.ProceedsRounds.{route_shows}
use Rattle.simulator_recovery.proofs.lamps.routes_show_their_aspect.Goals as goal

pub returns : goal.returns
returns c = λ between later flowing number row flow. route_shows c.laws_below.ensures between later flowing number row flow.once flow.station flow.table flow.reached
