use Rattle.simulator_recovery.proofs.Lemmas.Points.BeginsReports.{stays_far}
use Rattle.simulator_recovery.proofs.Lemmas.Rounds.FlowsStay.{noted}
use Rattle.simulator_recovery.proofs.points.drives_stay_far_from_their_limit.Goals as goal

pub returns : goal.returns
returns c = λ between later flowing place side since good few. stays_far c.laws_below.ensures between later flowing place side since good.flow.once good.flow.station good.flow.table good.flow.reached good.work good.works good.time few (noted good.flow)
