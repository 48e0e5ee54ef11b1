use Rattle.simulator_recovery.proofs.Lemmas.Points.MovesAnswered.{come_back}
use Rattle.simulator_recovery.proofs.points.reports_come_back.Goals as goal

pub returns : goal.returns
returns c = λ between last later flowing place good. come_back c.laws_below.ensures between last later flowing place good.flow.once good.flow.station good.flow.table good.flow.reached good.work good.works good.time
