use Rattle.simulator_recovery.proofs.Lemmas.Points.DrivenPoints.{drives_end}
use Rattle.simulator_recovery.proofs.Lemmas.Rounds.FlowsStay.{noted}
use Rattle.simulator_recovery.proofs.points.driven_points_reach.Goals as goal

pub returns : goal.returns
returns c = λ rounds flowing place side flow works. drives_end rounds flowing place side works (noted flow)
