use Rattle.simulator_recovery.proofs.Lemmas.Points.BeginsTaken.{moves_reported}
use Rattle.simulator_recovery.proofs.Lemmas.Rounds.FlowsStay.{noted}
use Rattle.simulator_recovery.proofs.points.moves_that_are_out_are_reported.Goals as goal

pub returns : goal.returns
returns c = λ between later more flowing place side good few long many. moves_reported c.laws_below.ensures c.laws_below.ensures c.laws_below.ensures.move_is_given_where_due c.laws_below.ensures.request_is_accepted_where_admissible c.points_controllers_never_fill_their_windows.ensures
    between more flowing place side good.flow.once good.flow.station good.flow.table good.flow.reached good.work few (noted good.flow) many later good.works good.time long
