use Rattle.simulator_recovery.proofs.Words.Basics.{◌∷◌}
use Rattle.simulator_recovery.proofs.Lemmas.Points.BeginsAnswered.{answered}
use Rattle.simulator_recovery.proofs.Lemmas.Rounds.FlowsStay.{noted}
use Rattle.simulator_recovery.proofs.Lemmas.Points.RoomBehind.{room_behind}
use Rattle.simulator_recovery.proofs.points.moves_are_answered.Goals as goal

pub returns : goal.returns
returns c = λ between later more flowing place good few long many below. answered c.laws_below.ensures c.laws_below.ensures between later more flowing place good.flow.once good.flow.station good.flow.table good.flow.reached good.work good.works good.time few (noted good.flow) long many below
    (room_behind c.laws_below.ensures c.points_controllers_never_fill_their_windows.ensures flowing good.flow.once good.flow.station good.flow.table good.flow.reached place (between ∷ later) more)
