use Rattle.simulator_recovery.proofs.Lemmas.RoutesGoing.BetweenEnds.{many_given}
use Rattle.simulator_recovery.proofs.routes_going.authority_ends_where_stop_is_given.Goals as goal

pub returns : goal.returns
returns c = λ between later_rounds last more flowing signal good few long enough below gave none still apart.
    many_given c.laws_below.ensures more between later_rounds last flowing signal good.flow.once good.flow.station good.flow.table good.flow.reached good.work good.works good.time few long enough below gave none still apart
