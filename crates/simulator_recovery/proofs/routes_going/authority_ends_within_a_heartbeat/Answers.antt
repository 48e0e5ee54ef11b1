use Rattle.simulator_recovery.proofs.Lemmas.RoutesGoing.WithdrawnEnds.{ends_told}
use Rattle.simulator_recovery.proofs.routes_going.authority_ends_within_a_heartbeat.Goals as goal

pub returns : goal.returns
returns c = λ between later_rounds more flowing signal good few long enough below withdrawn still apart.
    ends_told c.laws_below.ensures c.laws_below.ensures
    between later_rounds more flowing signal good.flow.once good.flow.station good.flow.table good.flow.reached good.work good.works good.time few long enough below withdrawn still apart
