use Rattle.simulator_recovery.proofs.Lemmas.RoutesGoing.BetweenWithdrawals.{many_withdrawn}
use Rattle.simulator_recovery.proofs.routes_going.authority_ends_behind_a_withdrawal.Goals as goal

pub returns : goal.returns
returns c = λ between later_rounds last more flowing signal good few long enough below withdrawn not_yet still apart.
    many_withdrawn c.laws_below.ensures more between later_rounds last flowing signal good.flow.once good.flow.station good.flow.table good.flow.reached good.work good.works good.time few long enough below withdrawn not_yet still apart
