use Rattle.simulator_recovery.proofs.Lemmas.RoutesGoing.AuthorityFree.{free_behind_cancel}
use Rattle.simulator_recovery.proofs.routes_going.routes_are_free_behind_a_cancel.Goals as goal

pub returns : goal.returns
returns c = λ between later_rounds before more flowing route row flow work works before_works more_works apart can there long enough below proceeds accepted.
    free_behind_cancel c.laws_below.ensures.route_is_freed_where_cancel_lets_it_go c.laws_below.ensures between later_rounds before more flowing route row flow.once flow.station flow.table flow.reached work works before_works more_works apart can there long enough below proceeds accepted
