use Rattle.simulator_recovery.proofs.Lemmas.RoutesGoing.WithdrawnApproach.{free_behind_approach}
use Rattle.simulator_recovery.proofs.routes_going.cancelled_routes_are_free_behind_their_approach.Goals as goal

pub returns : goal.returns
returns c = λ between later_rounds before some more flowing route row flow work works before_works all_works all_apart can there long enough far below proceeds accepted.
    free_behind_approach c.laws_below.ensures.route_is_freed_where_cancel_lets_it_go c.laws_below.ensures between later_rounds before some more flowing route row flow.once flow.station flow.table flow.reached work works before_works all_works all_apart can there long enough far below proceeds accepted
