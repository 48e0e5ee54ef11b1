use Rattle.simulator_recovery.proofs.Lemmas.RoutesGoing.WithdrawnApproach.{ended_free_later}
use Rattle.simulator_recovery.proofs.routes_going.ended_routes_are_free_behind_their_approach.Goals as goal

pub returns : goal.returns
returns c = λ more flowing number row route clock freed flow. ended_free_later c.laws_below.ensures.route_is_freed_where_cancel_lets_it_go c.laws_below.ensures more flowing number row route clock freed flow.once flow.station flow.reached
