use Rattle.simulator_recovery.proofs.Lemmas.RoutesGoing.WithdrawnApproach.{ended_free_at_once}
use Rattle.simulator_recovery.proofs.routes_going.ended_routes_are_free_at_once.Goals as goal

pub returns : goal.returns
returns c = ended_free_at_once c.laws_below.ensures.route_is_freed_where_cancel_lets_it_go
