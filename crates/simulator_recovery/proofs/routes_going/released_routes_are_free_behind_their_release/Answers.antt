use Rattle.simulator_recovery.proofs.Lemmas.RoutesGoing.ReleasedFree.{released_free_later}
use Rattle.simulator_recovery.proofs.routes_going.released_routes_are_free_behind_their_release.Goals as goal

pub returns : goal.returns
returns c = released_free_later c.laws_below.ensures.route_is_freed_where_cancel_lets_it_go c.laws_below.ensures
