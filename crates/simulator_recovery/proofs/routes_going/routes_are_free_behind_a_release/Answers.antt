use Rattle.simulator_recovery.proofs.Lemmas.RoutesGoing.ReleasedFree.{free_behind_release}
use Rattle.simulator_recovery.proofs.routes_going.routes_are_free_behind_a_release.Goals as goal

pub returns : goal.returns
returns c = λ more flowing route row flow works apart can far there accepted. free_behind_release c.laws_below.ensures.route_is_freed_where_cancel_lets_it_go c.laws_below.ensures more flowing route row flow works apart can far there accepted
