use Rattle.simulator_recovery.proofs.Lemmas.RoutesComing.DueGiven.{moves_to_side}
use Rattle.simulator_recovery.proofs.routes_coming.moves_go_to_the_side_that_is_held.Goals as goal

pub returns : goal.returns
returns c = moves_to_side c.laws_below.ensures.move_is_given_where_due c.laws_below.ensures.request_is_accepted_where_admissible
