use Rattle.simulator_recovery.proofs.Lemmas.RoutesComing.HeldRounds.{proceeding_known}
use Rattle.simulator_recovery.proofs.routes_coming.points_of_proceeding_routes_are_known.Goals as goal

pub returns : goal.returns
returns c = proceeding_known c.laws_below.ensures.stop_is_given_where_due c.laws_below.ensures.move_is_given_where_due c.laws_below.ensures.request_is_accepted_where_admissible
