use Rattle.simulator_recovery.proofs.Lemmas.RoutesComing.HeldNeeds.{held_known}
use Rattle.simulator_recovery.proofs.routes_coming.held_points_stay_known.Goals as goal

pub returns : goal.returns
returns c = held_known c.laws_below.ensures.move_is_given_where_due c.laws_below.ensures.request_is_accepted_where_admissible
