use Rattle.simulator_recovery.proofs.Lemmas.RoutesComing.NothingDueStops.{nothing_stops}
use Rattle.simulator_recovery.proofs.routes_coming.no_stop_waits_that_is_due.Goals as goal

pub returns : goal.returns
returns c = nothing_stops c.laws_below.ensures.stop_is_given_where_due c.laws_below.ensures.move_is_given_where_due
