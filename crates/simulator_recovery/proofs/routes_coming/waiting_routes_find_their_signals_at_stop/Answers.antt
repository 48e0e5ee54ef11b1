use Rattle.simulator_recovery.proofs.Lemmas.RoutesComing.DueStops.{known_proceeds, waits_at_stop}
use Rattle.simulator_recovery.proofs.routes_coming.waiting_routes_find_their_signals_at_stop.Goals as goal

pub returns-clause-stop : goal.returns-clause-stop
returns-clause-stop c = waits_at_stop c.laws_below.ensures.request_is_accepted_where_admissible

pub returns-clause-known : goal.returns-clause-known
returns-clause-known c = known_proceeds c.laws_below.ensures.proceed_is_given_where_due c.laws_below.ensures.request_is_accepted_where_admissible
