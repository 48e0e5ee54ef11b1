use Rattle.simulator_recovery.proofs.Lemmas.RoutesGoing.WithdrawnWaiting.{free_behind_its_cancel}
use Rattle.simulator_recovery.proofs.routes_going.waiting_routes_are_free_behind_a_cancel.Goals as goal

pub returns : goal.returns
returns c = λ between later before flowing route row flow. free_behind_its_cancel c.laws_below.ensures.route_is_freed_where_cancel_lets_it_go c.laws_below.ensures.request_is_accepted_where_admissible c.laws_below.ensures between later before flowing route row flow.once flow.station flow.table flow.reached
