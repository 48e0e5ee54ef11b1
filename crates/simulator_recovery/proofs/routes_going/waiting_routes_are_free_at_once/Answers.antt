use Rattle.simulator_recovery.proofs.Lemmas.RoutesGoing.WithdrawnWaiting.{free_at_once}
use Rattle.simulator_recovery.proofs.routes_going.waiting_routes_are_free_at_once.Goals as goal

pub returns : goal.returns
returns c = free_at_once c.laws_below.ensures
