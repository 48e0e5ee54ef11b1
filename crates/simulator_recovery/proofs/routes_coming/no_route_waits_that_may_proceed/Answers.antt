use Rattle.simulator_recovery.proofs.Lemmas.RoutesComing.NothingDueProceeds.{nothing_proceeds}
use Rattle.simulator_recovery.proofs.routes_coming.no_route_waits_that_may_proceed.Goals as goal

pub returns : goal.returns
returns c = nothing_proceeds c.laws_below.ensures.proceed_is_given_where_due
