use Rattle.simulator_recovery.proofs.Words.Basics.{inl}
use Rattle.simulator_recovery.proofs.Lemmas.RoutesComing.NothingDueFrees.{nothing_ended_waits, nothing_waits_to_be_freed}
use Rattle.simulator_recovery.proofs.Lemmas.RoutesGoing.ReleasedFree.{nothing_released_waits}
use Rattle.simulator_recovery.proofs.routes_coming.no_cancelled_route_waits_that_may_be_freed.Goals as goal

pub returns-clause-always : goal.returns-clause-always
returns-clause-always c = nothing_waits_to_be_freed c.laws_below.ensures.route_is_freed_where_cancel_lets_it_go

pub returns-clause-step : goal.returns-clause-step
returns-clause-step c = λ site table input world number row route clock done reached of cancelled ended lets.
    nothing_ended_waits c.laws_below.ensures.route_is_freed_where_cancel_lets_it_go site table input world number row route clock done reached of cancelled ended (inl lets)

pub returns-clause-release : goal.returns-clause-release
returns-clause-release c = nothing_released_waits c.laws_below.ensures.route_is_freed_where_cancel_lets_it_go
