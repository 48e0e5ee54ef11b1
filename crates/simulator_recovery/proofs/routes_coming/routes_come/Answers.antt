use Rattle.simulator_recovery.proofs.Lemmas.RoutesComing.RoutesCome.{route_comes, route_proceeds}
use Rattle.simulator_recovery.proofs.routes_coming.routes_come.Goals as goal

pub returns-clause-proceeds : goal.returns-clause-proceeds
returns-clause-proceeds c = λ between later more still flowing number row flow. route_proceeds c.laws_below.ensures between later more still flowing number row flow.once flow.station flow.table flow.reached

pub returns-clause-shows : goal.returns-clause-shows
returns-clause-shows c = λ between later more still flowing number row flow. route_comes c.laws_below.ensures between later more still flowing number row flow.once flow.station flow.table flow.reached
