use Rattle.simulator_recovery.proofs.Lemmas.RoutesComing.HeldCome.{awaited_comes}
use Rattle.simulator_recovery.proofs.routes_coming.reports_make_points_of_routes_known.Goals as goal

pub returns : goal.returns
returns c = λ between later more flowing number row need good. awaited_comes c.laws_below.ensures between later more flowing number row need good.flow.once good.flow.station good.flow.table good.flow.reached good.work good.works good.time
