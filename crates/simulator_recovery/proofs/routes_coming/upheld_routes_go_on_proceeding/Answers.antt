use Rattle.simulator_recovery.proofs.Lemmas.RoutesComing.DueCourse.{proceeds_on}
use Rattle.simulator_recovery.proofs.routes_coming.upheld_routes_go_on_proceeding.Goals as goal

pub returns : goal.returns
returns c = proceeds_on c.laws_below.ensures.stop_is_given_where_due
