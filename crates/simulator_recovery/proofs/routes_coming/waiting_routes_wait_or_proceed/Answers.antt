use Rattle.simulator_recovery.proofs.Lemmas.RoutesComing.DueCourse.{waits_on}
use Rattle.simulator_recovery.proofs.routes_coming.waiting_routes_wait_or_proceed.Goals as goal

pub returns : goal.returns
returns c = waits_on
