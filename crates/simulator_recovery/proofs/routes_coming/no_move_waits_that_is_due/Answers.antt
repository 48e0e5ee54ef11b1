use Rattle.simulator_recovery.proofs.Lemmas.RoutesComing.NothingDueMoves.{nothing_moves}
use Rattle.simulator_recovery.proofs.routes_coming.no_move_waits_that_is_due.Goals as goal

pub returns : goal.returns
returns c = nothing_moves c.laws_below.ensures.move_is_given_where_due
