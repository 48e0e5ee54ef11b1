use Rattle.simulator_recovery.proofs.Lemmas.RoutesComing.DueRounds.{clear_goes_on}
use Rattle.simulator_recovery.proofs.routes_coming.routes_proceed_while_their_sections_are_clear.Goals as goal

pub returns : goal.returns
returns c = clear_goes_on c.laws_below.ensures.stop_is_given_where_due c.laws_below.ensures.move_is_given_where_due
