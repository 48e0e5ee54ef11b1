use Rattle.simulator_recovery.proofs.Lemmas.RoutesComing.DueRounds.{comes_behind_rounds, goes_on_over_rounds}
use Rattle.simulator_recovery.proofs.routes_coming.set_routes_go_on_over_rounds.Goals as goal

pub returns-clause-stays : goal.returns-clause-stays
returns-clause-stays c = λ rounds flowing number row flow. goes_on_over_rounds c.laws_below.ensures.stop_is_given_where_due c.laws_below.ensures.move_is_given_where_due c.laws_below.ensures rounds flowing number row flow.table flow.reached

pub returns-clause-comes : goal.returns-clause-comes
returns-clause-comes c = λ rounds flowing number row flow.
    comes_behind_rounds c.laws_below.ensures.stop_is_given_where_due c.laws_below.ensures.move_is_given_where_due c.laws_below.ensures.proceed_is_given_where_due c.laws_below.ensures.request_is_accepted_where_admissible c.laws_below.ensures rounds flowing number row flow.table flow.reached
