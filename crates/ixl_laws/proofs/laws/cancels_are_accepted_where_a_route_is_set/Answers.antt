use Rattle.ixl_laws.proofs.CancelAccepted.{cancel_accepted, cancel_refused}
use Rattle.ixl_laws.proofs.laws.cancels_are_accepted_where_a_route_is_set.Goals as goal

pub returns-clause-accepted : goal.returns-clause-accepted
returns-clause-accepted c now route old new answer stepped = cancel_accepted now route old new answer stepped

pub returns-clause-refused : goal.returns-clause-refused
returns-clause-refused c now route old new answer cause stepped refuses = cancel_refused now route old new answer cause stepped refuses
