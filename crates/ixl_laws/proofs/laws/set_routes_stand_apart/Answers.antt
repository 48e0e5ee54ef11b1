use Rattle.ixl_laws.proofs.Apart.{apart_at_first, stay_apart}
use Rattle.ixl_laws.proofs.laws.set_routes_stand_apart.Goals as goal

pub returns-clause-first : goal.returns-clause-first
returns-clause-first c site table begins = apart_at_first site table begins

pub returns-clause-kept : goal.returns-clause-kept
returns-clause-kept c now input old new answer stepped apart = stay_apart now input old new answer c.requests_are_accepted_where_admissible.ensures.accepted stepped apart
