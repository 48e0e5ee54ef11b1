use Rattle.rasta_core.proofs.OrderOpenings.{granting_on}
use Rattle.rasta_core.proofs.OrderOutside.{opening_asks, entered_outside, hears_outside}
use Rattle.rasta_core.proofs.connection_order.connection_begins.Goals as goal

pub returns-clause-asking : goal.returns-clause-asking
returns-clause-asking c = opening_asks

pub returns-clause-entering : goal.returns-clause-entering
returns-clause-entering c = entered_outside

pub returns-clause-hearing : goal.returns-clause-hearing
returns-clause-hearing c = hears_outside

pub returns-clause-granting : goal.returns-clause-granting
returns-clause-granting c = granting_on
