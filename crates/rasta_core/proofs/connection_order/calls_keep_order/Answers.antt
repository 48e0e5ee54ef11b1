use Rattle.rasta_core.proofs.OrderCalls.{entering_on, ticking_on, closing_on, sending_on}
use Rattle.rasta_core.proofs.OrderOutside.{opening_not}
use Rattle.rasta_core.proofs.Enters.{settled_plays}
use Rattle.rasta_core.proofs.connection_order.calls_keep_order.Goals as goal

pub returns-clause-settling : goal.returns-clause-settling
returns-clause-settling c = settled_plays

pub returns-clause-entering : goal.returns-clause-entering
returns-clause-entering c = entering_on

pub returns-clause-ticking : goal.returns-clause-ticking
returns-clause-ticking c = ticking_on

pub returns-clause-closing : goal.returns-clause-closing
returns-clause-closing c = closing_on

pub returns-clause-sending : goal.returns-clause-sending
returns-clause-sending c = sending_on

pub returns-clause-opening : goal.returns-clause-opening
returns-clause-opening c = opening_not
