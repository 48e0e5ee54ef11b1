use Rattle.rasta_core.proofs.OrderCalls.{hearing_on, refusing_on, unreadable_on, stranger_on}
use Rattle.rasta_core.proofs.connection_order.hearing_keeps_order.Goals as goal

pub returns-clause-partners : goal.returns-clause-partners
returns-clause-partners c = hearing_on

pub returns-clause-unreadable : goal.returns-clause-unreadable
returns-clause-unreadable c = unreadable_on

pub returns-clause-strangers : goal.returns-clause-strangers
returns-clause-strangers c = stranger_on

pub returns-clause-refused : goal.returns-clause-refused
returns-clause-refused c = refusing_on
