use Rattle.rasta_core.proofs.Carries.{ticking_carries, closing_carries, opening_carries, sending_carries, receiving_carries}
use Rattle.rasta_core.proofs.connection_order.calls_carry_what_they_accept.Goals as goal

pub returns-clause-ticking : goal.returns-clause-ticking
returns-clause-ticking c = ticking_carries

pub returns-clause-closing : goal.returns-clause-closing
returns-clause-closing c = closing_carries

pub returns-clause-opening : goal.returns-clause-opening
returns-clause-opening c = opening_carries

pub returns-clause-sending : goal.returns-clause-sending
returns-clause-sending c = sending_carries

pub returns-clause-receiving : goal.returns-clause-receiving
returns-clause-receiving c = receiving_carries
