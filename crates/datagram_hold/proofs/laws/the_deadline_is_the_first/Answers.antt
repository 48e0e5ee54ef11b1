use Rattle.datagram_hold.proofs.Deadline.{none_is_due_before}
use Rattle.datagram_hold.proofs.laws.the_deadline_is_the_first.Goals as goal

pub returns-clause-before : goal.returns-clause-before
returns-clause-before c = none_is_due_before
