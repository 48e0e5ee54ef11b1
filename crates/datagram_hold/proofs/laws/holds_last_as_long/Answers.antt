use Rattle.datagram_hold.proofs.Lasting.{all_last, new_last}
use Rattle.datagram_hold.proofs.laws.holds_last_as_long.Goals as goal

pub returns-clause-first : goal.returns-clause-first
returns-clause-first c = new_last

pub returns-clause-kept : goal.returns-clause-kept
returns-clause-kept c = all_last
