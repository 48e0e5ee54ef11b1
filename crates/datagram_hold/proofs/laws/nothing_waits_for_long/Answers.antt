use Rattle.datagram_hold.proofs.Time.{handed_within}
use Rattle.datagram_hold.proofs.laws.nothing_waits_for_long.Goals as goal

pub returns-clause-handed : goal.returns-clause-handed
returns-clause-handed c = handed_within
