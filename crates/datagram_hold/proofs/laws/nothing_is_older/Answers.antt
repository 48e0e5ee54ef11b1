use Rattle.datagram_hold.proofs.Intakes.{none_is_older}
use Rattle.datagram_hold.proofs.laws.nothing_is_older.Goals as goal

pub returns : goal.returns
returns c = none_is_older
