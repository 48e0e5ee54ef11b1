use Rattle.std.proofs.Common.{length}
use Rattle.datagram_hold.proofs.intake.+held_by.Given as goal

abbrev pub decreases-held_by : goal.decreases-held_by
decreases-held_by l = length l.holds.now
