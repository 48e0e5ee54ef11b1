use Rattle.std.proofs.Common.{length}
use Rattle.datagram_hold.proofs.intake.+first_ready.Given as goal

abbrev pub decreases-first_ready : goal.decreases-first_ready
decreases-first_ready l = length l.holds.now
