use Rattle.std.proofs.Common.{◌≡◌, replicate}
use Rattle.datagram_hold.specs.Intake.{new_hold}
use Rattle.datagram_hold.proofs.intake.Intake.new.Given as goal

abbrev pub invariant-loop : goal.invariant-loop
invariant-loop l = l.holds.items ≡ replicate l.counter (new_hold l.millis)
