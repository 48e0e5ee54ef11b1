use Rattle.std.proofs.Common.{◌≡◌, ◌++◌, take, drop, map}
use Rattle.datagram_hold.specs.Intake.{emptied}
use Rattle.datagram_hold.proofs.intake.forget_all.Given as goal

-- those so far are emptied
abbrev pub invariant-loop-hold : goal.invariant-loop-hold
invariant-loop-hold l = take l.hold-index l.holds ++ map emptied (drop l.hold-index l.holds) ≡ map emptied l.initial.holds
