use Rattle.std.proofs.Common.{◌≡◌}
use Rattle.rasta_pdu_speed.specs.Passes.{numbered, written}
use Rattle.rasta_pdu_speed.proofs.passes.written.Given as goal

abbrev pub invariant-loop-pass : goal.invariant-loop-pass
invariant-loop-pass l = l.pdu ≡ numbered l.fn.pdu (written l.fn.pdu l._pass)
