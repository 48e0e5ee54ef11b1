use Rattle.std.proofs.Common.{◌≡◌}
use Rattle.rasta_pdu_speed.specs.Passes.{written_and_read}
use Rattle.rasta_pdu_speed.proofs.passes.written_and_read.Given as goal

abbrev pub invariant-loop-pass : goal.invariant-loop-pass
invariant-loop-pass l = l.pdu.sequence_number ≡ written_and_read l.fn.pdu l._pass
