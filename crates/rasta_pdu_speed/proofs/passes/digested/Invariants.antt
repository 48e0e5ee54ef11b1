use Rattle.std.proofs.Common.{◌≡◌}
use Rattle.rasta_pdu_speed.specs.Passes.{digested}
use Rattle.rasta_pdu_speed.proofs.passes.digested.Given as goal

abbrev pub invariant-loop-pass : goal.invariant-loop-pass
invariant-loop-pass l = l.first ≡ digested l.pdu l._pass
