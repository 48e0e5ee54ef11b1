use Rattle.std.proofs.Common.{◌≡◌}
use Rattle.md4.specs.declared.message.TheConstants.{STANDARD}
use Rattle.rasta_pdu_speed.specs.Digests.{digest_again}
use Rattle.rasta_pdu_speed.proofs.digests.digest_again.Given as goal

abbrev pub invariant-loop-pass : goal.invariant-loop-pass
invariant-loop-pass l = l.digest ≡ digest_again STANDARD l.message l._pass
