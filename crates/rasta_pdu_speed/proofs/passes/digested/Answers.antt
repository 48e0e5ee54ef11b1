use Rattle.std.proofs.Common.{◌≡◌, ◌+◌, suc, refl, arith}
use Rattle.rasta_pdu.specs.Spelling.{text}
use Rattle.rasta_pdu_speed.specs.Passes.{digested}
use Rattle.rasta_pdu_speed.proofs.Parts.{before_code-written}
use Rattle.rasta_pdu_speed.proofs.passes.digested.Goals as goal

pub loop-pass-init : goal.loop-pass-init
unfolding digested
loop-pass-init c = refl

pub loop-pass-preserved : goal.loop-pass-preserved
unfolding digested
loop-pass-preserved c =
    let next : c.loop-pass._pass + 1 ≡ suc c.loop-pass._pass = omega arith in
    let front = before_code-written c.args.pdu.now c.write-bytes.result.items c.write-bytes.ensures.value in
    let same : c.split_at.result.0.now ≡ text c.args.pdu.now = cc in
    rw (next, ← c.loop-pass.invariant, ← same, ← c.digest_from-digest.ensures) c.from_le_bytes-first.ensures
