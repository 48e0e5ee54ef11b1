use Rattle.std.proofs.Common.{◌≡◌, ◌+◌, suc, drop, refl, ap, ◌∙◌, arith}
use Rattle.std.specs.Int.{w32, from_le_bytes}
use Rattle.rasta_pdu.specs.declared.pdu.Pdu.{Pdu}
use Rattle.rasta_pdu.specs.PduRead.{u32_at}
use Rattle.rasta_pdu.specs.SafetyCode.{code}
use Rattle.rasta_pdu.specs.Spelling.{text}
use Rattle.rasta_pdu_speed.specs.Passes.{numbered, standard, written}
use Rattle.rasta_pdu_speed.proofs.Parts.{code_end-written}
use Rattle.rasta_pdu_speed.proofs.passes.written.Goals as goal

pub loop-pass-init : goal.loop-pass-init
unfolding written
loop-pass-init c = refl

pub loop-pass-preserved : goal.loop-pass-preserved
unfolding written
loop-pass-preserved c =
    let next : c.loop-pass._pass + 1 ≡ suc c.loop-pass._pass = omega arith in
    let back = code_end-written c.loop-pass.pdu c.write-bytes.result.items c.write-bytes.ensures.value in
    let same : c.split_at.result.1.now ≡ drop 4 (code standard (text c.loop-pass.pdu)) = cc in
    let read = c.from_le_bytes.ensures ∙ ap (from_le_bytes w32) same in
    let number = read ∙ ap (λ (pdu : Pdu). u32_at 4 (code standard (text pdu))) c.loop-pass.invariant in
    rw next (ap (λ (pdu : Pdu). numbered pdu c.from_le_bytes.result) c.loop-pass.invariant ∙ ap (numbered c.args.pdu) number)
