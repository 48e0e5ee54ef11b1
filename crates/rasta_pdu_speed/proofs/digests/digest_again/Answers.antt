use Rattle.std.proofs.Common.{◌≡◌, ◌∙◌, ◌+◌, ℕ, List, suc, ap, arith}
use Rattle.md4.specs.Md4.{block_words, digest}
use Rattle.rasta_pdu_speed.specs.Digests.{digest_again}
use Rattle.rasta_pdu_speed.proofs.digests.digest_again.Goals as goal

pub loop-pass-init : goal.loop-pass-init
unfolding digest_again
loop-pass-init c = c.digest_from-digest.ensures

pub loop-pass-preserved : goal.loop-pass-preserved
unfolding digest_again
loop-pass-preserved c =
    let next : c.loop-pass._pass + 1 ≡ suc c.loop-pass._pass = omega arith in
    let before = c.words_of.ensures ∙ ap (λ (d : List ℕ). block_words d 4) c.loop-pass.invariant in
    rw next (c.digest_from-next.ensures ∙ ap (λ (start : List ℕ). digest start c.args.message.now) before)

pub returns : goal.returns
returns c =
    let last : c.args.more ≡ c.loop-pass._pass = omega arith in
    rw last c.loop-pass.invariant
