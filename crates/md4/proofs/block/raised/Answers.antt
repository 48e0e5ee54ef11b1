use Rattle.std.proofs.Common.{rules, ◌≡◌, ◌∙◌, inl, inr, arith}
use Rattle.std.proofs.lemmas.Bool.{cases_lt}
use Rattle.std.proofs.lemmas.List.{get_or-set_same, get_or-set_other}
use Rattle.md4.proofs.Steps.{raised_are}
use Rattle.md4.proofs.block.raised.Goals as goal

pub loop-k-preserved : goal.loop-k-preserved
loop-k-preserved c = (
  search rules,
  λ i lt. elim (cases_lt i c.loop-k.k) [
    | inl a ↦ get_or-set_other c.loop-k.sums c.loop-k.k i _ 0 (omega arith) ∙ c.loop-k.invariant.1 i a
    | inr b ↦
        let e : c.loop-k.k ≡ i = omega arith in
        rw (← e) (get_or-set_same c.loop-k.sums c.loop-k.k _ 0 (omega arith))
  ],
)

pub returns : goal.returns
returns c =
    let words = c.words_of-words.result in
    rw (← c.words_of-words.ensures) (raised_are words c.loop-k.sums c.args.constant (omega arith) c.loop-k.invariant.0 (λ i lt. c.loop-k.invariant.1 i (omega arith)))
