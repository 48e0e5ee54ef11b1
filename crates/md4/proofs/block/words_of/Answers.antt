use Rattle.std.proofs.Common.{rules, ◌≡◌, ◌∙◌, inl, inr, arith}
use Rattle.std.proofs.lemmas.Bool.{cases_lt}
use Rattle.std.proofs.lemmas.List.{get_or-set_same, get_or-set_other}
use Rattle.md4.proofs.Steps.{words_are}
use Rattle.md4.proofs.block.words_of.Goals as goal

pub loop-k-preserved : goal.loop-k-preserved
loop-k-preserved c = (
  search rules,
  λ i lt. elim (cases_lt i c.loop-k.k) [
    | inl a ↦ get_or-set_other c.loop-k.words c.loop-k.k i c.from_le_bytes.result 0 (omega arith) ∙ c.loop-k.invariant.1 i a
    | inr b ↦
        let e : c.loop-k.k ≡ i = omega arith in
        rw (← e) (get_or-set_same c.loop-k.words c.loop-k.k c.from_le_bytes.result 0 (omega arith) ∙ c.from_le_bytes.ensures)
  ],
)

pub returns : goal.returns
returns c = words_are c.args.block.now c.loop-k.words c.loop-k.invariant.0 (λ i lt. c.loop-k.invariant.1 i (omega arith))
