use Rattle.std.proofs.Common.{◌++◌, List, ℕ, ap, ◌∙◌}
use Rattle.line_begin.proofs.typed_words.confirmation.Goals as goal

pub returns : goal.returns
returns c =
    c.put-3.ensures
    ∙ ap (λ (text : List ℕ). text ++ c.as_bytes-2.result.now) (c.put-2.ensures ∙ ap (λ (text : List ℕ). text ++ c.bytes.result.now) c.put.ensures)
    ∙ (λ i. ((c.new-text.ensures i ++ c.as_bytes.ensures.value i) ++ c.bytes.ensures.value i) ++ c.as_bytes-2.ensures.value i)
