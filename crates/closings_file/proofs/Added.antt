-- What is written behind what was written.
use Rattle.std.proofs.Common.{◌≡◌, ◌∙◌, ℕ, List, ◌++◌, Result, Ok, Err, ap, append_assoc}
use Rattle.std.specs.Prelude.{OnOk}

pub behind_both : {T E : Type 0} (result : Result T E) (old first second middle new : List ℕ) → middle ≡ old ++ first → OnOk result (new ≡ middle ++ second)
    → OnOk result (new ≡ old ++ (first ++ second))
behind_both (Ok done) old first second middle new is added = added ∙ ap (λ (text : List ℕ). text ++ second) is ∙ append_assoc old first second
behind_both (Err error) old first second middle new is added = tt
