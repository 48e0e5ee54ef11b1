-- The names of parts.
use Rattle.std.proofs.Common.{◌≡◌, ◌∙◌, ◌++◌, ℕ, Bool, false, if◌then◌else◌, List, Result, Ok, Err, sym, ap}
use Rattle.std.specs.Prelude.{◌==◌, IfOk, codes}
use Rattle.std.specs.Fmt.{decimal}
use Rattle.run_files.specs.Reads.{part_name}

-- each but the first has its number behind it
pub further_named : {T E : Type 0} (bytes : T → List ℕ) (result : Result T E) (record_name : List ℕ) (number : ℕ) → (number == 1) ≡ false
    → IfOk result (λ name. bytes name ≡ record_name ++ codes "." ++ decimal number) → IfOk result (λ name. bytes name ≡ part_name record_name number)
further_named bytes (Ok name) record_name number other is = is ∙ sym (ap (λ (t : Bool). if t then record_name else record_name ++ codes "." ++ decimal number) other)
further_named bytes (Err error) record_name number other is = tt
