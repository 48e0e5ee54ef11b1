-- The entry of a layout at a place.
use Rattle.std.proofs.Common.{◌≡◌, refl, sym, ap, ◌∙◌, ℕ, ◌<◌, List, length, get_or, Some}
use Rattle.std.specs.Prelude.{slice_get}
use Rattle.std.proofs.lemmas.Option.{same_Some, slice_get_read}

pub entry_is : {Entry : Type 0} (entries same : List Entry) (place : ℕ) (entry one : Entry) → entries ≡ same → place < length same → entry ≡ get_or entries place entry → slice_get same place ≡ Some one → entry ≡ one
entry_is {Entry} entries same place entry one entries_are within is there =
    same_Some entry one (sym (slice_get_read same (length same) place entry refl within (is ∙ ap (λ (all : List Entry). get_or all place entry) entries_are)) ∙ there)
