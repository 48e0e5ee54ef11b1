-- Whether bytes begin with a text.
use Rattle.std.proofs.Common.{◌≡◌, ◌∙◌, ℕ, Bool, true, false, List, ◌++◌, length, take, drop, refl, sym, ap}
use Rattle.std.proofs.lemmas.List.{take-append-drop, take_at}
use Rattle.std.proofs.lemmas.Slice.Eq.{bytes_eq-Decides}
use Rattle.closings_file.specs.Texts.{begin_with}

pub begins_so : (text rest : List ℕ) → begin_with text (text ++ rest) ≡ true
begins_so text rest = (bytes_eq-Decides text (take (length text) (text ++ rest))).1 (sym (take_at text rest (length text) refl))

pub begins_then : (text bytes : List ℕ) → begin_with text bytes ≡ true → bytes ≡ text ++ drop (length text) bytes
begins_then text bytes is =
    sym (take-append-drop (length text) bytes) ∙ ap (λ (t : List ℕ). t ++ drop (length text) bytes) (sym ((bytes_eq-Decides text (take (length text) bytes)).0 is))

pub begins_not : (text bytes : List ℕ) → (begin_with text bytes ≡ true → ⊥) → begin_with text bytes ≡ false
begins_not text bytes never = by (begin_with text bytes) refl
  where
    by : (v : Bool) → begin_with text bytes ≡ v → v ≡ false
    by true is = absurd (never is)
    by false is = refl
