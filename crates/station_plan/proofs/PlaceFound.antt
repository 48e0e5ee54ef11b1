-- The first entry of a name, looked for place by place.
use Rattle.std.proofs.Common.{◌≡◌, ◌∙◌, ℕ, ◌+◌, ◌<◌, ◌≤◌, true, false, cond, get_or, List, ◌∷◌, length, drop, Option, Some, None, ap, sym}
use Rattle.std.proofs.Math.ListN.{drop_of_length-le}
use Rattle.std.proofs.lemmas.Iterator.Adapters.{position_from-zero}
use Rattle.std.proofs.lemmas.List.{drop_more}
use Rattle.std.specs.List.{position, position_from}
use Rattle.std.specs.Str.{bytes_eq}

module _ {A : Type 0} (name_of : A → List ℕ) (name : List ℕ) where
  pub begins : (entries : List A) → position_from (λ e. bytes_eq (name_of e) name) 0 entries ≡ position (λ e. bytes_eq (name_of e) name) entries
  begins entries = sym (position_from-zero (λ e. bytes_eq (name_of e) name) entries)

  -- what is left begins with the entry at this place
  next : (entries : List A) (place : ℕ) (entry : A) → place < length entries → entry ≡ get_or entries place entry
      → position_from (λ e. bytes_eq (name_of e) name) place (drop place entries)
      ≡ cond (bytes_eq (name_of entry) name) (Some place) (position_from (λ e. bytes_eq (name_of e) name) (place + 1) (drop (place + 1) entries))
  next entries place entry within at =
      ap (λ left. position_from (λ e. bytes_eq (name_of e) name) place left)
      (drop_more entries place entry within ∙ ap (λ e. e ∷ drop (place + 1) entries) (sym at))

  pub found : (entries : List A) (place : ℕ) (entry : A) (whole : Option ℕ) → place < length entries → entry ≡ get_or entries place entry
      → bytes_eq (name_of entry) name ≡ true → position_from (λ e. bytes_eq (name_of e) name) place (drop place entries) ≡ whole → Some place ≡ whole
  found entries place entry whole within at here so =
      sym (next entries place entry within at
      ∙ ap (λ b. cond b (Some place) (position_from (λ e. bytes_eq (name_of e) name) (place + 1) (drop (place + 1) entries))) here) ∙ so

  pub goes_on : (entries : List A) (place : ℕ) (entry : A) (whole : Option ℕ) → place < length entries → entry ≡ get_or entries place entry
      → bytes_eq (name_of entry) name ≡ false → position_from (λ e. bytes_eq (name_of e) name) place (drop place entries) ≡ whole
      → position_from (λ e. bytes_eq (name_of e) name) (place + 1) (drop (place + 1) entries) ≡ whole
  goes_on entries place entry whole within at elsewhere so =
      sym (next entries place entry within at
      ∙ ap (λ b. cond b (Some place) (position_from (λ e. bytes_eq (name_of e) name) (place + 1) (drop (place + 1) entries))) elsewhere) ∙ so

  pub nowhere : (entries : List A) (place : ℕ) (whole : Option ℕ) → length entries ≤ place
      → position_from (λ e. bytes_eq (name_of e) name) place (drop place entries) ≡ whole → None ≡ whole
  nowhere entries place whole past so = sym (ap (λ left. position_from (λ e. bytes_eq (name_of e) name) place left) (drop_of_length-le entries past)) ∙ so
