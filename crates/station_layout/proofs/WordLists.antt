-- A word is looked for in a list.
use Rattle.std.proofs.Common.{◌≡◌, ◌∙◌, sym, ℕ, ◌||◌, List, [], ◌∷◌, refl, ap}
use Rattle.std.proofs.lemmas.Bool.Decides.{same_from_decides}
use Rattle.std.proofs.lemmas.Slice.Eq.{bytes_eq-Decides}
use Rattle.std.specs.Borrow.{Bor}
use Rattle.std.specs.List.{list_any}
use Rattle.std.specs.Str.{bytes_eq}
use Rattle.station_layout.specs.inside.WordLists.{is_among}

pub among : (words : List (Bor (List ℕ))) (word : List ℕ) → list_any (λ (known : Bor (List ℕ)). bytes_eq known.now word) words ≡ is_among words word
among [] word = refl
among (known ∷ words) word = ap (λ b. b || list_any (λ (known : Bor (List ℕ)). bytes_eq known.now word) words) (same known.now word) ∙ ap (λ b. bytes_eq word known.now || b) (among words word) where
  same : (xs ys : List ℕ) → bytes_eq xs ys ≡ bytes_eq ys xs
  same xs ys =
      let turned = bytes_eq-Decides ys xs in
      same_from_decides (bytes_eq xs ys) (bytes_eq ys xs) (bytes_eq-Decides xs ys) ((λ is. sym (turned.0 is)), λ is. turned.1 (sym is))
