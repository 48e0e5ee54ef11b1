-- Lines, one after the other.
use Rattle.std.proofs.Common.{◌≡◌, ◌<◌, ◌+◌, ◌∙◌, ℕ, List, [], ◌∷◌, ◌++◌, Option, Some, ap, get_or, length, map, refl, sym, take}
use Rattle.std.proofs.lemmas.List.{map-append, take_more}

pub made_more : {A B : Type 0} (f : A → Option B) (xs : List A) (ys : List B) (i : ℕ) (x : A) (y : B)
    → i < length xs → x ≡ get_or xs i x → f x ≡ Some y → map f (take i xs) ≡ map Some ys → map f (take (i + 1) xs) ≡ map Some (ys ++ y ∷ [])
made_more f xs ys i x y lt at gives so_far =
    rw (take_more xs i x lt, ← at, map-append, map-append, so_far, gives) refl
