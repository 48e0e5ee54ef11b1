-- What holds of each of a list, and lists that are empty.
use Rattle.rasta_core_recovery.proofs.Words.Basics.{◌≡◌, ℕ, zero, suc, List, [], ◌∷◌, ◌++◌, length, drop, refl, arith}
use Rattle.rasta_core_recovery.proofs.Words.Links.{Each}

pub each_append : {X : Type 0} (P : X → Type 0) (xs ys : List X) → Each P xs → Each P ys → Each P (xs ++ ys)
each_append P [] ys a b = b
each_append P (x ∷ xs) ys a b = (a.0, each_append P xs ys a.1 b)

pub each_drop : {X : Type 0} (P : X → Type 0) (n : ℕ) (xs : List X) → Each P xs → Each P (drop n xs)
each_drop P zero xs each = each
each_drop P (suc n) [] each = tt
each_drop P (suc n) (x ∷ xs) each = each_drop P n xs each.1

pub none_are : {X : Type 0} (xs : List X) → length xs ≡ 0 → xs ≡ []
none_are [] none = refl
none_are (x ∷ xs) none = absurd (omega (arith, none))

pub none_of_both : {X : Type 0} (one other : List X) → one ++ other ≡ [] → (one ≡ []) × (other ≡ [])
none_of_both [] other none = (refl, none)
none_of_both (first ∷ one) other none = absurd (cc none)
