-- What stands at the places of lists.
use Rattle.std.proofs.Common.{◌≡◌, ◌<◌, ◌≤◌, ℕ, zero, suc, List, [], ◌∷◌, length, map, Some, None, refl, ap, arith}
use Rattle.std.specs.Prelude.{slice_get}
use Rattle.std.proofs.lemmas.Option.{same_Some}

pub get_below : {A : Type 0} (list : List A) (place : ℕ) → place < length list → (one : A) × (slice_get list place ≡ Some one)
get_below [] place within = absurd (omega arith)
get_below (first ∷ others) zero within = (first, refl)
get_below (first ∷ others) (suc place) within = get_below others place (omega arith)

pub within_some : {A : Type 0} (list : List A) (place : ℕ) (one : A) → slice_get list place ≡ Some one → place < length list
within_some [] place one is = absurd (cc (is))
within_some (first ∷ others) zero one is = omega arith
within_some (first ∷ others) (suc place) one is = let h = within_some others place one is in omega arith

pub none_above : {A : Type 0} (list : List A) (place : ℕ) → length list ≤ place → slice_get list place ≡ None
none_above [] place above = refl
none_above (first ∷ others) zero above = absurd (omega arith)
none_above (first ∷ others) (suc place) above = none_above others place (omega arith)

pub length_map : {A B : Type 0} (f : A → B) (list : List A) → length (map f list) ≡ length list
length_map f [] = refl
length_map f (first ∷ others) = ap suc (length_map f others)

pub get_map : {A B : Type 0} (f : A → B) (list : List A) (place : ℕ) (one : B) → slice_get (map f list) place ≡ Some one → (from : A) × (slice_get list place ≡ Some from) × (f from ≡ one)
get_map f [] place one is = absurd (cc (is))
get_map f (first ∷ others) zero one is = (first, refl, same_Some (f first) one is)
get_map f (first ∷ others) (suc place) one is = get_map f others place one is

pub none_long : {A : Type 0} (list : List A) (place : ℕ) → slice_get list place ≡ None → length list ≤ place
none_long [] place is = omega arith
none_long (first ∷ others) zero is = absurd (cc (is))
none_long (first ∷ others) (suc place) is = let h = none_long others place is in omega arith
