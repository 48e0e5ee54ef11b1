-- Members of lists, and lists in which no two are the same.
use Rattle.std.proofs.Common.{◌≡◌, ◌≢◌, ◌∙◌, ◌⊎◌, ◌<◌, Bool, true, false, ℕ, zero, suc, List, [], ◌∷◌, length, Option, Some, None, refl, sym, ap, subst, inl, inr, arith}
use Rattle.std.proofs.lemmas.Bool.{false≢true}
use Rattle.std.specs.List.{Contains}
use Rattle.std.specs.Prelude.{slice_get}
use Rattle.control_table.specs.layout.Once.{Distinct}

pub contains-none : {A : Type 0} (x : A) → Contains [] x → ⊥
contains-none x h = absurd (omega (arith, h.1))

pub contains-here : {A : Type 0} (x : A) (xs : List A) → Contains (x ∷ xs) x
contains-here x xs = (0, omega arith, refl)

pub contains-there : {A : Type 0} (x y : A) (xs : List A) → Contains xs y → Contains (x ∷ xs) y
contains-there x y xs (k, lt, at) = (suc k, omega (arith, lt), at)

pub contains-cases : {A : Type 0} (x y : A) (xs : List A) → Contains (x ∷ xs) y → (x ≡ y) ⊎ Contains xs y
contains-cases x y xs (zero, lt, at) = inl at
contains-cases x y xs (suc k, lt, at) = inr (k, omega (arith, lt), at)

pub none-some : {A : Type 0} (x : A) → None ≡ Some x → ⊥
none-some {A} x e = let is_some : Option A → Bool = λ o. elim o [ None ↦ false | Some y ↦ true ] in false≢true (ap is_some e)

pub some-injective : {A : Type 0} (x y : A) → Some x ≡ Some y → x ≡ y
some-injective {A} x y e = let unwrap : Option A → A = λ o. elim o [ None ↦ x | Some z ↦ z ] in ap unwrap e

-- what can't be true is false
pub false-from : (b : Bool) → (b ≡ true → ⊥) → b ≡ false
false-from true h = absurd (h refl)
false-from false h = refl

-- what stands at a place is a member, and there is one at each place within
pub get-contains : {A : Type 0} (xs : List A) (i : ℕ) (x : A) → slice_get xs i ≡ Some x → Contains xs x
get-contains [] i x e = absurd (none-some x e)
get-contains {A} (w ∷ xs) zero x e = let H : A → Type 0 = λ v. Contains (w ∷ xs) v in subst H (some-injective w x e) (contains-here w xs)
get-contains (w ∷ xs) (suc i) x e = contains-there w x xs (get-contains xs i x e)

pub get-below : {A : Type 0} (xs : List A) (i : ℕ) → i < length xs → (x : A) × (slice_get xs i ≡ Some x)
get-below [] i h = absurd (omega (arith, h))
get-below (x ∷ xs) zero h = (x, refl)
get-below (x ∷ xs) (suc i) h = get-below xs i (omega (arith, h))

pub distinct-first : {A : Type 0} (x y : A) (xs : List A) → Distinct (x ∷ xs) → Contains xs y → x ≢ y
distinct-first x y xs d c e = d 0 (suc c.0) y (omega arith) (let lt = c.1 in omega (arith, lt)) (e ∙ sym c.2)

pub distinct-rest : {A : Type 0} (x : A) (xs : List A) → Distinct (x ∷ xs) → Distinct xs
distinct-rest x xs d i j y lt within = d (suc i) (suc j) y (omega (arith, lt)) (omega (arith, within))
