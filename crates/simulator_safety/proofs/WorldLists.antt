-- Members of lists, and tests that one of them passes.
use Rattle.std.proofs.Common.{◌≡◌, ◌⊎◌, Bool, true, false, ◌||◌, ℕ, zero, suc, ◌<◌, List, [], ◌∷◌, length, map, Option, Some, None, refl, sym, ap, subst, inl, inr, ⊎_elim, arith}
use Rattle.std.specs.Prelude.{slice_get}
use Rattle.std.specs.List.{Contains, list_any}
use Rattle.std.proofs.lemmas.Bool.{false≢true}

pub some_injective : {A : Type 0} (x y : A) → Some x ≡ Some y → x ≡ y
some_injective {A} x y e = let unwrap : Option A → A = λ o. elim o [ None ↦ x | Some z ↦ z ] in ap unwrap e

pub none_some : {A : Type 0} (x : A) → None ≡ Some x → ⊥
none_some {A} x e = let is_some : Option A → Bool = λ o. elim o [ None ↦ false | Some y ↦ true ] in false≢true (ap is_some e)

pub contains_none : {A : Type 0} (x : A) → Contains [] x → ⊥
contains_none x h = absurd (omega (arith, h.1))

pub contains_here : {A : Type 0} (x : A) (xs : List A) → Contains (x ∷ xs) x
contains_here x xs = (0, omega arith, refl)

pub contains_there : {A : Type 0} (x y : A) (xs : List A) → Contains xs y → Contains (x ∷ xs) y
contains_there x y xs (k, lt, at) = (suc k, omega (arith, lt), at)

pub contains_cases : {A : Type 0} (x y : A) (xs : List A) → Contains (x ∷ xs) y → (x ≡ y) ⊎ Contains xs y
contains_cases x y xs (zero, lt, at) = inl at
contains_cases x y xs (suc k, lt, at) = inr (k, omega (arith, lt), at)

pub get_below : {A : Type 0} (xs : List A) (i : ℕ) → i < length xs → (x : A) × (slice_get xs i ≡ Some x)
get_below [] i lt = absurd (omega (arith, lt))
get_below (x ∷ xs) zero lt = (x, refl)
get_below (x ∷ xs) (suc i) lt = get_below xs i (omega (arith, lt))

pub get_inside : {A : Type 0} (xs : List A) (i : ℕ) (x : A) → slice_get xs i ≡ Some x → i < length xs
get_inside [] i x e = absurd (none_some x e)
get_inside (w ∷ xs) zero x e = omega arith
get_inside (w ∷ xs) (suc i) x e = let lt = get_inside xs i x e in omega (arith, lt)

pub get_contains : {A : Type 0} (xs : List A) (i : ℕ) (x : A) → slice_get xs i ≡ Some x → Contains xs x
get_contains [] i x e = absurd (none_some x e)
get_contains {A} (w ∷ xs) zero x e = let H : A → Type 0 = λ v. Contains (w ∷ xs) v in subst H (some_injective w x e) (contains_here w xs)
get_contains (w ∷ xs) (suc i) x e = contains_there w x xs (get_contains xs i x e)

module _ {A B : Type 0} (f : A → B) where
  pub map_length : (xs : List A) → length (map f xs) ≡ length xs
  map_length [] = refl
  map_length (x ∷ xs) = ap suc (map_length xs)

  pub contains_map : (xs : List A) (y : B) → Contains (map f xs) y → (x : A) × Contains xs x × (f x ≡ y)
  contains_map [] y c = absurd (contains_none y c)
  contains_map (w ∷ xs) y c = ⊎_elim (λ e. (w, contains_here w xs, e)) (λ later. let h = contains_map xs y later in (h.0, contains_there w h.0 xs h.1, h.2)) (contains_cases (f w) y (map f xs) c)

  pub map_get : (xs : List A) (i : ℕ) (x : A) → slice_get xs i ≡ Some x → slice_get (map f xs) i ≡ Some (f x)
  map_get [] i x e = absurd (none_some x e)
  map_get (w ∷ xs) zero x e = ap (λ y. Some (f y)) (some_injective w x e)
  map_get (w ∷ xs) (suc i) x e = map_get xs i x e

  pub get_map : (xs : List A) (i : ℕ) (y : B) → slice_get (map f xs) i ≡ Some y → (x : A) × (slice_get xs i ≡ Some x) × (f x ≡ y)
  get_map [] i y e = absurd (none_some y e)
  get_map (w ∷ xs) zero y e = (w, refl, some_injective (f w) y e)
  get_map (w ∷ xs) (suc i) y e = get_map xs i y e

pub left_of : (a b : Bool) → a ≡ true → a || b ≡ true
left_of true b is = refl
left_of false b is = absurd (false≢true is)

pub right_of : (a b : Bool) → b ≡ true → a || b ≡ true
right_of true b is = refl
right_of false b is = is

-- one that passes is enough
pub any_true : {A : Type 0} (test : A → Bool) (xs : List A) (x : A) → Contains xs x → test x ≡ true → list_any test xs ≡ true
any_true test [] x c is = absurd (contains_none x c)
any_true {A} test (w ∷ xs) x c is =
    ⊎_elim (λ e. left_of (test w) (list_any test xs) (subst (λ (y : A). test y ≡ true) (sym e) is)) (λ later. right_of (test w) (list_any test xs) (any_true test xs x later is)) (contains_cases w x xs c)
