-- Members of lists, what stands at a place, and lists that grow.
use Rattle.std.proofs.Common.{◌≡◌, ◌∙◌, ◌⊎◌, Bool, true, false, ◌||◌, ◌==◌, ℕ, zero, suc, ◌<◌, List, [], ◌∷◌, ◌++◌, length, map, take, get_or, Option, Some, None, refl, sym, ap, subst, inl, inr, ⊎_elim, arith}
use Rattle.std.specs.Prelude.{slice_get}
use Rattle.std.specs.List.{Contains}
use Rattle.std.specs.Ordering.{nat_cmp}
use Rattle.std.specs.Cmp.{nat_cmp_total, unsigned_tied}
use Rattle.std.specs.FinSet.{contains, empty, insert, contains-empty, contains-insert}
use Rattle.std.proofs.Math.Seq.{take-suc}
use Rattle.std.proofs.lemmas.Bool.{false≢true}
use Rattle.std.proofs.lemmas.List.{map-append}
use Rattle.ixl_spec.specs.bit_row.Places.{Has, Places}

pub some-injective : {A : Type 0} (x y : A) → Some x ≡ Some y → x ≡ y
some-injective {A} x y e = let unwrap : Option A → A = λ o. elim o [ None ↦ x | Some z ↦ z ] in ap unwrap e

pub none-some : {A : Type 0} (x : A) → None ≡ Some x → ⊥
none-some {A} x e = let is_some : Option A → Bool = λ o. elim o [ None ↦ false | Some y ↦ true ] in false≢true (ap is_some e)

pub contains-none : {A : Type 0} (x : A) → Contains [] x → ⊥
contains-none x h = absurd (omega (arith, h.1))

pub contains-here : {A : Type 0} (x : A) (xs : List A) → Contains (x ∷ xs) x
contains-here x xs = (0, omega arith, refl)

pub contains-there : {A : Type 0} (x y : A) (xs : List A) → Contains xs y → Contains (x ∷ xs) y
contains-there x y xs (k, lt, at) = (suc k, omega (arith, lt), at)

pub contains-cases : {A : Type 0} (x y : A) (xs : List A) → Contains (x ∷ xs) y → (x ≡ y) ⊎ Contains xs y
contains-cases x y xs (zero, lt, at) = inl at
contains-cases x y xs (suc k, lt, at) = inr (k, omega (arith, lt), at)

pub get-contains : {A : Type 0} (xs : List A) (i : ℕ) (x : A) → slice_get xs i ≡ Some x → Contains xs x
get-contains [] i x e = absurd (none-some x e)
get-contains {A} (w ∷ xs) zero x e = let H : A → Type 0 = λ v. Contains (w ∷ xs) v in subst H (some-injective w x e) (contains-here w xs)
get-contains (w ∷ xs) (suc i) x e = contains-there w x xs (get-contains xs i x e)

pub contains-get : {A : Type 0} (xs : List A) (x : A) → Contains xs x → (i : ℕ) × (slice_get xs i ≡ Some x)
contains-get [] x c = absurd (contains-none x c)
contains-get (w ∷ xs) x c = ⊎_elim (λ e. (0, ap Some e)) (λ later. let h = contains-get xs x later in (suc h.0, h.1)) (contains-cases w x xs c)

pub get-below : {A : Type 0} (xs : List A) (i : ℕ) → i < length xs → (x : A) × (slice_get xs i ≡ Some x)
get-below [] i lt = absurd (omega (arith, lt))
get-below (x ∷ xs) zero lt = (x, refl)
get-below (x ∷ xs) (suc i) lt = get-below xs i (omega (arith, lt))

pub get-inside : {A : Type 0} (xs : List A) (i : ℕ) (x : A) → slice_get xs i ≡ Some x → i < length xs
get-inside [] i x e = absurd (none-some x e)
get-inside (w ∷ xs) zero x e = omega arith
get-inside (w ∷ xs) (suc i) x e = let lt = get-inside xs i x e in omega (arith, lt)

pub get-at : {A : Type 0} (xs : List A) (i : ℕ) (x : A) → i < length xs → x ≡ get_or xs i x → slice_get xs i ≡ Some x
get-at [] i x lt e = absurd (omega (arith, lt))
get-at (w ∷ xs) zero x lt e = ap Some (sym e)
get-at (w ∷ xs) (suc i) x lt e = get-at xs i x (omega (arith, lt)) e

-- ---- lists that are mapped

module _ {A B : Type 0} (f : A → B) where
  pub map-length : (xs : List A) → length (map f xs) ≡ length xs
  map-length [] = refl
  map-length (x ∷ xs) = ap suc (map-length xs)

  pub map-contains : (xs : List A) (x : A) → Contains xs x → Contains (map f xs) (f x)
  map-contains [] x c = absurd (contains-none x c)
  map-contains (w ∷ xs) x c = ⊎_elim (λ e. subst (λ (v : B). Contains (f w ∷ map f xs) v) (ap f e) (contains-here (f w) (map f xs))) (λ later. contains-there (f w) (f x) (map f xs) (map-contains xs x later)) (contains-cases w x xs c)

  pub contains-map : (xs : List A) (y : B) → Contains (map f xs) y → (x : A) × Contains xs x × (f x ≡ y)
  contains-map [] y c = absurd (contains-none y c)
  contains-map (w ∷ xs) y c = ⊎_elim (λ e. (w, contains-here w xs, e)) (λ later. let h = contains-map xs y later in (h.0, contains-there w h.0 xs h.1, h.2)) (contains-cases (f w) y (map f xs) c)

  pub map-get : (xs : List A) (i : ℕ) (x : A) → slice_get xs i ≡ Some x → slice_get (map f xs) i ≡ Some (f x)
  map-get [] i x e = absurd (none-some x e)
  map-get (w ∷ xs) zero x e = ap (λ y. Some (f y)) (some-injective w x e)
  map-get (w ∷ xs) (suc i) x e = map-get xs i x e

  pub get-map : (xs : List A) (i : ℕ) (y : B) → slice_get (map f xs) i ≡ Some y → (x : A) × (slice_get xs i ≡ Some x) × (f x ≡ y)
  get-map [] i y e = absurd (none-some y e)
  get-map (w ∷ xs) zero y e = (w, refl, some-injective (f w) y e)
  get-map (w ∷ xs) (suc i) y e = get-map xs i y e

  -- one more of a list is mapped
  pub mapped-more : (ys : List A) (xs : List B) (i : ℕ) (y : A) (x : B) → i < length xs → x ≡ get_or xs i x → f y ≡ x → map f ys ≡ take i xs → map f (ys ++ y ∷ []) ≡ take (suc i) xs
  mapped-more ys xs i y x lt at is e =
      map-append f ys (y ∷ []) ∙ ap (λ (zs : List B). zs ++ f y ∷ []) e ∙ ap (λ (z : B). take i xs ++ z ∷ []) (is ∙ at) ∙ sym (take-suc xs i x lt)

pub taken : {A : Type 0} (xs : List A) (i : ℕ) (x : A) → i < length xs → x ≡ get_or xs i x → take (suc i) xs ≡ take i xs ++ x ∷ []
taken {A} xs i x lt at = take-suc xs i x lt ∙ ap (λ (z : A). take i xs ++ z ∷ []) (sym at)

-- ---- lists that have one more at the end

pub contains-last : {A : Type 0} (xs : List A) (x y : A) → Contains (xs ++ x ∷ []) y → Contains xs y ⊎ (x ≡ y)
contains-last [] x y c = ⊎_elim (λ e. inr e) (λ none. absurd (contains-none y none)) (contains-cases x y [] c)
contains-last (w ∷ xs) x y c =
    ⊎_elim (λ e. inl (subst (λ (v : _). Contains (w ∷ xs) v) e (contains-here w xs))) (λ later. ⊎_elim (λ before. inl (contains-there w y xs before)) (λ e. inr e) (contains-last xs x y later)) (contains-cases w y (xs ++ x ∷ []) c)

pub contains-before : {A : Type 0} (xs : List A) (x y : A) → Contains xs y → Contains (xs ++ x ∷ []) y
contains-before [] x y c = absurd (contains-none y c)
contains-before (w ∷ xs) x y c =
    ⊎_elim (λ e. subst (λ (v : _). Contains (w ∷ xs ++ x ∷ []) v) e (contains-here w (xs ++ x ∷ []))) (λ later. contains-there w y (xs ++ x ∷ []) (contains-before xs x y later)) (contains-cases w y xs c)

pub contains-end : {A : Type 0} (xs : List A) (x : A) → Contains (xs ++ x ∷ []) x
contains-end [] x = contains-here x []
contains-end (w ∷ xs) x = contains-there w x (xs ++ x ∷ []) (contains-end xs x)

-- what stands in the longer list stood there, or is the last
pub get-last : {A : Type 0} (xs : List A) (x : A) (i : ℕ) (y : A) → slice_get (xs ++ x ∷ []) i ≡ Some y → (slice_get xs i ≡ Some y) ⊎ ((i ≡ length xs) × (x ≡ y))
get-last [] x zero y e = inr (refl, some-injective x y e)
get-last [] x (suc i) y e = absurd (none-some y e)
get-last (w ∷ xs) x zero y e = inl e
get-last (w ∷ xs) x (suc i) y e = ⊎_elim (λ h. inl h) (λ h. inr (ap suc h.0, h.1)) (get-last xs x i y e)

pub get-before : {A : Type 0} (xs : List A) (x : A) (i : ℕ) (y : A) → slice_get xs i ≡ Some y → slice_get (xs ++ x ∷ []) i ≡ Some y
get-before [] x i y e = absurd (none-some y e)
get-before (w ∷ xs) x zero y e = e
get-before (w ∷ xs) x (suc i) y e = get-before xs x i y e

pub get-end : {A : Type 0} (xs : List A) (x : A) → slice_get (xs ++ x ∷ []) (length xs) ≡ Some x
get-end [] x = refl
get-end (w ∷ xs) x = get-end xs x

pub length-last : {A : Type 0} (xs : List A) (x : A) → length (xs ++ x ∷ []) ≡ suc (length xs)
length-last [] x = refl
length-last (w ∷ xs) x = ap suc (length-last xs x)

pub all-last : {A : Type 0} (P : A → Type 0) (xs : List A) (x : A) → ((y : A) → Contains xs y → P y) → P x → (y : A) → Contains (xs ++ x ∷ []) y → P y
all-last P xs x all one y c = ⊎_elim (λ before. all y before) (λ e. subst P e one) (contains-last xs x y c)

-- ---- sets of numbers

pub has-none : (k : ℕ) → Has empty k → ⊥
has-none k h = false≢true (sym (contains-empty nat_cmp k) ∙ h)

pub put : (s : Places) (j k : ℕ) → contains (insert s j) k ≡ ((k == j) || contains s k)
put s j k = contains-insert nat_cmp_total s j k ∙ ap (λ b. b || contains s k) (unsigned_tied k j)
