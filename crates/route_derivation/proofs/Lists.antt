-- Lists that grow at their end.
use Rattle.std.proofs.Common.{◌≡◌, ◌≢◌, ◌∙◌, ◌⊎◌, suc, List, [], ◌∷◌, ◌++◌, map, get_or, refl, sym, ap, subst, inl, inr, ⊎_elim, arith, append_assoc}
use Rattle.std.specs.List.{Contains, AllPairs}
use Rattle.std.proofs.lemmas.List.{get_or_default}
use Rattle.std.proofs.lemmas.List.Kept.{AllPairs-cons}
use Rattle.std.proofs.lemmas.List.Elements.{Contains-append_left, Contains-append_right, Contains-append_cases}
use Rattle.control_table.specs.layout.Once.{Distinct}
use Rattle.route_derivation.proofs.Members.{contains-none, contains-here, contains-there, contains-cases}

pub append-nil : {A : Type 0} (xs : List A) → xs ++ [] ≡ xs
append-nil [] = refl
append-nil (x ∷ xs) = ap (λ ys. x ∷ ys) (append-nil xs)

-- a list, one more, and the rest
pub append-one : {A : Type 0} (xs : List A) (x : A) (ys : List A) → (xs ++ x ∷ []) ++ ys ≡ xs ++ x ∷ ys
append-one xs x ys = append_assoc xs (x ∷ []) ys

pub contains-last : {A : Type 0} (xs : List A) (x : A) → Contains (xs ++ x ∷ []) x
contains-last xs x = Contains-append_right xs (x ∷ []) x (contains-here x [])

pub contains-grown : {A : Type 0} (xs : List A) (x y : A) → Contains (xs ++ x ∷ []) y → Contains xs y ⊎ (x ≡ y)
contains-grown xs x y c =
    ⊎_elim (λ old. inl old) (λ new. ⊎_elim (λ e. inr e) (λ none. absurd (contains-none y none)) (contains-cases x y [] new)) (Contains-append_cases xs (x ∷ []) y c)

pub contains-mapped : {A B : Type 0} (f : A → B) (xs : List A) (y : B) → Contains (map f xs) y → (x : A) × Contains xs x × (f x ≡ y)
contains-mapped f [] y c = absurd (contains-none y c)
contains-mapped f (x ∷ xs) y c =
    ⊎_elim (λ e. (x, contains-here x xs, e)) (λ later. let on = contains-mapped f xs y later in (on.0, contains-there x on.0 xs on.1, on.2)) (contains-cases (f x) y (map f xs) c)

pub mapped-contains : {A B : Type 0} (f : A → B) (xs : List A) (x : A) → Contains xs x → Contains (map f xs) (f x)
mapped-contains f [] x c = absurd (contains-none x c)
mapped-contains {A} {B} f (w ∷ xs) x c =
    let H : A → Type 0 = λ v. Contains (map f (w ∷ xs)) (f v) in
    ⊎_elim (λ e. subst H e (contains-here (f w) (map f xs))) (λ later. contains-there (f w) (f x) (map f xs) (mapped-contains f xs x later)) (contains-cases w x xs c)

-- ---- what holds of each two

module _ {A : Type 0} (R : A → A → Type 0) where
  pub pairs-nil : AllPairs R []
  pairs-nil i j d lt within = absurd (omega (arith, within))

  pub pairs-first : (x y : A) (xs : List A) → AllPairs R (x ∷ xs) → Contains xs y → R x y
  pairs-first x y xs d c =
      let P : A → Type 0 = λ z. R x z in
      subst P c.2 (d 0 (suc c.0) y (omega arith) (let lt = c.1 in omega (arith, lt)))

  pub pairs-rest : (x : A) (xs : List A) → AllPairs R (x ∷ xs) → AllPairs R xs
  pairs-rest x xs d i j y lt within = d (suc i) (suc j) y (omega (arith, lt)) (omega (arith, within))

  pub pairs-cons : (x : A) (xs : List A) → ((y : A) → Contains xs y → R x y) → AllPairs R xs → AllPairs R (x ∷ xs)
  pairs-cons x xs each rest = AllPairs-cons R x xs (λ k d lt. each (get_or xs k d) (k, lt, get_or_default xs k (get_or xs k d) d lt)) rest

  pub pairs-append : (xs ys : List A) → AllPairs R xs → AllPairs R ys → ((x y : A) → Contains xs x → Contains ys y → R x y) → AllPairs R (xs ++ ys)
  pairs-append [] ys a b across = b
  pairs-append (x ∷ xs) ys a b across =
      pairs-cons x (xs ++ ys)
      (λ y c. ⊎_elim (λ here. pairs-first x y xs a here) (λ there. across x y (contains-here x xs) there) (Contains-append_cases xs ys y c))
      (pairs-append xs ys (pairs-rest x xs a) b (λ v y c k. across v y (contains-there x v xs c) k))

  pub pairs-prefix : (xs ys : List A) → AllPairs R (xs ++ ys) → AllPairs R xs
  pairs-prefix [] ys d = pairs-nil
  pairs-prefix (x ∷ xs) ys d =
      pairs-cons x xs (λ y c. pairs-first x y (xs ++ ys) d (Contains-append_left xs ys y c)) (pairs-prefix xs ys (pairs-rest x (xs ++ ys) d))

pub distinct-grown : {A : Type 0} (xs : List A) (x : A) → Distinct xs → (Contains xs x → ⊥) → Distinct (xs ++ x ∷ [])
distinct-grown {A} xs x d absent =
    pairs-append (λ (a : A) (b : A). a ≢ b) xs (x ∷ []) d
    (pairs-cons (λ (a : A) (b : A). a ≢ b) x [] (λ y none. absurd (contains-none y none)) (pairs-nil (λ (a : A) (b : A). a ≢ b)))
    (λ v y c k e. ⊎_elim (λ same. let H : A → Type 0 = λ z. Contains xs z in absent (subst H (e ∙ sym same) c)) (λ none. contains-none y none) (contains-cases x y [] k))

-- one that stands behind stands not before
pub distinct-behind : {A : Type 0} (xs : List A) (y : A) (ys : List A) → Distinct (xs ++ y ∷ ys) → Contains xs y → ⊥
distinct-behind [] y ys d c = contains-none y c
distinct-behind {A} (x ∷ xs) y ys d c =
    ⊎_elim (λ e. pairs-first (λ (a : A) (b : A). a ≢ b) x y (xs ++ y ∷ ys) d (Contains-append_right xs (y ∷ ys) y (contains-here y ys)) e)
    (λ later. distinct-behind xs y ys (pairs-rest (λ (a : A) (b : A). a ≢ b) x (xs ++ y ∷ ys) d) later) (contains-cases x y xs c)
