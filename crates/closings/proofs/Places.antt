-- Names in lists, and the places at which they stand.
use Rattle.std.proofs.Common.{◌≡◌, ◌≢◌, ◌⊎◌, ◌∙◌, ℕ, zero, suc, ◌+◌, ◌<◌, Bool, true, false, not, cond, nat_lt, List, [], ◌∷◌, ◌++◌, length, map, Option, Some, None, slice_get, Contains, refl, sym, ap, subst, inl, inr, ⊎_elim, arith, option_map}
use Rattle.std.specs.List.{position, position_or_len}
use Rattle.std.specs.Str.{bytes_eq}
use Rattle.std.proofs.lemmas.Bool.Decides.{nat_tests}
use Rattle.std.proofs.lemmas.List.{get_or_default}
use Rattle.std.proofs.lemmas.List.Kept.{AllPairs-cons}
use Rattle.std.proofs.lemmas.List.Elements.{Contains-append_left, Contains-append_right}
use Rattle.std.proofs.lemmas.Slice.Eq.{bytes_eq-Decides}
use Rattle.control_table.specs.layout.Once.{Distinct}

-- ---- members

pub contains-there : {A : Type 0} (x y : A) (xs : List A) → Contains xs y → Contains (x ∷ xs) y
contains-there x y xs (k, lt, at) = (suc k, omega (arith, lt), at)

contains-cases : {A : Type 0} (x y : A) (xs : List A) → Contains (x ∷ xs) y → (x ≡ y) ⊎ Contains xs y
contains-cases x y xs (zero, lt, at) = inl at
contains-cases x y xs (suc k, lt, at) = inr (k, omega (arith, lt), at)

pub some-same : {A : Type 0} (x y : A) → Some x ≡ Some y → x ≡ y
some-same {A} x y e = let unwrap : Option A → A = λ o. elim o [ None ↦ x | Some z ↦ z ] in ap unwrap e

-- what stands at a place is a member
pub get-contains : {A : Type 0} (xs : List A) (i : ℕ) (x : A) → slice_get xs i ≡ Some x → Contains xs x
get-contains [] i x e = absurd (cc)
get-contains {A} (w ∷ xs) zero x e = let H : A → Type 0 = λ v. Contains (w ∷ xs) v in subst H (some-same w x e) (0, omega arith, refl)
get-contains (w ∷ xs) (suc i) x e = contains-there w x xs (get-contains xs i x e)

-- ---- distinct members

member-first : {A : Type 0} (x y : A) (xs : List A) → Distinct (x ∷ xs) → Contains xs y → x ≢ y
member-first x y xs d c e = d 0 (suc c.0) y (omega arith) (let lt = c.1 in omega (arith, lt)) (e ∙ sym c.2)

pub member-rest : {A : Type 0} (x : A) (xs : List A) → Distinct (x ∷ xs) → Distinct xs
member-rest x xs d i j y lt within = d (suc i) (suc j) y (omega (arith, lt)) (omega (arith, within))

member-cons : {A : Type 0} (x : A) (xs : List A) → (Contains xs x → ⊥) → Distinct xs → Distinct (x ∷ xs)
member-cons x xs absent rest = AllPairs-cons (λ a b. a ≢ b) x xs (λ k d lt e. absent (k, lt, get_or_default xs k x d lt ∙ sym e)) rest

-- nothing is a member of both
abbrev pub Apart : {A : Type 0} → List A → List A → Type 0
Apart {A} xs ys = (x : A) → Contains xs x → Contains ys x → ⊥

pub distinct-left : {A : Type 0} (xs ys : List A) → Distinct (xs ++ ys) → Distinct xs
distinct-left [] ys d = λ i j x lt within. absurd (omega (arith, within))
distinct-left (x ∷ xs) ys d =
    member-cons x xs (λ c. member-first x x (xs ++ ys) d (Contains-append_left xs ys x c) refl) (distinct-left xs ys (member-rest x (xs ++ ys) d))

pub distinct-right : {A : Type 0} (xs ys : List A) → Distinct (xs ++ ys) → Distinct ys
distinct-right [] ys d = d
distinct-right (x ∷ xs) ys d = distinct-right xs ys (member-rest x (xs ++ ys) d)

pub distinct-apart : {A : Type 0} (xs ys : List A) → Distinct (xs ++ ys) → Apart xs ys
distinct-apart [] ys d x here there = absurd (let lt = here.1 in omega (arith, lt))
distinct-apart {A} (w ∷ xs) ys d x here there =
    ⊎_elim (λ e. member-first w x (xs ++ ys) d (Contains-append_right xs ys x there) e)
    (λ later. distinct-apart xs ys (member-rest w (xs ++ ys) d) x later there) (contains-cases w x xs here)

-- ---- the place of a name

abbrev pub place_in : List (List ℕ) → List ℕ → Option ℕ
place_in names word = position (λ name. bytes_eq name word) names

-- the first entry is looked at before the others
position-cons : {A : Type 0} (p : A → Bool) (x : A) (xs : List A) → position p (x ∷ xs) ≡ cond (p x) (Some 0) (option_map suc (position p xs))
position-cons p x xs = by_first (p x) (position_or_len p xs) (length xs)
  where
    by_first : (b : Bool) (k n : ℕ)
        → cond (nat_lt (cond (not b) (1 + k) 0) (suc n)) (Some (cond (not b) (1 + k) 0)) None ≡ cond b (Some 0) (option_map suc (cond (nat_lt k n) (Some k) None))
    by_first true k n = grind (arith, nat_tests)
    by_first false k n = further (nat_lt (1 + k) (suc n)) (nat_lt k n) (grind (arith, nat_tests))
      where
        further : (a b : Bool) → a ≡ b → cond a (Some (1 + k)) None ≡ option_map suc (cond b (Some k) None)
        further a true e = rw e (ap Some (omega arith))
        further a false e = rw e refl

pub position-map : {A B : Type 0} (p : B → Bool) (f : A → B) (xs : List A) → position p (map f xs) ≡ position (λ x. p (f x)) xs
position-map p f [] = refl
position-map p f (x ∷ xs) =
    position-cons p (f x) (map f xs)
    ∙ ap (λ r. cond (p (f x)) (Some 0) (option_map suc r)) (position-map p f xs)
    ∙ sym (position-cons (λ y. p (f y)) x xs)

fails : (v : Bool) → (v ≡ true → ⊥) → v ≡ false
fails true h = absurd (h refl)
fails false h = refl

-- a name of distinct ones is found at its place
pub found : (xs : List (List ℕ)) (k : ℕ) (name : List ℕ) → Distinct xs → slice_get xs k ≡ Some name → place_in xs name ≡ Some k
found [] k name d e = absurd (cc)
found (x ∷ xs) zero name d e =
    position-cons (λ n. bytes_eq n name) x xs
    ∙ ap (λ v. cond v (Some 0) (option_map suc (place_in xs name))) ((bytes_eq-Decides x name).1 (some-same x name e))
found (x ∷ xs) (suc k) name d e =
    position-cons (λ n. bytes_eq n name) x xs
    ∙ ap (λ v. cond v (Some 0) (option_map suc (place_in xs name))) (fails (bytes_eq x name) (λ same. member-first x name xs d (get-contains xs k name e) ((bytes_eq-Decides x name).0 same)))
    ∙ ap (option_map suc) (found xs k name (member-rest x xs d) e)

-- at the place that was found stands the name
pub stands : (xs : List (List ℕ)) (word : List ℕ) (k : ℕ) → place_in xs word ≡ Some k → slice_get xs k ≡ Some word
stands [] word k e = absurd (cc)
stands (x ∷ xs) word k e = by (bytes_eq x word) refl (sym (position-cons (λ n. bytes_eq n word) x xs) ∙ e) (λ i at. stands xs word i at)
  where
    later : (o : Option ℕ) (j : ℕ) → option_map suc o ≡ Some j → ((i : ℕ) → o ≡ Some i → slice_get xs i ≡ Some word) → slice_get (x ∷ xs) j ≡ Some word
    later None j h more = absurd (cc)
    later (Some i) j h more = let at : suc i ≡ j = some-same (suc i) j h in subst (λ (n : ℕ). slice_get (x ∷ xs) n ≡ Some word) at (more i refl)

    by : (v : Bool) → bytes_eq x word ≡ v → cond v (Some 0) (option_map suc (place_in xs word)) ≡ Some k
        → ((i : ℕ) → place_in xs word ≡ Some i → slice_get xs i ≡ Some word) → slice_get (x ∷ xs) k ≡ Some word
    by true same h more =
        let at : 0 ≡ k = some-same 0 k h in
        subst (λ (n : ℕ). slice_get (x ∷ xs) n ≡ Some word) at (ap Some ((bytes_eq-Decides x word).0 same))
    by false other h more = later (place_in xs word) k h more

-- a word that is no name is found nowhere
pub absent : (xs : List (List ℕ)) (word : List ℕ) → (Contains xs word → ⊥) → place_in xs word ≡ None
absent xs word none = by (place_in xs word) refl
  where
    by : (o : Option ℕ) → place_in xs word ≡ o → o ≡ None
    by None e = refl
    by (Some k) e = absurd (none (get-contains xs k word (stands xs word k e)))

-- a place at which something stands lies within the list
pub get-within : {A : Type 0} (xs : List A) (k : ℕ) (x : A) → slice_get xs k ≡ Some x → k < length xs
get-within [] k x e = absurd (cc)
get-within (y ∷ xs) zero x e = omega arith
get-within (y ∷ xs) (suc k) x e = let below = get-within xs k x e in omega arith

-- and where a place lies within the list something stands
pub within-get : {A : Type 0} (xs : List A) (k : ℕ) → k < length xs → (x : A) × (slice_get xs k ≡ Some x)
within-get [] k lt = absurd (omega arith)
within-get (y ∷ xs) zero lt = (y, refl)
within-get (y ∷ xs) (suc k) lt = within-get xs k (omega arith)
