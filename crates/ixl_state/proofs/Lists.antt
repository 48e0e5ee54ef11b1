-- Lists of which one is changed, and what follows a place of a list.
use Rattle.std.proofs.Common.{◌≡◌, ◌≢◌, ◌∙◌, ◌⊎◌, ℕ, zero, suc, ◌+◌, ◌<◌, List, [], ◌∷◌, length, drop, get_or, slice_set, Some, refl, sym, ap, subst, inl, inr, ⊎_elim, arith, length-drop}
use Rattle.std.specs.Prelude.{slice_get}
use Rattle.std.specs.List.{AllPairs, Contains}
use Rattle.std.proofs.lemmas.List.{get_or-drop}
use Rattle.std.proofs.lemmas.Option.{get_or_from_slice_get, none-some, same_Some}
use Rattle.ixl_spec.specs.State.{changed}

pub changed-is-set : {A : Type 0} (change : A → A) (xs : List A) (n : ℕ) (x y : A) → slice_get xs n ≡ Some x → y ≡ change x → slice_set xs n y ≡ changed change n xs
changed-is-set change [] n x y at is = absurd (none-some x at)
changed-is-set change (w ∷ xs) zero x y at is = ap (λ z. z ∷ xs) (is ∙ ap change (sym (same_Some w x at)))
changed-is-set change (w ∷ xs) (suc n) x y at is = ap (λ zs. w ∷ zs) (changed-is-set change xs n x y at is)

-- what stands in a list in which one was set
pub set-cases : {A : Type 0} (xs : List A) (n m : ℕ) (y x : A) → slice_get (slice_set xs n y) m ≡ Some x → ((m ≡ n) × (x ≡ y)) ⊎ ((m ≢ n) × (slice_get xs m ≡ Some x))
set-cases [] n m y x at = absurd (none-some x at)
set-cases (w ∷ xs) zero zero y x at = inl (refl, sym (same_Some y x at))
set-cases (w ∷ xs) zero (suc m) y x at = inr ((λ same. absurd (omega (arith, same))), at)
set-cases (w ∷ xs) (suc n) zero y x at = inr ((λ same. absurd (omega (arith, same))), at)
set-cases (w ∷ xs) (suc n) (suc m) y x at = ⊎_elim (λ h. inl (ap suc h.0, h.1)) (λ h. inr ((λ same. h.0 (omega (arith, same))), h.1)) (set-cases xs n m y x at)

pub get-below : {A : Type 0} (xs : List A) (n : ℕ) → n < length xs → (x : A) × (slice_get xs n ≡ Some x)
get-below [] n lt = absurd (omega (arith, lt))
get-below (x ∷ xs) zero lt = (x, refl)
get-below (x ∷ xs) (suc n) lt = get-below xs n (omega (arith, lt))

-- ---- members

pub contains-here : {A : Type 0} (x : A) (xs : List A) → Contains (x ∷ xs) x
contains-here x xs = (0, omega arith, refl)

pub contains-there : {A : Type 0} (x y : A) (xs : List A) → Contains xs y → Contains (x ∷ xs) y
contains-there x y xs (k, lt, at) = (suc k, omega (arith, lt), at)

pub contains-cases : {A : Type 0} (x y : A) (xs : List A) → Contains (x ∷ xs) y → (x ≡ y) ⊎ Contains xs y
contains-cases x y xs (zero, lt, at) = inl at
contains-cases x y xs (suc k, lt, at) = inr (k, omega (arith, lt), at)

-- ---- what follows a place

pub drop-at : {A : Type 0} (xs : List A) (n : ℕ) (x : A) → slice_get xs n ≡ Some x → drop n xs ≡ x ∷ drop (suc n) xs
drop-at [] n x at = absurd (none-some x at)
drop-at (w ∷ xs) zero x at = ap (λ z. z ∷ xs) (same_Some w x at)
drop-at (w ∷ xs) (suc n) x at = drop-at xs n x at

-- in a list in which nothing stands twice, nothing stands at a place and after it
pub apart-after : {A : Type 0} (xs : List A) (n : ℕ) (x y : A) → AllPairs (λ a b. a ≢ b) xs → slice_get xs n ≡ Some x → Contains (drop (suc n) xs) y → y ≢ x
apart-after xs n x y apart at (k, lt, stands) same =
    let bound = length-drop (suc n) xs in
    let later : get_or xs (suc n + k) y ≡ y = sym (get_or-drop (suc n) xs k y) ∙ stands in
    apart n (suc n + k) y (omega arith) (omega (arith, lt, bound)) (get_or_from_slice_get xs n x y at ∙ sym same ∙ sym later)

-- what stands from a place on, but for what stands there, is what stands after it
pub rest-after : {A : Type 0} (xs : List A) (n : ℕ) (x y : A) → slice_get xs n ≡ Some x → Contains (drop n xs) y → y ≢ x → Contains (drop (suc n) xs) y
rest-after {A} xs n x y at h other =
    let F : List A → Type 0 = λ zs. Contains zs y in
    ⊎_elim (λ same. absurd (other (sym same))) (λ rest. rest) (contains-cases x y (drop (suc n) xs) (subst F (drop-at xs n x at) h))

pub after-rest : {A : Type 0} (xs : List A) (n : ℕ) (x y : A) → slice_get xs n ≡ Some x → Contains (drop (suc n) xs) y → Contains (drop n xs) y
after-rest {A} xs n x y at h =
    let F : List A → Type 0 = λ zs. Contains zs y in
    subst F (sym (drop-at xs n x at)) (contains-there x y (drop (suc n) xs) h)
