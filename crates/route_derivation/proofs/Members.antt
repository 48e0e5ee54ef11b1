-- Membership in lists, and tests of every or of some member.
use Rattle.std.proofs.Common.{◌≡◌, ◌≢◌, ◌∙◌, ◌⊎◌, Bool, true, false, ◌&&◌, ◌||◌, ℕ, zero, suc, List, [], ◌∷◌, Option, Some, None, refl, sym, ap, subst, inl, inr, ⊎_elim, arith}
use Rattle.std.proofs.lemmas.List.{get_or_default}
use Rattle.std.proofs.lemmas.List.Kept.{AllPairs-cons}
use Rattle.std.proofs.lemmas.List.Elements.{Contains-append_left, Contains-append_right, Contains-append_cases}
use Rattle.std.proofs.lemmas.Bool.{false≢true}
use Rattle.std.proofs.lemmas.Bool.Decides.{Decides-and, Decides-or, Decides-like}
use Rattle.std.specs.Bool.{Decides}
use Rattle.std.specs.List.{Contains, list_any, list_all, flat_map}
use Rattle.std.specs.Prelude.{slice_get}
use Rattle.control_table.specs.layout.Once.{Distinct}

pub contains-none : {A : Type 0} (x : A) → Contains [] x → ⊥
contains-none x h = absurd (omega (arith, h.1))

pub contains-here : {A : Type 0} (x : A) (xs : List A) → Contains (x ∷ xs) x
contains-here x xs = (0, omega arith, refl)

pub contains-there : {A : Type 0} (x y : A) (xs : List A) → Contains xs y → Contains (x ∷ xs) y
contains-there x y xs (k, lt, at) = (suc k, omega (arith, lt), at)

pub contains-cases : {A : Type 0} (x y : A) (xs : List A) → Contains (x ∷ xs) y → (x ≡ y) ⊎ Contains xs y
contains-cases x y xs (zero, lt, at) = inl at
contains-cases x y xs (suc k, lt, at) = inr (k, omega (arith, lt), at)

-- a test decides that some member passes
pub any-decides : {A : Type 0} (f : A → Bool) (P : A → Type 0) → ((x : A) → Decides (f x) (P x)) → (xs : List A) → Decides (list_any f xs) ((x : A) × Contains xs x × P x)
any-decides f P each [] = (λ h. absurd (false≢true h), λ h. absurd (contains-none h.0 h.1))
any-decides {A} f P each (x ∷ xs) =
    let some : Type 0 = (y : A) × Contains xs y × P y in
    let up : (P x) ⊎ some → (y : A) × Contains (x ∷ xs) y × P y = λ h. ⊎_elim (λ here. (x, contains-here x xs, here)) (λ later. (later.0, contains-there x later.0 xs later.1, later.2)) h in
    let down : ((y : A) × Contains (x ∷ xs) y × P y) → (P x) ⊎ some = λ h. ⊎_elim (λ e. inl (subst P (sym e) h.2)) (λ later. inr (h.0, later, h.2)) (contains-cases x h.0 xs h.1) in
    Decides-like (f x || list_any f xs) up down (Decides-or (f x) (list_any f xs) (each x) (any-decides f P each xs))

-- a test decides that every member passes
pub all-decides : {A : Type 0} (f : A → Bool) (P : A → Type 0) → ((x : A) → Decides (f x) (P x)) → (xs : List A) → Decides (list_all f xs) ((x : A) → Contains xs x → P x)
all-decides f P each [] = (λ h x c. absurd (contains-none x c), λ h. refl)
all-decides {A} f P each (x ∷ xs) =
    let every : Type 0 = (y : A) → Contains xs y → P y in
    let up : P x × every → (y : A) → Contains (x ∷ xs) y → P y = λ h y c. ⊎_elim (λ e. subst P e h.0) (λ later. h.1 y later) (contains-cases x y xs c) in
    let down : ((y : A) → Contains (x ∷ xs) y → P y) → P x × every = λ h. (h x (contains-here x xs), λ y c. h y (contains-there x y xs c)) in
    Decides-like (f x && list_all f xs) up down (Decides-and (f x) (list_all f xs) (each x) (all-decides f P each xs))

-- a test of equality finds a member
pub has-decides : {A : Type 0} (same : A → A → Bool) → ((x y : A) → Decides (same x y) (x ≡ y)) → (xs : List A) (y : A) → Decides (list_any (λ x. same x y) xs) (Contains xs y)
has-decides {A} same each xs y =
    let P : A → Type 0 = λ x. x ≡ y in
    let H : A → Type 0 = λ x. Contains xs x in
    Decides-like (list_any (λ x. same x y) xs) (λ h. subst H h.2 h.1) (λ c. (y, c, refl)) (any-decides (λ x. same x y) P (λ x. each x y) xs)

-- members of lists joined end to end
pub flat_map-from : {A B : Type 0} (f : A → List B) (xs : List A) (y : B) → Contains (flat_map f xs) y → (x : A) × Contains xs x × Contains (f x) y
flat_map-from f [] y c = absurd (contains-none y c)
flat_map-from f (x ∷ xs) y c =
    ⊎_elim (λ here. (x, contains-here x xs, here)) (λ later. let h = flat_map-from f xs y later in (h.0, contains-there x h.0 xs h.1, h.2)) (Contains-append_cases (f x) (flat_map f xs) y c)

pub flat_map-to : {A B : Type 0} (f : A → List B) (xs : List A) (x : A) (y : B) → Contains xs x → Contains (f x) y → Contains (flat_map f xs) y
flat_map-to f [] x y at c = absurd (contains-none x at)
flat_map-to {A} {B} f (w ∷ xs) x y at c =
    let H : A → Type 0 = λ v. Contains (f v) y in
    ⊎_elim (λ e. Contains-append_left (f w) (flat_map f xs) y (subst H (sym e) c)) (λ later. Contains-append_right (f w) (flat_map f xs) y (flat_map-to f xs x y later c)) (contains-cases w x xs at)

pub none-some : {A : Type 0} (x : A) → None ≡ Some x → ⊥
none-some {A} x e = let is_some : Option A → Bool = λ o. elim o [ None ↦ false | Some y ↦ true ] in false≢true (ap is_some e)

-- what can't be true is false
pub false-from : (b : Bool) → (b ≡ true → ⊥) → b ≡ false
false-from true h = absurd (h refl)
false-from false h = refl

pub some-injective : {A : Type 0} (x y : A) → Some x ≡ Some y → x ≡ y
some-injective {A} x y e = let unwrap : Option A → A = λ o. elim o [ None ↦ x | Some z ↦ z ] in ap unwrap e

-- what stands at a place is a member, and a member stands at a place
pub get-contains : {A : Type 0} (xs : List A) (i : ℕ) (x : A) → slice_get xs i ≡ Some x → Contains xs x
get-contains [] i x e = absurd (cc)
get-contains {A} (w ∷ xs) zero x e = let H : A → Type 0 = λ v. Contains (w ∷ xs) v in subst H (some-injective w x e) (contains-here w xs)
get-contains (w ∷ xs) (suc i) x e = contains-there w x xs (get-contains xs i x e)

pub contains-get : {A : Type 0} (xs : List A) (x : A) → Contains xs x → (i : ℕ) × (slice_get xs i ≡ Some x)
contains-get [] x c = absurd (contains-none x c)
contains-get (w ∷ xs) x c = ⊎_elim (λ e. (0, ap Some e)) (λ later. let h = contains-get xs x later in (suc h.0, h.1)) (contains-cases w x xs c)

-- ---- members that are distinct

pub distinct-first : {A : Type 0} (x y : A) (xs : List A) → Distinct (x ∷ xs) → Contains xs y → x ≢ y
distinct-first x y xs d c e = d 0 (suc c.0) y (omega arith) (let lt = c.1 in omega (arith, lt)) (e ∙ sym c.2)

pub distinct-rest : {A : Type 0} (x : A) (xs : List A) → Distinct (x ∷ xs) → Distinct xs
distinct-rest x xs d i j y lt within = d (suc i) (suc j) y (omega (arith, lt)) (omega (arith, within))

pub distinct-cons : {A : Type 0} (x : A) (xs : List A) → (Contains xs x → ⊥) → Distinct xs → Distinct (x ∷ xs)
distinct-cons x xs absent rest = AllPairs-cons (λ a b. a ≢ b) x xs (λ k d lt e. absent (k, lt, get_or_default xs k x d lt ∙ sym e)) rest
