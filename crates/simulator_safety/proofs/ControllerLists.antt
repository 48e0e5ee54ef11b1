-- A list of which one place is set, and a family in which one is changed.
use Rattle.std.proofs.Common.{◌≡◌, ◌≢◌, ◌⊎◌, ℕ, zero, suc, ◌<◌, Bool, true, false, List, [], ◌∷◌, length, Some, None, slice_get, slice_set, refl, ap, arith, inl, inr, if◌then◌else◌}
use Rattle.std.specs.Prelude.{◌==◌}
use Rattle.std.proofs.lemmas.Bool.Decides.{nat_tests}
use Rattle.std.proofs.lemmas.Option.{same_Some}
use Rattle.simulator_link_laws.specs.ixl_spec.State.{changed}
use Rattle.simulator_machine.specs.Lists.{changed_at, is_same}

-- two numbers are the same, or they aren't
pub same_or_other : (one other : ℕ) → (one ≡ other) ⊎ (one ≢ other)
same_or_other one other = cases (one == other) refl where
  cases : (b : Bool) → (one == other) ≡ b → (one ≡ other) ⊎ (one ≢ other)
  cases true e = inl (grind (arith, nat_tests))
  cases false e = inr (λ same. grind (arith, nat_tests))

pub itself : (one : ℕ) → (one == one) ≡ true
itself one = grind (arith, nat_tests)

pub unequal : (one other : ℕ) → one ≢ other → (one == other) ≡ false
unequal one other differ = cases (one == other) refl where
  cases : (b : Bool) → (one == other) ≡ b → (one == other) ≡ false
  cases true e = absurd (differ (grind (arith, nat_tests)))
  cases false e = e

pub get_set : {A : Type 0} (list : List A) (place : ℕ) (one : A) → place < length list → slice_get (slice_set list place one) place ≡ Some one
get_set [] place one within = absurd (omega arith)
get_set (first ∷ others) zero one within = refl
get_set (first ∷ others) (suc place) one within = get_set others place one (omega arith)

pub get_set_other : {A : Type 0} (list : List A) (place other : ℕ) (one : A) → other ≢ place → slice_get (slice_set list place one) other ≡ slice_get list other
get_set_other [] place other one differ = refl
get_set_other (first ∷ others) zero zero one differ = absurd (differ refl)
get_set_other (first ∷ others) zero (suc other) one differ = refl
get_set_other (first ∷ others) (suc place) zero one differ = refl
get_set_other (first ∷ others) (suc place) (suc other) one differ = get_set_other others place other one (λ same. differ (ap suc same))

pub length_set : {A : Type 0} (list : List A) (place : ℕ) (one : A) → length (slice_set list place one) ≡ length list
length_set [] place one = refl
length_set (first ∷ others) zero one = refl
length_set (first ∷ others) (suc place) one = ap suc (length_set others place one)

pub some_within : {A : Type 0} (list : List A) (place : ℕ) → place < length list → (one : A) × (slice_get list place ≡ Some one)
some_within [] place within = absurd (omega arith)
some_within (first ∷ others) zero within = (first, refl)
some_within (first ∷ others) (suc place) within = some_within others place (omega arith)

pub within_some : {A : Type 0} (list : List A) (place : ℕ) (one : A) → slice_get list place ≡ Some one → place < length list
within_some [] place one is = absurd (none_is is) where
  none_is : None ≡ Some one → ⊥
  none_is e = cc (e)
within_some (first ∷ others) zero one is = omega arith
within_some (first ∷ others) (suc place) one is = let h = within_some others place one is in omega arith

pub none_some : {A : Type 0} (one : A) → None ≡ Some one → ⊥
none_some one e = cc (e)

-- ---- a family

module _ {A : Type 0} (place : ℕ) (new : A) (old : ℕ → A) where
  pub at_place : is_same place place ≡ true → changed_at place new old place ≡ new
  at_place same = ap (λ (b : Bool). if b then new else old place) same

  pub at_other : (other : ℕ) → is_same other place ≡ false → changed_at place new old other ≡ old other
  at_other other differ = ap (λ (b : Bool). if b then new else old other) differ

-- ---- one is changed

pub changed_one : {A : Type 0} (change : A → A) (place : ℕ) (list : List A) (one : A) → slice_get list place ≡ Some one → changed change place list ≡ slice_set list place (change one)
changed_one change place [] one is = refl
changed_one change zero (first ∷ others) one is = ap (λ o. change o ∷ others) (same_Some first one is)
changed_one change (suc place) (first ∷ others) one is = ap (λ l. first ∷ l) (changed_one change place others one is)
