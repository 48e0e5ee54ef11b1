-- What a test picks, and what stands in a list.
use Rattle.std.proofs.Common.{◌≡◌, ℕ, zero, suc, Bool, true, false, if◌then◌else◌, List, [], ◌∷◌, refl, ap, sym}
use Rattle.std.specs.Prelude.{◌&&◌, Option, Some, None, is_some, slice_get}
use Rattle.std.proofs.lemmas.Bool.{false≢true, true≢false}
use Rattle.ixl_state.specs.ixl_spec.State.{changed}

-- what holds of both holds of the one that a test picks
pub either : {A : Type 0} (fact : A → Type 0) (b : Bool) (one other : A) → fact one → fact other → fact (if b then one else other)
either fact true one other is also = is
either fact false one other is also = also

-- what holds of the one where the test passes, and of the other where it fails
pub picked : {A : Type 0} (fact : A → Type 0) (b : Bool) (one other : A) → (b ≡ true → fact one) → (b ≡ false → fact other) → fact (if b then one else other)
picked fact true one other is also = is refl
picked fact false one other is also = also refl

pub both : (a b : Bool) → a && b ≡ true → (a ≡ true) × (b ≡ true)
both true b is = (refl, is)
both false b is = absurd (false≢true is)

pub some_same : {A : Type 0} {a b : A} → Some a ≡ Some b → a ≡ b
some_same {A} {a} {b} is = ap read is where
  read : Option A → A
  read None = a
  read (Some one) = one

pub none_is : {A : Type 0} {one : A} → None ≡ Some one → ⊥
none_is is = false≢true (ap is_some is)

pub some_is : {A : Type 0} {one : A} → Some one ≡ None → ⊥
some_is is = true≢false (ap is_some is)

pub changed_here : {A : Type 0} (change : A → A) (place : ℕ) (list : List A) (one : A) → slice_get (changed change place list) place ≡ Some one →
    (old : A) × (slice_get list place ≡ Some old) × (one ≡ change old)
changed_here change place [] one is = absurd (none_is is)
changed_here change zero (first ∷ others) one is = (first, refl, sym (some_same is))
changed_here change (suc place) (first ∷ others) one is = changed_here change place others one is

pub changed_elsewhere : {A : Type 0} (change : A → A) (place other : ℕ) (list : List A) → (other ≡ place → ⊥) → slice_get (changed change place list) other ≡ slice_get list other
changed_elsewhere change place other [] apart = refl
changed_elsewhere change zero zero (first ∷ others) apart = absurd (apart refl)
changed_elsewhere change zero (suc other) (first ∷ others) apart = refl
changed_elsewhere change (suc place) zero (first ∷ others) apart = refl
changed_elsewhere change (suc place) (suc other) (first ∷ others) apart = changed_elsewhere change place other others (λ same. apart (ap suc same))
