-- Lists, and families in which one is changed.
use Rattle.std.proofs.Common.{◌≡◌, ℕ, zero, suc, ◌≤◌, Bool, true, false, List, [], ◌∷◌, ◌++◌, length, ◌⊎◌, inl, inr, refl, sym, ap, subst, arith}
use Rattle.std.specs.Prelude.{◌≢◌, if◌then◌else◌}
use Rattle.simulator_machine.specs.Lists.{last_of, IsOf, is_same, changed_at}

pub same_self : (n : ℕ) → is_same n n ≡ true
same_self zero = refl
same_self (suc n) = same_self n

pub same_is : (a b : ℕ) → is_same a b ≡ true → a ≡ b
same_is zero zero e = refl
same_is zero (suc b) e = absurd (cc (e))
same_is (suc a) zero e = absurd (cc (e))
same_is (suc a) (suc b) e = ap suc (same_is a b e)

pub differs : (a b : ℕ) → is_same a b ≡ false → a ≢ b
differs a b e same = absurd (cc (e, same_self a, ap (λ n. is_same a n) same))

pub different : (a b : ℕ) → a ≢ b → is_same a b ≡ false
different a b other = go (is_same a b) refl
  where
    go : (test : Bool) → is_same a b ≡ test → is_same a b ≡ false
    go true e = absurd (other (same_is a b e))
    go false e = e

-- two numbers are the same or not
pub same_or_not : (a b : ℕ) → (a ≡ b) ⊎ (a ≢ b)
same_or_not a b = go (is_same a b) refl
  where
    go : (test : Bool) → is_same a b ≡ test → (a ≡ b) ⊎ (a ≢ b)
    go true e = inl (same_is a b e)
    go false e = inr (differs a b e)

-- what holds of the new one at its place, and of each other where it was, holds throughout
pub at_each : {A : Type 0} (P : ℕ → A → Type 0) (place : ℕ) (new : A) (old : ℕ → A) → P place new → ((n : ℕ) → n ≢ place → P n (old n))
    → (n : ℕ) → P n (changed_at place new old n)
at_each P place new old here there n = go (is_same n place) refl
  where
    go : (test : Bool) → is_same n place ≡ test → P n (if test then new else old n)
    go true e = subst (λ m. P m new) (sym (same_is n place e)) here
    go false e = there n (differs n place e)

pub last_added : {A : Type 0} (before : A) (list : List A) (one : A) → last_of before (list ++ one ∷ []) ≡ one
last_added before [] one = refl
last_added before (first ∷ later) one = last_added first later one

-- one of a list with one more
pub of_added : {A : Type 0} (one added : A) (list : List A) → IsOf one (list ++ added ∷ []) → IsOf one list ⊎ (added ≡ one)
of_added one added [] (inl e) = inr e
of_added one added [] (inr none) = absurd none
of_added one added (first ∷ later) (inl e) = inl (inl e)
of_added one added (first ∷ later) (inr of) = go (of_added one added later of)
  where
    go : IsOf one later ⊎ (added ≡ one) → ((first ≡ one) ⊎ IsOf one later) ⊎ (added ≡ one)
    go (inl of) = inl (inr of)
    go (inr e) = inr e

pub none_left : {A : Type 0} (list : List A) → length list ≤ 0 → list ≡ []
none_left [] few = refl
none_left (first ∷ later) few = absurd (omega arith)
