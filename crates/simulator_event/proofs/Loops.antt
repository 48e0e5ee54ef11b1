-- What a loop over a list has seen so far.
use Rattle.std.proofs.Common.{◌≡◌, ℕ, ◌+◌, ◌<◌, ◌⊎◌, List, length, get_or, subst, ◌∙◌, inl, inr, arith}
use Rattle.std.proofs.lemmas.List.{get_or_default}
use Rattle.std.specs.List.{Contains}

-- a fact of each element before a place
pub record AllBelow {A : Type 0} (P : A → Type 0) (xs : List A) (i : ℕ) : Type 0 where
  pub holds : (x : A) (k : ℕ) → k < i → get_or xs k x ≡ x → P x

pub below_none : {A : Type 0} (P : A → Type 0) (xs : List A) → AllBelow P xs 0
below_none P xs = record { holds = λ x k lt e. absurd (omega (arith, lt)) }

either : (k i : ℕ) → k < i + 1 → (k < i) ⊎ (k ≡ i)
either k i lt = grind arith

pub below_more : {A : Type 0} (P : A → Type 0) (xs : List A) (i : ℕ) (d : A) → i < length xs → P (get_or xs i d) → AllBelow P xs i → AllBelow P xs (i + 1)
below_more {A} P xs i d within here so_far = record {
  holds = λ y k lt e. elim (either k i lt) [
    | inl before ↦ so_far.holds y k before e
    | inr same ↦ subst P (get_or_default xs i d y within ∙ (let Q : ℕ → Type 0 = λ n. get_or xs n y ≡ y in subst Q same e)) here
  ];
}

-- what stands at a place is a member
pub member : {A : Type 0} (xs : List A) (i : ℕ) (d : A) → i < length xs → Contains xs (get_or xs i d)
member xs i d within = (i, within, get_or_default xs i (get_or xs i d) d within)
