-- Values that are put one after another.
use Rattle.std.proofs.Common.{◌≡◌, ◌∙◌, ◌+◌, ◌<◌, ℕ, zero, suc, List, [], ◌∷◌, ◌++◌, drop, length, replicate, slice_set, refl, ap, arith}

set_next : {A : Type 0} (place : ℕ) (value : A) (all : List A) → place < length all
    → slice_set (replicate place value ++ drop place all) place value ≡ replicate (suc place) value ++ drop (suc place) all
set_next place value [] below = absurd (omega (arith, below))
set_next zero value (first ∷ others) below = refl
set_next (suc place) value (first ∷ others) below = ap (λ l. value ∷ l) (set_next place value others (omega (arith, below)))

pub set_length : {A : Type 0} (place : ℕ) (value : A) (all : List A) → length (slice_set all place value) ≡ length all
set_length place value [] = refl
set_length zero value (first ∷ others) = refl
set_length (suc place) value (first ∷ others) = ap suc (set_length place value others)

-- one more has the value
pub put_next : {A : Type 0} (place : ℕ) (value : A) (now all : List A) → place < length all → now ≡ replicate place value ++ drop place all
    → slice_set now place value ≡ replicate (place + 1) value ++ drop (place + 1) all
put_next place value now all below is =
    let next : suc place ≡ place + 1 = omega arith in
    ap (λ l. slice_set l place value) is ∙ set_next place value all below ∙ ap (λ p. replicate p value ++ drop p all) next
