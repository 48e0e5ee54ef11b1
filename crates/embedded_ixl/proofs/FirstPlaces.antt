-- The first place in a list at which a test passes.
use Rattle.std.proofs.Common.{◌≡◌, sym, ap, ◌∙◌, ℕ, ◌<◌, Bool, true, false, cond, List, length, get_or, Some, None, arith}
use Rattle.std.specs.Prelude.{nat_lt}
use Rattle.std.specs.List.{position}
use Rattle.std.proofs.lemmas.Bool.Decides.{nat_tests}
use Rattle.std.proofs.lemmas.List.Sums.{position_or_len_is}

is_below : (n m : ℕ) → n < m → nat_lt n m ≡ true
is_below n m below = grind (arith, nat_tests)

is_not_below : (n : ℕ) → nat_lt n n ≡ false
is_not_below n = grind (arith, nat_tests)

pub place_found : {A : Type 0} (p : A → Bool) (d : A) (place : ℕ) (xs : List A) → place < length xs → ((k : ℕ) → k < place → p (get_or xs k d) ≡ false) → p (get_or xs place d) ≡ true
    → Some place ≡ position p xs
place_found p d place xs below before here =
    let at = position_or_len_is p xs place d (omega (arith, below)) before (λ inside. here)
    in sym (ap (λ n. cond (nat_lt n (length xs)) (Some n) None) at ∙ ap (λ b. cond b (Some place) None) (is_below place (length xs) below))

pub place_missing : {A : Type 0} (p : A → Bool) (d : A) (xs : List A) → ((k : ℕ) → k < length xs → p (get_or xs k d) ≡ false) → None ≡ position p xs
place_missing p d xs before =
    let at = position_or_len_is p xs (length xs) d (omega arith) before (λ inside. absurd (omega (arith, inside)))
    in sym (ap (λ n. cond (nat_lt n (length xs)) (Some n) None) at ∙ ap (λ b. cond b (Some (length xs)) None) (is_not_below (length xs)))
