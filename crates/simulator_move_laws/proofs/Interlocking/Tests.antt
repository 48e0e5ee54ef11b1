-- Tests that choose between two.
use Rattle.std.proofs.Common.{◌≡◌, Bool, true, false, not, if◌then◌else◌, refl, sym, ◌∙◌}
use Rattle.std.specs.Prelude.{◌&&◌}
use Rattle.std.proofs.lemmas.Bool.{true≢false, false≢true}

-- what holds of either side, where the test chooses it, holds of the choice
pub by_test : {A : Type 0} (P : A → Type 0) (test : Bool) (one other : A) → (test ≡ true → P one) → (test ≡ false → P other) → P (if test then one else other)
by_test P true one other holds fails = holds refl
by_test P false one other holds fails = fails refl

pub both_true : (a b : Bool) → a && b ≡ true → (a ≡ true) × (b ≡ true)
both_true true b is = (refl, is)
both_true false b is = absurd (false≢true is)

pub true_both : (a b : Bool) → a ≡ true → b ≡ true → a && b ≡ true
true_both true b one other = other
true_both false b one other = absurd (false≢true one)

pub not_true : (a : Bool) → not a ≡ true → a ≡ false
not_true true is = absurd (false≢true is)
not_true false is = refl

pub clash : {A : Type 0} (a : Bool) → a ≡ true → a ≡ false → A
clash a holds fails = absurd (true≢false (sym holds ∙ fails))
