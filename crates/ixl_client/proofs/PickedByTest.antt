-- What a test picks.
use Rattle.std.proofs.Common.{◌≡◌, Bool, true, false, if◌then◌else◌, refl, sym, subst}
use Rattle.std.specs.Prelude.{◌&&◌}
use Rattle.std.proofs.lemmas.Bool.{false≢true}

-- what holds of both holds of the one that a test picks
pub either : {A : Type 0} (fact : A → Type 0) (b : Bool) (one other : A) → fact one → fact other → fact (if b then one else other)
either fact true one other is also = is
either fact false one other is also = also

-- what holds of the one where the test passes, and of the other where it fails
pub picked : {A : Type 0} (fact : A → Type 0) (b : Bool) (one other : A) → (b ≡ true → fact one) → (b ≡ false → fact other) → fact (if b then one else other)
picked fact true one other is also = is refl
picked fact false one other is also = also refl

pub picked_other : {A : Type 0} (fact : A → Type 0) (b : Bool) (one other : A) → b ≡ false → fact other → fact (if b then one else other)
picked_other fact b one other none also = subst (λ c. fact (if c then one else other)) (sym none) also

pub both : (a b : Bool) → a && b ≡ true → (a ≡ true) × (b ≡ true)
both true b is = (refl, is)
both false b is = absurd (false≢true is)
