-- How the lines and datagrams of a round end.
use Rattle.std.proofs.Common.{◌≡◌, ◌<◌, ◌≤◌, ℕ, nat_lt, Bool, true, false, cond, [], ◌∷◌, refl, ap, arith}
use Rattle.std.proofs.lemmas.Bool.Decides.{nat_tests}
use Rattle.node_drive.specs.Drives.{lines_end}
use Rattle.node_drive.specs.Rounds.{NoLine}

few_is : (taken : ℕ) (v : Bool) → nat_lt taken 64 ≡ v → taken < 64 → v ≡ true
few_is taken true e few = refl
few_is taken false e few = absurd (let f : ⊥ = grind (arith, nat_tests, e, few) in f)

full_is : (taken : ℕ) (v : Bool) → nat_lt taken 64 ≡ v → 64 ≤ taken → v ≡ false
full_is taken false e few = refl
full_is taken true e few = absurd (let f : ⊥ = grind (arith, nat_tests, e, few) in f)

-- fewer than the most: after them there was none
pub ends_few : (taken : ℕ) → taken < 64 → lines_end taken ≡ (0, NoLine) ∷ []
ends_few taken few = ap (λ (v : Bool). cond v ((0, NoLine) ∷ []) []) (few_is taken (nat_lt taken 64) refl few)

-- the most
pub ends_full : (taken : ℕ) → 64 ≤ taken → lines_end taken ≡ []
ends_full taken many = ap (λ (v : Bool). cond v ((0, NoLine) ∷ []) []) (full_is taken (nat_lt taken 64) refl many)
