-- What leaves is free, and fresh.
use Rattle.std.proofs.Common.{◌≡◌, ◌≤◌, ◌<◌, ◌+◌, ℕ, ◌&&◌, not, Bool, true, false, cond, List, [], ◌∷◌, ◌++◌, arith, refl}
use Rattle.std.specs.List.{AllByRecursion}
use Rattle.std.proofs.lemmas.Bool.Decides.{nat_tests}
use Rattle.node_drive.specs.Waiting.{Waiting, is_fresh, is_free, leaving}

abbrev Leaves : ℕ → ℕ → Waiting → Type 0
Leaves now in_force one = (one.behind ≤ in_force) × (now < one.since + 500)

by_tests : (now in_force : ℕ) (one : Waiting) (others : List Waiting) (fresh free : Bool) → is_fresh now one ≡ fresh → is_free in_force one ≡ free → AllByRecursion (Leaves now in_force) (leaving now in_force others)
    → AllByRecursion (Leaves now in_force) (cond (fresh && not free) [] (cond fresh (one ∷ []) [] ++ leaving now in_force others))
by_tests now in_force one others true true e f rest = ((grind (arith, nat_tests, f), grind (arith, nat_tests, e)), rest)
by_tests now in_force one others true false e f rest = tt
by_tests now in_force one others false free e f rest = rest

pub all_free : (now in_force : ℕ) (waiting : List Waiting) → AllByRecursion (λ (one : Waiting). (one.behind ≤ in_force) × (now < one.since + 500)) (leaving now in_force waiting)
all_free now in_force [] = tt
all_free now in_force (one ∷ waiting) = by_tests now in_force one waiting (is_fresh now one) (is_free in_force one) refl refl (all_free now in_force waiting)
