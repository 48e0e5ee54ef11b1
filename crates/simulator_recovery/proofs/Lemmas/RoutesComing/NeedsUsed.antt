-- A point that a route requires is of what the route would use.
use Rattle.simulator_recovery.proofs.Words.Basics.{ℕ, zero, suc, List, [], ◌∷◌, ◌++◌, map, refl, subst, arith, Contains, Contains-append_right}
use Rattle.simulator_recovery.proofs.Words.Interlockings.{Need, Row}
use Rattle.simulator_spec.specs.ixl_spec.Operations.{need_thing, route_thing, section_thing, signal_thing, things_used}

contains_here : {A : Type 0} (first : A) (others : List A) → Contains (first ∷ others) first
contains_here first others = (0, omega arith, refl)

contains_there : {A : Type 0} (first one : A) (others : List A) → Contains others one → Contains (first ∷ others) one
contains_there first one others (k, within, at) = (suc k, omega (arith, within), at)

contains_mapped : {A B : Type 0} (f : A → B) (list : List A) (one : A) → Contains list one → Contains (map f list) (f one)
contains_mapped f [] one (k, within, at) = absurd (omega (arith, within))
contains_mapped f (first ∷ others) one (zero, within, at) = subst (λ o. Contains (f first ∷ map f others) (f o)) at (contains_here (f first) (map f others))
contains_mapped f (first ∷ others) one (suc k, within, at) = contains_there (f first) (f one) (map f others) (contains_mapped f others one (k, omega (arith, within), at))

pub need_is_used : (number : ℕ) (row : Row) (need : Need) → Contains row.needs need → Contains (things_used number row) (need_thing need)
need_is_used number row need within =
    contains_there (route_thing number) (need_thing need) (signal_thing row.entry ∷ (map section_thing row.sections ++ map need_thing row.needs))
    (contains_there (signal_thing row.entry) (need_thing need) (map section_thing row.sections ++ map need_thing row.needs)
    (Contains-append_right (map section_thing row.sections) (map need_thing row.needs) (need_thing need) (contains_mapped need_thing row.needs need within)))
