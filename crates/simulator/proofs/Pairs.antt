-- The pairs of signal and route that have authority, signal after signal.
use Rattle.std.proofs.Common.{◌≡◌, refl, sym, ap, ◌∙◌, ℕ, suc, ◌+◌, ◌-◌, ◌<◌, List, [], ◌∷◌, ◌++◌, Option, Some, None, arith}
use Rattle.std.proofs.lemmas.List.{append_assoc}
use Rattle.ixl_state.specs.ixl_spec.State.{IxlState}
use Rattle.ixl_state.specs.ixl_spec.Table.{Table}
use Rattle.ixl_state.specs.ixl_spec.View.{authority_from}
use Rattle.simulator_spec.specs.Interlocking.{authorities, pair_then}
use Rattle.simulator_spec.specs.simulator_event.declared.snapshot.Held.{Held}

pair_first : (signal : ℕ) (route : Option ℕ) (others : List Held) → pair_then signal route others ≡ pair_then signal route [] ++ others
pair_first signal None others = refl
pair_first signal (Some route) others = refl

one_more : (table : Table) (ixl : IxlState) (place left : ℕ) → left ≡ suc (left - 1)
    → authorities table ixl place left ≡ pair_then place (authority_from place 0 table.rows ixl.routes) (authorities table ixl (suc place) (left - 1))
one_more table ixl place left there = ap (authorities table ixl place) there

-- the signal at a place, and those after it
pub next_signal : (table : Table) (ixl : IxlState) (place all : ℕ) (route : Option ℕ) (held new wanted : List Held) → place < all → route ≡ authority_from place 0 table.rows ixl.routes
    → new ≡ held ++ pair_then place route [] → held ++ authorities table ixl place (all - place) ≡ wanted
    → new ++ authorities table ixl (place + 1) (all - (place + 1)) ≡ wanted
next_signal table ixl place all route held new wanted below route_is new_is so_far =
    let left = all - (place + 1)
    in let here : all - place ≡ suc left = omega arith
    in ap (λ n. n ++ authorities table ixl (place + 1) left) new_is
    ∙ append_assoc held (pair_then place route []) (authorities table ixl (place + 1) left)
    ∙ ap (λ rest. held ++ rest) (sym (pair_first place route (authorities table ixl (place + 1) left))
    ∙ ap (λ r. pair_then place r (authorities table ixl (place + 1) left)) route_is
    ∙ ap (λ p. pair_then place (authority_from place 0 table.rows ixl.routes) (authorities table ixl p left)) next_place
    ∙ ap (authorities table ixl place) (sym here))
    ∙ so_far
  where
    next_place : place + 1 ≡ suc place
    next_place = omega arith
