-- What stands against a route.
use Rattle.std.proofs.Common.{◌≡◌, ◌∙◌, ◌↔◌, ◌<◌, ℕ, zero, suc, Bool, true, false, List, [], ◌∷◌, length, get_or, refl, sym, ap, arith, Some, slice_get}
use Rattle.std.specs.Bool.{MatchBool}
use Rattle.std.specs.Prelude.{◌==◌, IsTrue}
use Rattle.std.proofs.lemmas.Bool.{eq-eqb, eqb-true, false≢true, true≢false}
use Rattle.std.specs.List.{AllWithin, Contains, HoldsAt}
use Rattle.std.proofs.lemmas.List.Elements.{All-contains, All-from_all_within, Contains-get_or}
use Rattle.node_lines.specs.layout.Entries.{RouteEntry, Site}
use Rattle.node_lines.specs.control_table.Topology.{IsRoute}
use Rattle.node_lines.specs.layout.declared.ids.RouteId.{RouteId}
use Rattle.node_lines.specs.layout.declared.ids.SignalId.{SignalId}

-- ---- tests

pub never_so : (holds : Type 0) → (holds → ⊥) → IsTrue false ↔ holds
never_so holds never = (λ h. absurd (false≢true h), λ h. absurd (never h))

-- what a look at all of a list finds
pub found : {X : Type 0} (holds : X → Type 0) (xs : List X) (answer : Bool) → MatchBool answer ((k : ℕ) × (k < length xs) × HoldsAt holds xs k) (AllWithin (λ x. holds x → ⊥) xs 0 (length xs))
    → IsTrue answer ↔ ((x : X) × Contains xs x × holds x)
found {X} holds xs true is = (λ h. one xs is.0 is.1 is.2, λ h. refl)
  where
    one : (all : List X) (k : ℕ) → k < length all → HoldsAt holds all k → (x : X) × Contains all x × holds x
    one [] k below at = absurd (omega (arith, below))
    one (x ∷ more) k below at = (get_or (x ∷ more) k x, Contains-get_or (x ∷ more) k x below, at x)
found {X} holds xs false is = never_so ((x : X) × Contains xs x × holds x) (λ h. All-contains (λ x. holds x → ⊥) xs h.0 (All-from_all_within (λ x. holds x → ⊥) xs is) h.1 h.2)

-- and where all are looked at
pub all_are : {X : Type 0} (holds : X → Type 0) (xs : List X) (answer : Bool) → MatchBool answer (AllWithin holds xs 0 (length xs)) ((k : ℕ) × (k < length xs) × HoldsAt (λ x. holds x → ⊥) xs k)
    → IsTrue answer ↔ ((x : X) → Contains xs x → holds x)
all_are {X} holds xs true is = (λ h x has. All-contains holds xs x (All-from_all_within holds xs is) has, λ h. refl)
all_are {X} holds xs false is = never_so ((x : X) → Contains xs x → holds x) (λ so. one xs is.0 is.1 is.2 so)
  where
    one : (all : List X) (k : ℕ) → k < length all → HoldsAt (λ x. holds x → ⊥) all k → ((x : X) → Contains all x → holds x) → ⊥
    one [] k below at so = absurd (omega (arith, below))
    one (x ∷ more) k below at so = at x (so (get_or (x ∷ more) k x) (Contains-get_or (x ∷ more) k x below))

route_there : (routes : List RouteEntry) (place : ℕ) → place < length routes → (r : RouteEntry) × (slice_get routes place ≡ Some r)
route_there [] place below = absurd (omega (arith, below))
route_there (first ∷ others) zero below = (first, refl)
route_there (first ∷ others) (suc place) below = route_there others place (omega (arith, below))

-- ---- the signal at which a route begins

pub enters : (site : Site) (route : RouteId) (entry signal : SignalId) (test : Bool) → route.0 < length site.routes → ((r : RouteEntry) → IsRoute site route r → entry ≡ r.entry) → test ≡ (entry.0 == signal.0)
    → IsTrue test ↔ ((r : RouteEntry) × IsRoute site route r × (r.entry ≡ signal))
enters site route entry signal true below of is =
    let one = route_there site.routes route.0 below in
    let made : ℕ → SignalId = λ n. record { 0 = n } in
    let same : entry ≡ signal = ap made (eqb-true entry.0 signal.0 (sym is)) in
    (λ h. (one.0, one.1, sym (of one.0 one.1) ∙ same), λ h. refl)
enters site route entry signal false below of is =
    never_so ((r : RouteEntry) × IsRoute site route r × (r.entry ≡ signal))
    (λ h. true≢false (sym (eq-eqb entry.0 signal.0 (ap (λ (s : SignalId). s.0) (of h.0 h.1 ∙ h.2))) ∙ sym is))
