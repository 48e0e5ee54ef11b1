-- The pairs that a station holds are the routes that its machine holds, each with its signal.
use Rattle.std.proofs.Common.{◌≡◌, ◌∙◌, ◌⊎◌, Bool, true, false, ◌&&◌, ◌==◌, ℕ, zero, suc, ◌+◌, ◌<◌, ◌≤◌, List, [], ◌∷◌, length, Option, Some, None, refl, sym, ap, subst, inl, inr, ⊎_elim, arith}
use Rattle.std.specs.Prelude.{◌≢◌, slice_get, if◌then◌else◌}
use Rattle.std.specs.List.{All, Contains}
use Rattle.std.proofs.Math.Nat.{eq-or-lt_of_le}
use Rattle.std.proofs.lemmas.Bool.{cases_order, eqb-true, eq-eqb, false≢true}
use Rattle.std.proofs.lemmas.List.Elements.{All-contains}
use Rattle.simulator_link_laws.specs.rasta_core.Ends.{reading_of}
use Rattle.simulator_link_laws.specs.ixl_spec.State.{IxlState, RouteState}
use Rattle.simulator_link_laws.specs.ixl_spec.Table.{Row, Table}
use Rattle.simulator_link_laws.specs.ixl_spec.View.{authority_from, has_authority, is_holding}
use Rattle.simulator_link_laws.specs.ixl_spec.declared.phase.Phase.{Phase}
use Rattle.simulator_link_laws.specs.ixl_spec.declared.phase.Phase.TheVariants as phase
use Rattle.simulator_machine.specs.Invariant.{Invariant}
use Rattle.simulator_machine.specs.Machine.{Machine, is_held}
use Rattle.simulator_machine.specs.Route as machine
use Rattle.simulator_machine.specs.Table.{IsSound}
use Rattle.simulator_link_laws.specs.simulator_move_laws.Nodes.{phase_seen, route_seen}
use Rattle.simulator_link_laws.specs.simulator_move_laws.Rows.{machine_table, row_at}
use Rattle.simulator_link_laws.specs.simulator_spec.State.{ClockedInterlockingState}
use Rattle.simulator_link_laws.specs.simulator_spec.Interlocking.{authorities, held_of, pair_then}
use Rattle.simulator_link_laws.specs.simulator_event.declared.snapshot.Held.{Held}
use Rattle.simulator_safety.specs.Seen.{AreHeldPairs, pair_of}
use Rattle.simulator_safety.proofs.WorldLists.{contains_cases, contains_here, contains_none, contains_there, get_below, get_contains, get_inside, none_some, some_injective}
use Rattle.simulator_safety.proofs.Rows.{row_is, true_both}

-- ---- the route that has authority from a signal

-- the route at this place of both lists begins at the signal and has authority
abbrev pub HasFrom : ℕ → List Row → List RouteState → ℕ → Type 0
HasFrom signal rows routes place =
    (row : Row) × (route : RouteState) × (slice_get rows place ≡ Some row) × (slice_get routes place ≡ Some route) × (row.entry ≡ signal) × (has_authority route.phase ≡ true)

both_true : (a b : Bool) → a && b ≡ true → (a ≡ true) × (b ≡ true)
both_true true b is = (refl, is)
both_true false b is = absurd (false≢true is)

-- what is found has it
pub found_has : (signal number : ℕ) (rows : List Row) (routes : List RouteState) (found : ℕ) → authority_from signal number rows routes ≡ Some found → (place : ℕ) × (found ≡ number + place) × HasFrom signal rows routes place
found_has signal number [] routes found is = absurd (none_some found is)
found_has signal number (row ∷ rows) [] found is = absurd (none_some found is)
found_has signal number (row ∷ rows) (route ∷ routes) found is = cases (row.entry == signal && has_authority route.phase) refl is (found_has signal (suc number) rows routes found) where
  cases : (test : Bool) → row.entry == signal && has_authority route.phase ≡ test → (if test then Some number else authority_from signal (suc number) rows routes) ≡ Some found →
      (authority_from signal (suc number) rows routes ≡ Some found → (place : ℕ) × (found ≡ suc number + place) × HasFrom signal rows routes place) →
      (place : ℕ) × (found ≡ number + place) × HasFrom signal (row ∷ rows) (route ∷ routes) place
  cases true e there on =
      let both = both_true (row.entry == signal) (has_authority route.phase) e in
      let same : number ≡ found = some_injective number found there in (0, omega (arith, same), (row, route, refl, refl, eqb-true row.entry signal both.0, both.1))
  cases false e there on =
      let later = on there in
      let same = later.1 in (suc later.0, omega (arith, same), later.2)

-- where some route has it, one is found
one_found : (signal number : ℕ) (rows : List Row) (routes : List RouteState) (place : ℕ) → HasFrom signal rows routes place → (found : ℕ) × (authority_from signal number rows routes ≡ Some found)
one_found signal number [] routes place (row, route, row_is, route_is, begins, has) = absurd (none_some row row_is)
one_found signal number (first ∷ rows) [] place (row, route, row_is, route_is, begins, has) = absurd (none_some route route_is)
one_found signal number (first ∷ rows) (kept ∷ routes) zero (row, route, row_is, route_is, begins, has) =
    let entry : first.entry ≡ signal = ap (λ (r : Row). r.entry) (some_injective first row row_is) ∙ begins in
    let authority : has_authority kept.phase ≡ true = ap (λ (r : RouteState). has_authority r.phase) (some_injective kept route route_is) ∙ has in
    let test = true_both (first.entry == signal) (has_authority kept.phase) (eq-eqb first.entry signal entry) authority
    in (number, ap (λ b. if b then Some number else authority_from signal (suc number) rows routes) test)
one_found signal number (first ∷ rows) (kept ∷ routes) (suc place) (row, route, row_is, route_is, begins, has) =
    cases (first.entry == signal && has_authority kept.phase) (one_found signal (suc number) rows routes place (row, route, row_is, route_is, begins, has)) where
      cases : (test : Bool) → (found : ℕ) × (authority_from signal (suc number) rows routes ≡ Some found) → (found : ℕ) × ((if test then Some number else authority_from signal (suc number) rows routes) ≡ Some found)
      cases true later = (number, refl)
      cases false later = later

-- ---- the pairs of all signals

module _ (table : Table) (ixl : IxlState) where
  abbrev pub from : ℕ → Option ℕ
  from signal = authority_from signal 0 table.rows ixl.routes

  pub pairs_have : (more place signal route : ℕ) → Contains (authorities table ixl place more) (pair_of signal route) → (place ≤ signal) × (from signal ≡ Some route)
  pairs_have zero place signal route c = absurd (contains_none (pair_of signal route) c)
  pairs_have (suc more) place signal route c = cases (from place) refl c (pairs_have more (suc place) signal route) where
    cases : (found : Option ℕ) → from place ≡ found → Contains (pair_then place found (authorities table ixl (suc place) more)) (pair_of signal route) →
        (Contains (authorities table ixl (suc place) more) (pair_of signal route) → (suc place ≤ signal) × (from signal ≡ Some route)) → (place ≤ signal) × (from signal ≡ Some route)
    cases None e there on =
        let later = on there in
        let less = later.0 in (omega (arith, less), later.1)
    cases (Some found) e there on =
        ⊎_elim (λ same.
        let place_is : place ≡ signal = ap (λ (p : Held). p.signal.0) same in
        let route_is : found ≡ route = ap (λ (p : Held). p.route.0) same in (omega (arith, place_is), ap from (sym place_is) ∙ e ∙ ap Some route_is)) (λ later.
        let h = on later in
        let less = h.0 in (omega (arith, less), h.1)) (contains_cases (pair_of place found) (pair_of signal route) (authorities table ixl (suc place) more) there)

  have_pairs : (more place signal route : ℕ) → place ≤ signal → signal < place + more → from signal ≡ Some route → Contains (authorities table ixl place more) (pair_of signal route)
  have_pairs zero place signal route low high is = absurd (omega (arith, low, high))
  have_pairs (suc more) place signal route low high is = cases (from place) refl (eq-or-lt_of_le low) (λ less. have_pairs more (suc place) signal route less (omega (arith, high)) is) where
    cases : (found : Option ℕ) → from place ≡ found → (place ≡ signal) ⊎ (place < signal) → (suc place ≤ signal → Contains (authorities table ixl (suc place) more) (pair_of signal route)) →
        Contains (pair_then place found (authorities table ixl (suc place) more)) (pair_of signal route)
    cases None e (inl same) on = absurd (none_some route (sym e ∙ ap from same ∙ is))
    cases None e (inr less) on = on less
    cases (Some found) e (inl same) on =
        let route_is : found ≡ route = some_injective found route (sym e ∙ ap from same ∙ is) in
        subst (λ (p : Held). Contains (pair_of place found ∷ authorities table ixl (suc place) more) p) (ap (λ s. pair_of s found) same ∙ ap (pair_of signal) route_is) (contains_here (pair_of place found) (authorities table ixl (suc place) more))
    cases (Some found) e (inr less) on = contains_there (pair_of place found) (pair_of signal route) (authorities table ixl (suc place) more) (on less)

-- ---- what the machine holds

-- a phase that is seen with authority has it
phase_authority : (p : Phase) → machine.has_authority (phase_seen p) ≡ has_authority p
phase_authority phase.Free = refl
phase_authority phase.Waiting = refl
phase_authority phase.Proceeding = refl
phase_authority phase.Withdrawn = refl
phase_authority (phase.Ended clock freed) = refl

authority_whole : (p : machine.Phase) → machine.has_authority p ≡ true → machine.is_whole p ≡ true
authority_whole machine.Free is = absurd (false≢true is)
authority_whole machine.Waiting is = absurd (false≢true is)
authority_whole machine.Authorised is = refl
authority_whole (machine.Ended whole) is = absurd (false≢true is)

module _ (table : Table) (station : ClockedInterlockingState) (frozen : List Held) (kept : Machine) (sound : IsSound (machine_table table)) (is : Invariant (machine_table table) kept)
    (holding : kept.holding ≡ is_holding (reading_of station.clock) station.ixl) (seen : (route : ℕ) → kept.routes route ≡ route_seen (slice_get station.ixl.routes route))
    (counted : length station.ixl.routes ≡ length table.rows) (entries : All (λ (row : Row). row.entry < length station.ixl.known_signals) table.rows) (frozen_are : AreHeldPairs (machine_table table) frozen kept.frozen) where
  abbrev routes : List RouteState
  routes = station.ixl.routes

  -- a route of the machine with authority is one of the table
  kept_there : (route : ℕ) → machine.has_authority (kept.routes route) ≡ true → (signal : ℕ) → (row_at table route).entry ≡ signal → HasFrom signal table.rows routes route
  kept_there route has signal begins = cases (slice_get routes route) refl where
    cases : (found : Option RouteState) → slice_get routes route ≡ found → HasFrom signal table.rows routes route
    cases None e = absurd (false≢true (sym (ap machine.has_authority (seen route ∙ ap route_seen e)) ∙ has))
    cases (Some found) e =
        let inside = get_inside routes route found e in
        let row = get_below table.rows route (omega (arith, inside, counted)) in
        let phase_has : has_authority found.phase ≡ true = sym (phase_authority found.phase) ∙ sym (ap machine.has_authority (seen route ∙ ap route_seen e)) ∙ has
        in (row.0, found, row.1, e, ap (λ (r : Row). r.entry) (sym (row_is table route row.0 row.1)) ∙ begins, phase_has)

  there_kept : (signal route : ℕ) → HasFrom signal table.rows routes route → ((row_at table route).entry ≡ signal) × (machine.has_authority (kept.routes route) ≡ true)
  there_kept signal route (row, found, row_there, route_there, begins, has) =
      (ap (λ (r : Row). r.entry) (row_is table route row row_there) ∙ begins, ap machine.has_authority (seen route ∙ ap route_seen route_there) ∙ phase_authority found.phase ∙ has)

  -- no two of them begin at one signal
  only_one : (signal a b : ℕ) → HasFrom signal table.rows routes a → HasFrom signal table.rows routes b → a ≡ b
  unfolding machine_table
  only_one signal a b a_has b_has = ⊎_elim (λ same. same) (λ order. ⊎_elim (λ less. absurd (clash (λ e. absurd (omega (arith, less, e))))) (λ more. absurd (clash (λ e. absurd (omega (arith, more, e))))) order) (cases_order a b) where
    clash : a ≢ b → ⊥
    clash differ =
        let first = there_kept signal a a_has in
        let second = there_kept signal b b_has in
        is.set_apart a b differ (authority_whole (kept.routes a) first.1) (authority_whole (kept.routes b) second.1) (sound.one_entry a b differ (first.0 ∙ sym second.0))

  found_is : (signal route : ℕ) → HasFrom signal table.rows routes route → from table station.ixl signal ≡ Some route
  found_is signal route has =
      let found = one_found signal 0 table.rows routes route has in
      let its = found_has signal 0 table.rows routes found.0 found.1 in
      let place : its.0 ≡ route = only_one signal its.0 route its.2 has in
      let at = its.1 in
      let same : found.0 ≡ route = omega (arith, at, place) in found.1 ∙ ap Some same

  outside : AreHeldPairs (machine_table table) (authorities table station.ixl 0 (length station.ixl.known_signals)) (λ route. machine.has_authority (kept.routes route))
  unfolding machine_table
  outside signal route = (down, up) where
    down : Contains (authorities table station.ixl 0 (length station.ixl.known_signals)) (pair_of signal route) → ((row_at table route).entry ≡ signal) × (machine.has_authority (kept.routes route) ≡ true)
    down c =
        let found = pairs_have table station.ixl (length station.ixl.known_signals) 0 signal route c in
        let its = found_has signal 0 table.rows routes route found.1 in
        let at = its.1 in
        let place : its.0 ≡ route = omega (arith, at) in there_kept signal route (subst (HasFrom signal table.rows routes) place its.2)

    up : ((row_at table route).entry ≡ signal) × (machine.has_authority (kept.routes route) ≡ true) → Contains (authorities table station.ixl 0 (length station.ixl.known_signals)) (pair_of signal route)
    up (begins, has) =
        let there = kept_there route has signal begins in
        let less = All-contains (λ (row : Row). row.entry < length station.ixl.known_signals) table.rows there.0 entries (get_contains table.rows route there.0 there.2) in
        let at = there.4 in have_pairs table station.ixl (length station.ixl.known_signals) 0 signal route (omega arith) (omega (arith, less, at)) (found_is signal route there)

  by_hold : (test : Bool) → kept.holding ≡ test →
      AreHeldPairs (machine_table table) (if test then frozen else authorities table station.ixl 0 (length station.ixl.known_signals)) (λ route. if test then kept.frozen route else machine.has_authority (kept.routes route))
  by_hold true e = frozen_are
  by_hold false e = outside

  pub held_pairs : AreHeldPairs (machine_table table) (held_of table station frozen) (is_held kept)
  unfolding held_of
  held_pairs =
      subst (λ (b : Bool). AreHeldPairs (machine_table table) (if b then frozen else authorities table station.ixl 0 (length station.ixl.known_signals)) (is_held kept)) holding (by_hold kept.holding refl)
