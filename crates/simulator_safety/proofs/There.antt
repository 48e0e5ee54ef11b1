-- What rows and pairs name is there.
use Rattle.std.proofs.Common.{◌≡◌, Bool, true, false, ℕ, ◌+◌, ◌<◌, List, length, Some, sym, subst, arith}
use Rattle.std.specs.Prelude.{get_or, slice_get, if◌then◌else◌}
use Rattle.std.specs.List.{All, Contains}
use Rattle.std.proofs.lemmas.List.Elements.{All-contains}
use Rattle.std.proofs.lemmas.Option.{slice_get-get_or}
use Rattle.simulator_link_laws.specs.layout.Entries.{Site}
use Rattle.simulator_link_laws.specs.layout.Station.{IsRouteOf, IsStation}
use Rattle.simulator_link_laws.specs.rasta_core.Ends.{reading_of}
use Rattle.simulator_link_laws.specs.ixl_spec.State.{IxlState}
use Rattle.simulator_link_laws.specs.ixl_spec.Table.{Row, Table}
use Rattle.simulator_link_laws.specs.ixl_spec.View.{is_holding}
use Rattle.ixl_table.specs.Table.{IsRowOf, IsTableOf}
use Rattle.simulator_link_laws.specs.simulator_spec.State.{ClockedInterlockingState}
use Rattle.simulator_link_laws.specs.simulator_spec.Interlocking.{authorities, held_of}
use Rattle.simulator_link_laws.specs.simulator_event.Safe.{IsThere}
use Rattle.simulator_link_laws.specs.simulator_event.declared.snapshot.Held.{Held}
use Rattle.simulator_safety.proofs.Held.{HasFrom, found_has, pairs_have}
use Rattle.simulator_safety.proofs.WorldLists.{get_contains, get_inside}

pub all_of : {A : Type 0} (P : A → Type 0) (list : List A) → ((place : ℕ) (one : A) → slice_get list place ≡ Some one → P one) → All P list
all_of P list each = λ place other within. each place (get_or list place other) (slice_get-get_or list place other within)

module _ (site : Site) (table : Table) (station : IsStation site) (is : IsTableOf site table) where
  -- each row begins at a signal of the layout
  row_entry : (number : ℕ) (row : Row) → slice_get table.rows number ≡ Some row → row.entry < length site.signals
  row_entry number row at =
      let of : IsRowOf site (record { 0 = number }) row = is.rows.their number row at in
      let route : IsRouteOf site of.written = All-contains (IsRouteOf site) site.routes of.written station.routes (get_contains site.routes number of.written of.is_route)
      in subst (λ n. n < length site.signals) (sym of.entry) route.entry

  pub entries_there : (count : ℕ) → count ≡ length site.signals → All (λ (row : Row). row.entry < count) table.rows
  entries_there count same = all_of (λ (row : Row). row.entry < count) table.rows (λ number row at. subst (λ n. row.entry < n) (sym same) (row_entry number row at))

  -- a pair with authority is one of the layout
  authority_there : (ixl : IxlState) (pair : Held) → Contains (authorities table ixl 0 (length ixl.known_signals)) pair → IsThere site pair
  authority_there ixl pair contained =
      let found = pairs_have table ixl (length ixl.known_signals) 0 pair.signal.0 pair.route.0 contained in
      let its : (place : ℕ) × (pair.route.0 ≡ 0 + place) × HasFrom pair.signal.0 table.rows ixl.routes place = found_has pair.signal.0 0 table.rows ixl.routes pair.route.0 found.1
      in from its
    where
      from : (place : ℕ) × (pair.route.0 ≡ 0 + place) × HasFrom pair.signal.0 table.rows ixl.routes place → IsThere site pair
      from (place, same, (row, route, row_at, route_at, begins, has)) =
          let inside : place < length table.rows = get_inside table.rows place row row_at in
          let many : length table.rows ≡ length site.routes = is.rows.each in record {
            signal = subst (λ n. n < length site.signals) begins (row_entry place row row_at);
            route = omega (arith, inside, many, same);
          }

  pub held_there : (kept : ClockedInterlockingState) (frozen : List Held) → ((pair : Held) → Contains frozen pair → IsThere site pair) → (pair : Held) → Contains (held_of table kept frozen) pair → IsThere site pair
  unfolding held_of
  held_there kept frozen there pair contained = cases (is_holding (reading_of kept.clock) kept.ixl) contained where
    cases : (holds : Bool) → Contains (if holds then frozen else authorities table kept.ixl 0 (length kept.ixl.known_signals)) pair → IsThere site pair
    cases true contained = there pair contained
    cases false contained = authority_there kept.ixl pair contained
