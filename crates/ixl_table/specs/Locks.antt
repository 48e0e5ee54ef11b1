-- What the set routes lock, as the phases of the routes give it.
use Rattle.std.specs.Prelude.{◌≡◌, ◌↔◌, ℕ, ◌<◌, ◌≤◌, List, length, Some, slice_get, IsTrue}
use Rattle.ixl_spec.specs.bit_row.Places.{Has}
use Rattle.route_lock.specs.Locks.{LockState, locked_by}
use Rattle.ixl_spec.specs.Table.{Row, Table}
use Rattle.ixl_spec.specs.State.{RouteState}
use Rattle.ixl_spec.specs.View.{freed_sections, is_set}
use Rattle.ixl_spec.specs.Due.{HoldsSection}
use Rattle.ixl_table.specs.Table.{SitedTable, as_route}

-- A route of a table, and what is kept of it.
abbrev pub IsKeptRoute : Table → List RouteState → ℕ → Row → RouteState → Type 0
IsKeptRoute table routes number row route = (slice_get table.rows number ≡ Some row) × (slice_get routes number ≡ Some route)

-- A set route has a section that isn't freed.
abbrev pub HaveSectionsLeft : Table → List RouteState → Type 0
HaveSectionsLeft table routes =
    (number : ℕ) (row : Row) (route : RouteState) → IsKeptRoute table routes number row route → IsTrue (is_set route.phase) → freed_sections route.phase < length row.sections

-- Locks are what the phases give: each route of the table locks the sections that it holds, and there are no others.
pub record AreLocksOf (sited : SitedTable) (routes : List RouteState) (locks : LockState) : Type 0 where
  pub site : locks.table ≡ sited.site
  pub locked : (number : ℕ) (row : Row) (route : RouteState) → IsKeptRoute sited.table routes number row route
      → (section : ℕ) → Has (locked_by locks (as_route number)) section ↔ HoldsSection row route.phase section
  pub no_other : (number section : ℕ) → length sited.table.rows ≤ number → Has (locked_by locks (as_route number)) section → ⊥
