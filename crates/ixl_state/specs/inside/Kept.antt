-- What holds of every state of an interlocking.
use Rattle.std.specs.Prelude.{◌≡◌, ℕ, ◌<◌, List, length, Some, slice_get, IsTrue}
use Rattle.ixl_spec.specs.bit_row.Places.{Has}
use Rattle.release.specs.Passage.{PassageState}
use Rattle.ixl_spec.specs.sci_telegram.declared.message.Side.{Side}
use Rattle.route_lock.specs.Locks.{Holds, LockState}
use Rattle.ixl_spec.specs.First.{key_of}
use Rattle.ixl_spec.specs.State.{RouteState}
use Rattle.ixl_spec.specs.Table.{Row}
use Rattle.ixl_spec.specs.View.{freed_sections, is_set, was_authorised}
use Rattle.ixl_spec.specs.declared.phase.Phase.{Phase}
use Rattle.ixl_table.specs.Locks.{AreLocksOf, HaveSectionsLeft, IsKeptRoute}
use Rattle.ixl_table.specs.Table.{SitedTable, as_point, as_route}
use Rattle.ixl_known.specs.Field.{AllUnder, FieldState}

-- a passage leads over the sections of a row, and nothing was seen beyond them
pub record IsPassageOf (row : Row) (passage : PassageState) : Type 0 where
  pub sections : passage.sections ≡ length row.sections
  pub within : (place : ℕ) → Has passage.seen place → place < length row.sections

-- a route holds the same in two phases
pub record HoldsAlike (old new : Phase) : Type 0 where
  pub set : is_set new ≡ is_set old
  pub freed : freed_sections new ≡ freed_sections old

-- a controller for each signal, point and detector of a site, the sections are reported as its table says, and every link
-- is under the key of its network
pub record IsFieldOf (sited : SitedTable) (field : FieldState) : Type 0 where
  pub reporters : field.reporters ≡ sited.table.reporters
  pub known_signals : length field.known_signals ≡ length sited.site.signals
  pub known_points : length field.known_points ≡ length sited.site.points
  pub detectors : length field.detectors ≡ length sited.site.detectors
  pub keys : AllUnder (key_of sited.site) field

-- a route is kept for each row
pub record AreRoutesOf (sited : SitedTable) (routes : List RouteState) : Type 0 where
  pub each : length routes ≡ length sited.table.rows
  pub left : HaveSectionsLeft sited.table routes
  pub passages : (number : ℕ) (row : Row) (route : RouteState) → IsKeptRoute sited.table routes number row route → IsPassageOf row route.passage

pub record IsState (sited : SitedTable) (field : FieldState) (routes : List RouteState) (locks : LockState) : Type 0 where
  pub field_is : IsFieldOf sited field
  pub routes_are : AreRoutesOf sited routes
  pub locks_are : AreLocksOf sited routes locks

-- a route was given authority in its present setting, and holds a point
abbrev pub HoldsWithAuthority : LockState → ℕ → RouteState → ℕ → Type 0
HoldsWithAuthority locks number route point = IsTrue (was_authorised route.phase) × ((side : Side) × Holds locks (as_route number) (as_point point) side)

abbrev pub SomeHoldsWithAuthority : LockState → List RouteState → ℕ → Type 0
SomeHoldsWithAuthority locks routes point = (number : ℕ) × (route : RouteState) × (slice_get routes number ≡ Some route) × HoldsWithAuthority locks number route point
