-- What the parts of a table are made to be.
use Rattle.std.specs.Prelude.{◌≡◌, ◌⊎◌, ℕ, suc, ◌<◌, List, length, Some, slice_get}
use Rattle.std.specs.List.{All, Contains}
use Rattle.ixl_spec.specs.sci_telegram.declared.message.Side.{Side}
use Rattle.ixl_spec.specs.sci_telegram.declared.message.Side.TheVariants as side
use Rattle.ixl_spec.specs.layout.declared.ids.PointId.{PointId}
use Rattle.ixl_spec.specs.layout.declared.ids.RouteId.{RouteId}
use Rattle.ixl_spec.specs.layout.Entries.{DetectorEntry, Site}
use Rattle.ixl_spec.specs.layout.Once.{Once}
use Rattle.ixl_spec.specs.layout.Station.{IsStation}
use Rattle.ixl_spec.specs.bit_row.Places.{Places}
use Rattle.ixl_spec.specs.control_table.AwaitedSections.{Awaits}
use Rattle.ixl_spec.specs.control_table.Table.{Sound}
use Rattle.ixl_spec.specs.Table.{Need, Row, Table}
use Rattle.ixl_table.specs.Table.{AreNeededAt, IsReportedIn, IsRowOf, IsSetOf, IsTableOf, as_route, as_section, required}

-- so many of a list there are up to the last one of which a fact holds
pub record IsPastLast (list : List ℕ) (holds : ℕ → Type 0) (past : ℕ) : Type 0 where
  pub none_later : (place number : ℕ) → slice_get list place ≡ Some number → holds number → place < past
  pub last : (past ≡ 0) ⊎ ((place : ℕ) × (number : ℕ) × (past ≡ suc place) × (slice_get list place ≡ Some number) × holds number)

-- the sections of the path that a point awaits, on a route with these sections
abbrev pub IsPastAwaited : Site → RouteId → List ℕ → PointId → ℕ → Type 0
IsPastAwaited l a sections p until = IsPastLast sections (λ section. Awaits l a p (as_section section)) until

-- these needs are the points that are asked for
pub record AreNeedsOf (l : Site) (a : RouteId) (sections : List ℕ) (asked : List (PointId × Side)) (needs : List Need) : Type 0 where
  pub points : required needs ≡ asked
  pub until : All (λ need. IsPastAwaited l a sections (record { 0 = need.point }) need.until) needs

-- the rows of bits of a route are what its lists give
pub record AreItsRows (row : Row) (sections approach right left : Places) : Type 0 where
  pub of_sections : IsSetOf row.sections sections
  pub of_approach : IsSetOf row.approach approach
  pub at_right : AreNeededAt row.needs side.Right right
  pub at_left : AreNeededAt row.needs side.Left left

-- no detector of a list reports a section
abbrev pub NoneReports : List DetectorEntry → ℕ → Type 0
NoneReports detectors section = (place : ℕ) (detector : DetectorEntry) → slice_get detectors place ≡ Some detector → Contains detector.sections (as_section section) → ⊥

-- so many rows, and so many reporters, from the first on
pub record AreRowsUpTo (l : Site) (count : ℕ) (rows : List Row) : Type 0 where
  pub so_many : length rows ≡ count
  pub their : (number : ℕ) (row : Row) → slice_get rows number ≡ Some row → IsRowOf l (as_route number) row

pub record AreReportersUpTo (l : Site) (count : ℕ) (reporters : List (ℕ × ℕ)) : Type 0 where
  pub so_many : length reporters ≡ count
  pub their : (section : ℕ) (reporter : ℕ × ℕ) → slice_get reporters section ≡ Some reporter → IsReportedIn l.detectors section reporter

-- what holds of every table
pub record IsKept (l : Site) (table : Table) : Type 0 where
  pub once : Once l
  pub station : IsStation l
  pub sound : Sound l
  pub is_table : IsTableOf l table
