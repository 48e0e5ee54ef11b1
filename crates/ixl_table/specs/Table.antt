-- That what the rules read is the control table of a site.
use Rattle.std.specs.Prelude.{◌≡◌, ◌↔◌, ℕ, suc, ◌<◌, ◌≤◌, List, length, map, Some, slice_get}
use Rattle.std.specs.List.{All, Contains}
use Rattle.ixl_spec.specs.sci_telegram.declared.message.Side.{Side}
use Rattle.ixl_spec.specs.layout.declared.ids.SectionId.{SectionId}
use Rattle.ixl_spec.specs.layout.declared.ids.PointId.{PointId}
use Rattle.ixl_spec.specs.layout.declared.ids.RouteId.{RouteId}
use Rattle.ixl_spec.specs.layout.Entries.{DetectorEntry, Site, RouteEntry}
use Rattle.ixl_spec.specs.bit_row.Places.{Has, Places}
use Rattle.ixl_spec.specs.control_table.Topology.{IsRoute}
use Rattle.ixl_spec.specs.control_table.AwaitedSections.{Awaits}
use Rattle.ixl_spec.specs.control_table.Table.{AreRequired, AreSections, HasAspect}
use Rattle.ixl_spec.specs.Table.{Need, Row, Table}
pub use Rattle.ixl_spec.specs.Table.{SitedTable}

-- ---- numbers and what they name

abbrev pub as_section : ℕ → SectionId
as_section n = record { 0 = n }

abbrev pub as_point : ℕ → PointId
as_point n = record { 0 = n }

abbrev pub as_route : ℕ → RouteId
as_route n = record { 0 = n }

-- the points that are needed, each with its side
abbrev pub required : List Need → List (PointId × Side)
required needs = map (λ need. (as_point need.point, need.side)) needs

-- ---- one route

-- A route holds a point until the last section of its path that the point awaits is freed, and all before it.
pub record IsHeldUntil (l : Site) (a : RouteId) (sections : List ℕ) (need : Need) : Type 0 where
  pub place : ℕ
  pub section : ℕ
  pub stands : slice_get sections place ≡ Some section
  pub awaited : Awaits l a (as_point need.point) (as_section section)
  pub last : (later other : ℕ) → slice_get sections later ≡ Some other → Awaits l a (as_point need.point) (as_section other) → later ≤ place
  pub until : need.until ≡ suc place

-- A row is that of a route: it has the entry signal, the approach and the extra conflicts that the layout writes, the
-- aspect at which the route is passed, its sections in path order, and the points that it requires in layout order.
pub record IsRowOf (l : Site) (a : RouteId) (row : Row) : Type 0 where
  pub written : RouteEntry
  pub is_route : IsRoute l a written
  pub entry : row.entry ≡ written.entry.0
  pub aspect : HasAspect l a row.aspect
  pub sections : AreSections l a (map as_section row.sections)
  pub needs : AreRequired l a (required row.needs)
  pub until : All (IsHeldUntil l a row.sections) row.needs
  pub approach : map as_section row.approach ≡ written.approach
  pub extra : map as_route row.extra ≡ written.extra

-- ---- the table

-- A section is the one at this place in the list of this detector.
abbrev pub IsReportedIn : List DetectorEntry → ℕ → ℕ × ℕ → Type 0
IsReportedIn detectors section reporter = (detector : DetectorEntry) × (slice_get detectors reporter.0 ≡ Some detector) × (slice_get detector.sections reporter.1 ≡ Some (as_section section))

-- A row for each route, in their order.
pub record AreRows (l : Site) (rows : List Row) : Type 0 where
  pub each : length rows ≡ length l.routes
  pub their : (number : ℕ) (row : Row) → slice_get rows number ≡ Some row → IsRowOf l (as_route number) row

-- Each section with the place at which it is reported.
pub record AreReporters (l : Site) (reporters : List (ℕ × ℕ)) : Type 0 where
  pub each : length reporters ≡ length l.sections
  pub their : (section : ℕ) (reporter : ℕ × ℕ) → slice_get reporters section ≡ Some reporter → IsReportedIn l.detectors section reporter

-- A table is that of a site: a row for each route, in their order, the section of each point, the place at which each
-- section is reported, and the sections of each detector.
pub record IsTableOf (l : Site) (table : Table) : Type 0 where
  pub rows : AreRows l table.rows
  pub point_sections : map as_section table.point_sections ≡ map (λ point. point.section) l.points
  pub reporters : AreReporters l table.reporters
  pub detectors : map (λ sections. map as_section sections) table.detectors ≡ map (λ detector. detector.sections) l.detectors

-- ---- limits

-- All that a row names is there, and it leads over 1 to 64 sections. A point is held until one of them is freed.
pub record IsRowThere (l : Site) (row : Row) : Type 0 where
  pub entry : row.entry < length l.signals
  pub some : 1 ≤ length row.sections
  pub few : length row.sections ≤ 64
  pub few_needs : length row.needs ≤ length l.points
  pub sections : All (λ section. section < length l.sections) row.sections
  pub points : All (λ need. need.point < length l.points) row.needs
  pub from_one : All (λ need. 1 ≤ need.until) row.needs
  pub until : All (λ need. need.until ≤ length row.sections) row.needs
  pub approach : All (λ section. section < length l.sections) row.approach
  pub extra : All (λ route. route < length l.routes) row.extra

-- All that a table names is there.
pub record IsTableThere (l : Site) (table : Table) : Type 0 where
  pub rows : (number : ℕ) (row : Row) → slice_get table.rows number ≡ Some row → IsRowThere l row
  pub each_point : length table.point_sections ≡ length l.points
  pub point_sections : All (λ section. section < length l.sections) table.point_sections
  pub each_detector : length table.detectors ≡ length l.detectors
  pub detectors : (place : ℕ) (sections : List ℕ) → slice_get table.detectors place ≡ Some sections → (length sections ≤ 16) × All (λ section. section < length l.sections) sections
  pub reporters : (section : ℕ) (reporter : ℕ × ℕ) → slice_get table.reporters section ≡ Some reporter
      → (sections : List ℕ) × (slice_get table.detectors reporter.0 ≡ Some sections) × (slice_get sections reporter.1 ≡ Some section)

-- ---- rows of bits

-- A row of bits has the numbers of a list.
abbrev pub IsSetOf : List ℕ → Places → Type 0
IsSetOf list row = (n : ℕ) → Has row n ↔ Contains list n

-- It has the points that are needed at a side.
abbrev pub AreNeededAt : List Need → Side → Places → Type 0
AreNeededAt needs side row = (point : ℕ) → Has row point ↔ Contains (required needs) (as_point point, side)
