-- The row of a route: what each of its cells says.
use Rattle.std.specs.Prelude.{◌≡◌, ℕ, ◌+◌, Bool, ◌==◌, ◌&&◌, true, false, List, [], length, map, filter, drop, Option, Some, None, slice_get}
use Rattle.std.specs.List.{Contains, filter_map, list_any}
use Rattle.std.specs.Option.{option_map, unwrap_or}
use Rattle.control_table.specs.sci_telegram.declared.message.Side.{Side}
use Rattle.control_table.specs.sci_telegram.declared.message.Side.TheVariants as side
use Rattle.control_table.specs.layout.declared.ids.PointId.{PointId}
use Rattle.control_table.specs.layout.declared.ids.RouteId.{RouteId}
use Rattle.control_table.specs.layout.declared.ids.SectionId.{SectionId}
use Rattle.control_table.specs.layout.declared.port.Element.{Element}
use Rattle.control_table.specs.layout.declared.port.Element.TheVariants as element
use Rattle.control_table.specs.layout.declared.port.Port.{Port}
use Rattle.control_table.specs.layout.Entries.{RouteEntry, Site}
use Rattle.control_table.specs.AwaitedSections.{Awaits}
use Rattle.control_table.specs.Table.{AreSections, Conflict, RouteRequires}
use Rattle.station_layout.specs.declared.conflict_reasons.ConflictReasons.{ConflictReasons}
use Rattle.station_layout.specs.ListedPlaces.{ListsBelow, ListsOne}
use Rattle.control_table.specs.sci_telegram.Words.{aspect_word, side_word}
use Rattle.station_layout.specs.Names.{exit_name, parted, point_name, route_name, section_name, signal_name, spaced, with_word}
use Rattle.station_layout.specs.Reasons.{AreReasons, reason_words}

-- the cells of a row
pub record Row : Type 0 where
  pub route : List ℕ
  pub entry : List ℕ
  pub exit : List ℕ
  pub aspect : List ℕ
  pub right : List ℕ
  pub left : List ℕ
  pub flank : List ℕ
  pub sections : List ℕ
  pub let_go : List ℕ
  pub approach : List ℕ
  pub conflicts : List ℕ

-- ---- points

abbrev pub same_side : Side → Side → Bool
same_side side.Left side.Left = true
same_side side.Right side.Right = true
same_side _ _ = false

-- whether a point is written at a side
abbrev pub is_written : List (PointId × Side) → Side → PointId → Bool
is_written points side p = list_any (λ n. n.0.0 == p.0 && same_side n.1 side) points

abbrev pub point_of : Element → Option PointId
point_of (element.Point p) = Some p
point_of _ = None

-- the points on a path that are written at a side, in the order of the path
abbrev pub points_on : List Port → List (PointId × Side) → Side → List PointId
points_on path points side = filter (is_written points side) (filter_map (λ port. point_of port.element) path)

-- the points on the path of a route that have to lie at a side
abbrev pub points_at : RouteEntry → Side → List PointId
points_at r side = points_on r.path r.points side

abbrev pub names_of_points : Site → List PointId → List (List ℕ)
names_of_points l points = map (point_name l) points

-- flank points, each with its side
abbrev pub flank_text : Site → PointId × Side → List ℕ
flank_text l n = with_word (point_name l n.0) (side_word n.1)

abbrev pub flank_texts : Site → List (PointId × Side) → List (List ℕ)
flank_texts l flank = map (flank_text l) flank

-- ---- sections

abbrev pub section_names : Site → List SectionId → List (List ℕ)
section_names l sections = map (section_name l) sections

-- the name of the section at a place of a path
abbrev pub name_there : Site → List SectionId → ℕ → List ℕ
name_there l sections place = unwrap_or (option_map (section_name l) (slice_get sections place)) []

-- a point or route by its place
abbrev pub point_at : ℕ → PointId
point_at k = record { 0 = k }

abbrev pub route_at : ℕ → RouteId
route_at k = record { 0 = k }

-- ---- until when points are held, and conflicts

-- A route requires a point at some side.
abbrev pub IsRequired : Site → RouteId → PointId → Type 0
IsRequired l a p = (s : Side) × RouteRequires l a p s

-- A point is let go at a place of the sections of a route: the route requires it, and it awaits the section there, and none
-- after it.
pub record IsLetGoAt (l : Site) (a : RouteId) (sections : List SectionId) (place : ℕ) (p : PointId) : Type 0 where
  pub required : IsRequired l a p
  pub section : SectionId
  pub there : slice_get sections place ≡ Some section
  pub awaits : Awaits l a p section
  pub behind : (later : SectionId) → Contains (drop (place + 1) sections) later → Awaits l a p later → ⊥

-- Some point of the layout is let go at a place.
abbrev pub LetsOneGo : Site → RouteId → List SectionId → ℕ → Type 0
LetsOneGo l a sections place = ListsOne (λ k. IsLetGoAt l a sections place (point_at k)) (length l.points)

-- A list names the points that are let go at a place, in the order of the layout.
abbrev pub NamesLetGo : Site → RouteId → List SectionId → ℕ → List (List ℕ) → Type 0
NamesLetGo l a sections place names = ListsBelow (λ k. IsLetGoAt l a sections place (point_at k)) (λ k text. text ≡ point_name l (point_at k)) (length l.points) names

-- What is told of a section at which points are let go: these points.
abbrev pub IsLetGoText : Site → RouteId → List SectionId → ℕ → List ℕ → Type 0
IsLetGoText l a sections place text = (names : List (List ℕ)) × NamesLetGo l a sections place names × (text ≡ with_word (name_there l sections place) (spaced names))

abbrev pub TellsLetGo : Site → RouteId → List SectionId → List (List ℕ) → Type 0
TellsLetGo l a sections texts = ListsBelow (LetsOneGo l a sections) (IsLetGoText l a sections) (length sections) texts

-- One of these texts tells of the section at a place, and names a point.
abbrev pub TellsPoint : Site → List SectionId → ℕ → PointId → List (List ℕ) → Type 0
TellsPoint l sections place p texts = (text : List ℕ) × (names : List (List ℕ)) × Contains texts text × Contains names (point_name l p) × (text ≡ with_word (name_there l sections place) (spaced names))

-- What is told of a route that conflicts with another: the reasons.
abbrev pub IsConflictText : Site → RouteId → RouteId → List ℕ → Type 0
IsConflictText l a b text = (reasons : ConflictReasons) × AreReasons l a b reasons × (text ≡ with_word (route_name l b) (spaced (reason_words reasons)))

abbrev pub TellsConflicts : Site → RouteId → List (List ℕ) → Type 0
TellsConflicts l a texts = ListsBelow (λ k. Conflict l a (route_at k)) (λ k. IsConflictText l a (route_at k)) (length l.routes) texts

-- ---- the row

-- A cell has the sections of a route, in the order of its path.
abbrev pub IsSectionsCell : Site → RouteId → List ℕ → Type 0
IsSectionsCell l a cell = (sections : List SectionId) × AreSections l a sections × (cell ≡ spaced (section_names l sections))

-- A cell has each section at which a route lets points go, in the order of its path, with these points.
abbrev pub IsLetGoCell : Site → RouteId → List ℕ → Type 0
IsLetGoCell l a cell = (sections : List SectionId) × AreSections l a sections × ((texts : List (List ℕ)) × TellsLetGo l a sections texts × (cell ≡ parted texts))

-- A cell has each route that conflicts with a route, in the order of the table, with the reasons.
abbrev pub IsConflictsCell : Site → RouteId → List ℕ → Type 0
IsConflictsCell l a cell = (texts : List (List ℕ)) × TellsConflicts l a texts × (cell ≡ parted texts)

-- The row of a route of the table, of which this is the entry.
pub record IsRowOf (l : Site) (a : RouteId) (r : RouteEntry) (row : Row) : Type 0 where
  pub route : row.route ≡ r.name
  pub entry : row.entry ≡ signal_name l r.entry
  pub exit : row.exit ≡ exit_name l r.exit
  pub aspect : row.aspect ≡ aspect_word r.aspect
  pub right : row.right ≡ spaced (names_of_points l (points_at r side.Right))
  pub left : row.left ≡ spaced (names_of_points l (points_at r side.Left))
  pub flank : row.flank ≡ parted (flank_texts l r.flank)
  pub sections : IsSectionsCell l a row.sections
  pub let_go : IsLetGoCell l a row.let_go
  pub approach : row.approach ≡ spaced (section_names l r.approach)
  pub conflicts : IsConflictsCell l a row.conflicts
