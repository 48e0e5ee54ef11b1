-- How what is locked is kept: rows of bits, for one route or for all.
use Rattle.std.specs.Prelude.{◌≡◌, ◌⊎◌, ◌↔◌, ◌<◌, ℕ, List, Some, slice_get, length, map}
use Rattle.std.specs.List.{fold}
use Rattle.std.specs.FinSet.{empty, intersection, union}
use Rattle.control_table.specs.sci_telegram.declared.message.Side.{Side}
use Rattle.control_table.specs.sci_telegram.declared.message.Side.TheVariants as side
use Rattle.control_table.specs.layout.declared.ids.SectionId.{SectionId}
use Rattle.control_table.specs.layout.declared.ids.PointId.{PointId}
use Rattle.control_table.specs.layout.declared.ids.RouteId.{RouteId}
use Rattle.control_table.specs.layout.Entries.{Site, RouteEntry}
use Rattle.control_table.specs.layout.Once.{Once}
use Rattle.control_table.specs.layout.Station.{IsStation}
use Rattle.control_table.specs.bit_row.Places.{Places, Has, IsLeast, Meet}
use Rattle.control_table.specs.declared.masks.RouteMasks.{RouteMasks}
use Rattle.control_table.specs.Topology.{IsRoute}
use Rattle.control_table.specs.Table.{LeadsOver, RouteRequires, Sound}
use Rattle.control_table.specs.AwaitedSections.{Awaits}
use Rattle.route_lock.specs.declared.rows.Locked.{Locked}
use Rattle.route_lock.specs.declared.locks.LockFault.{LockFault}
use Rattle.route_lock.specs.declared.locks.LockFault.TheVariants.{Conflict, PointHeld}
use Rattle.route_lock.specs.Locks.{LockState, AllApart}

abbrev pub none : Locked
none = record { routes = empty; entries = empty; sections = empty; right = empty; left = empty }

abbrev pub join : Locked → Locked → Locked
join k m = record { routes = union k.routes m.routes; entries = union k.entries m.entries; sections = union k.sections m.sections; right = union k.right m.right; left = union k.left m.left }

unfoldable pub all_of : List Locked → Locked
all_of locks = fold join none locks

-- a point awaits one of these sections
abbrev pub AwaitsOne : Site → RouteId → Places → PointId → Type 0
AwaitsOne l a sections p = (s : SectionId) × Awaits l a p s × Has sections s.0

-- a route that locks these sections holds a point
abbrev pub HoldsBy : Site → RouteId → Places → PointId → Side → Type 0
HoldsBy l a sections p t = RouteRequires l a p t × AwaitsOne l a sections p

-- the rows of a route
pub record AreRows (l : Site) (a : RouteId) (k : Locked) : Type 0 where
  pub routes : (j : ℕ) → Has k.routes j ↔ ((j ≡ a.0) × ((s : ℕ) × Has k.sections s))
  pub entries : (j : ℕ) → Has k.entries j ↔ (((r : RouteEntry) × IsRoute l a r × (j ≡ r.entry.0)) × ((s : ℕ) × Has k.sections s))
  pub sections : (s : ℕ) → Has k.sections s → LeadsOver l a (record { 0 = s })
  pub right : (p : PointId) → Has k.right p.0 ↔ HoldsBy l a k.sections p side.Right
  pub left : (p : PointId) → Has k.left p.0 ↔ HoldsBy l a k.sections p side.Left

-- what these rows have in common with what a route needs, but for points
abbrev pub RowsClash : Locked → RouteMasks → Type 0
RowsClash k m = Has k.entries m.entry.0 ⊎ Meet k.routes m.extra ⊎ Meet k.sections m.sections

abbrev pub RowsBlock : Locked → RouteMasks → Type 0
RowsBlock k m = RowsClash k m ⊎ Meet k.right m.left ⊎ Meet k.left m.right

-- the state that rows are
abbrev pub state_of : Site → List Locked → LockState
state_of l locks = record { table = l; locked = map (λ k. k.sections) locks }

-- what holds of every value of `Locks`
pub record AreKept (l : Site) (locks : List Locked) (all : Locked) : Type 0 where
  pub once : Once l
  pub station : IsStation l
  pub sound : Sound l
  pub each : length locks ≡ length l.routes
  pub rows : (a : RouteId) (k : Locked) → slice_get locks a.0 ≡ Some k → AreRows l a k
  pub together : all ≡ all_of locks
  pub apart : AllApart (state_of l locks)

-- why rows stand against what a route needs
abbrev pub IsRowsFault : RouteId → Locked → RouteMasks → LockFault → Type 0
IsRowsFault a k m (Conflict c) = (c ≡ a) × RowsClash k m
IsRowsFault a k m (PointHeld c p) = (c ≡ a) × (RowsClash k m → ⊥) × IsLeast (union (intersection k.right m.left) (intersection k.left m.right)) p.0

-- none of the rows before a place stands against it
abbrev pub NoneBefore : List Locked → RouteMasks → ℕ → Type 0
NoneBefore locks m n = (i : ℕ) (k : Locked) → i < n → slice_get locks i ≡ Some k → RowsBlock k m → ⊥

abbrev pub NoneBlocks : List Locked → RouteMasks → Type 0
NoneBlocks locks m = (i : ℕ) (k : Locked) → slice_get locks i ≡ Some k → RowsBlock k m → ⊥

-- why the first that does so does
abbrev pub IsFirstRowsFault : List Locked → RouteMasks → LockFault → Type 0
IsFirstRowsFault locks m f = (a : RouteId) × (k : Locked) × (slice_get locks a.0 ≡ Some k) × IsRowsFault a k m f × NoneBefore locks m a.0
