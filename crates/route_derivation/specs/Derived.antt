-- The control table that follows from a layout.
use Rattle.std.specs.Prelude.{◌≡◌, ◌⊎◌, ◌↔◌, ◌<◌, ◌≤◌, List, [], length, Some, slice_get}
use Rattle.std.specs.List.{AllPairs, Contains}
use Rattle.control_table.specs.sci_telegram.declared.message.Aspect.TheVariants.{Proceed, Slow}
use Rattle.control_table.specs.sci_telegram.declared.message.Side.{Side}
use Rattle.control_table.specs.sci_telegram.declared.message.Side.TheVariants as side
use Rattle.control_table.specs.layout.declared.ids.PointId.{PointId}
use Rattle.control_table.specs.layout.declared.ids.SignalId.{SignalId}
use Rattle.control_table.specs.layout.Entries.{RouteEntry, Site}
use Rattle.control_table.specs.Path.{Passage, Path}
use Rattle.control_table.specs.Sides.{FlanksGuarded, NoneAtBothSides, WritesRequired}
use Rattle.route_derivation.specs.declared.slow.SlowLegs.{SlowLegs}
use Rattle.route_derivation.specs.declared.slow.SlowLegs.TheVariants as legs
use Rattle.route_derivation.specs.Ways.{PartsLeft}

-- A route that is sound by itself: it has a path, writes what this path requires, requires no point at both sides,
-- and leaves no flank open. It lists no extra conflict.
pub record IsGiven (l : Site) (r : RouteEntry) : Type 0 where
  pub path : List Passage
  pub is_path : Path l r path
  pub writes : WritesRequired l r path
  pub consistent : NoneAtBothSides l path
  pub guarded : FlanksGuarded l path
  pub alone : r.extra ≡ []

-- Such a route that begins at one of some signals, and has at most 64 elements.
pub record IsAsked (l : Site) (entries : List SignalId) (r : RouteEntry) : Type 0 where
  pub given : IsGiven l r
  pub entry : Contains entries r.entry
  pub short : length r.path ≤ 64

-- Two routes lead the same way.
abbrev pub SameWay : RouteEntry → RouteEntry → Type 0
SameWay r q = (r.entry ≡ q.entry) × (r.path ≡ q.path)

-- Two routes are the same up to their names, approaches, extra conflicts and aspects, and the order in which their
-- points are written.
pub record SameRoute (r q : RouteEntry) : Type 0 where
  pub entry : r.entry ≡ q.entry
  pub exit : r.exit ≡ q.exit
  pub path : r.path ≡ q.path
  pub points : (p : PointId) (s : Side) → Contains r.points (p, s) ↔ Contains q.points (p, s)
  pub flank : (p : PointId) (s : Side) → Contains r.flank (p, s) ↔ Contains q.flank (p, s)

-- A route comes before another: its signal does in the layout, or both begin at one signal and it leads on to the
-- left where they part.
abbrev pub IsBefore : RouteEntry → RouteEntry → Type 0
IsBefore r q = (r.entry.0 < q.entry.0) ⊎ ((r.entry ≡ q.entry) × PartsLeft r.path q.path)

-- The routes that follow from a layout and begin at some signals: each is sound, each that is sound is among them,
-- and they are in order, so that no two lead the same way.
pub record IsDerived (l : Site) (entries : List SignalId) (rs : List RouteEntry) : Type 0 where
  pub sound : (r : RouteEntry) → Contains rs r → IsAsked l entries r
  pub complete : (r : RouteEntry) → IsAsked l entries r → (q : RouteEntry) × Contains rs q × SameRoute r q
  pub ordered : AllPairs IsBefore rs
  pub few : length rs ≤ 64

-- Two layouts have the same topology: tracks, points, joints and signals.
pub record SameTopology (l m : Site) : Type 0 where
  pub tracks : l.tracks ≡ m.tracks
  pub points : l.points ≡ m.points
  pub joints : l.joints ≡ m.joints
  pub signals : l.signals ≡ m.signals

-- ---- aspects

-- The legs of a point that are passed slowly are marked.
abbrev pub Marks : SlowLegs → Side → Type 0
Marks legs.Both s = Unit {0}
Marks legs.Left side.Left = Unit {0}
Marks legs.Right side.Right = Unit {0}
Marks legs.Left side.Right = ⊥
Marks legs.Right side.Left = ⊥
Marks legs.Neither s = ⊥

-- A leg of a point is slow, by the marks of all points in layout order.
abbrev pub IsSlowLeg : List SlowLegs → PointId → Side → Type 0
IsSlowLeg marks p s = (mark : SlowLegs) × (slice_get marks p.0 ≡ Some mark) × Marks mark s

-- A route uses a slow leg.
abbrev pub UsesSlowLeg : List SlowLegs → RouteEntry → Type 0
UsesSlowLeg marks r = (p : PointId) × (s : Side) × Contains r.points (p, s) × IsSlowLeg marks p s

-- A route is slow exactly where it uses a slow leg, and otherwise its aspect is proceed.
pub record HasDerivedAspect (marks : List SlowLegs) (r : RouteEntry) : Type 0 where
  pub slow : (r.aspect ≡ Slow) ↔ UsesSlowLeg marks r
  pub proceed : (UsesSlowLeg marks r → ⊥) → r.aspect ≡ Proceed
