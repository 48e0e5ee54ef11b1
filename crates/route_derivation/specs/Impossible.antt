-- Why a way can't be a route.
use Rattle.std.specs.Prelude.{◌≡◌, ◌≢◌, ◌<◌, ◌⊎◌, List, length}
use Rattle.std.specs.List.{Contains}
use Rattle.control_table.specs.sci_telegram.declared.message.Side.{Side}
use Rattle.control_table.specs.sci_telegram.declared.message.Side.TheVariants as side
use Rattle.control_table.specs.layout.declared.ids.PointId.{PointId}
use Rattle.control_table.specs.layout.declared.ids.SignalId.{SignalId}
use Rattle.control_table.specs.layout.declared.port.Port.{Port}
use Rattle.control_table.specs.layout.Entries.{Site}
use Rattle.control_table.specs.layout.Once.{Distinct}
use Rattle.control_table.specs.Topology.{Joined, StandsAt}
use Rattle.control_table.specs.Path.{Passage}
use Rattle.control_table.specs.Sides.{leg, other, Guards, PathUses}
use Rattle.route_derivation.specs.declared.impossible.Hindrance.{Hindrance}
use Rattle.route_derivation.specs.declared.impossible.Hindrance.TheVariants as hindrance
use Rattle.route_derivation.specs.declared.impossible.ImpossibleWay.{ImpossibleWay}
use Rattle.route_derivation.specs.Ways.{Way, IsWay, IsPassable, IsShort}

-- A path leaves the leg of a point at a side open: it uses the other leg, and this one is joined to a port that is no
-- leg of another point, and at which no signal stands.
pub record LeavesOpen (l : Site) (path : List Passage) (p : PointId) (s : Side) (from : Port) : Type 0 where
  pub used : PathUses path p (other s)
  pub joined : Joined l (leg p s) from
  pub no_leg : (q : PointId) (t : Side) → q ≢ p → from ≡ leg q t → ⊥
  pub no_signal : (i : SignalId) → StandsAt l i from → ⊥

-- Whoever passes a point at a side asks for a point at a side: for this one, or for that which guards its other leg.
abbrev pub AsksFor : Site → PointId × Side → PointId → Side → Type 0
AsksFor l n q t = (n ≡ (q, t)) ⊎ Guards l q t n.0 n.1

-- A path passes two points at sides that ask for one point left and right.
pub record AsksForBoth (l : Site) (path : List Passage) (q : PointId) (a b : PointId × Side) : Type 0 where
  pub first : PathUses path a.0 a.1
  pub left : AsksFor l a q side.Left
  pub second : PathUses path b.0 b.1
  pub right : AsksFor l b q side.Right

-- What hinders a path.
abbrev pub Hinders : Site → List Passage → Hindrance → Type 0
Hinders l path (hindrance.OpenLeg p s from) = LeavesOpen l path p s from
Hinders l path (hindrance.BothSides q a b) = AsksForBoth l path q a b

-- An impossible way tells of a way where that begins, where it ends, and what hinders it.
pub record TellsOf (l : Site) (i : ImpossibleWay) (w : Way) : Type 0 where
  pub entry : i.entry ≡ w.entry
  pub exit : i.exit ≡ w.exit
  pub hinders : Hinders l w.passages i.hindrance

-- A way of at most 64 elements that begins at a signal.
pub record IsWayFrom (l : Site) (s : SignalId) (w : Way) : Type 0 where
  pub way : IsWay l w
  pub short : IsShort w
  pub entry : w.entry ≡ s

-- All ways from a signal that aren't passable, and no other.
pub record AreImpossible (l : Site) (s : SignalId) (is : List ImpossibleWay) : Type 0 where
  pub each : (i : ImpossibleWay) → Contains is i → (w : Way) × IsWayFrom l s w × TellsOf l i w
  pub all : (w : Way) → IsWayFrom l s w → (IsPassable l w → ⊥) → (i : ImpossibleWay) × Contains is i × TellsOf l i w

-- More than 64 ways begin at a signal.
pub record ManyWaysFrom (l : Site) (s : SignalId) : Type 0 where
  pub ways : List Way
  pub many : 64 < length ways
  pub differ : Distinct ways
  pub each : (w : Way) → Contains ways w → IsWayFrom l s w
