-- When a release, a move, a close and an open are accepted, and why they are refused, in the words of the field. Of several
-- causes the first in their order is told.
use Rattle.std.specs.Prelude.{◌≡◌, ◌⊎◌, ℕ, ◌<◌, true, false, Some, slice_get, length, IsTrue}
use Rattle.closings.specs.sci_telegram.declared.message.Side.{Side}
use Rattle.closings.specs.layout.declared.ids.PointId.{PointId}
use Rattle.closings.specs.declared.thing.Thing.{Thing}
use Rattle.closings.specs.declared.thing.Thing.TheVariants.{Section, Point, Signal, Route}
use Rattle.closings.specs.declared.thing.Named.{Named}
use Rattle.closings.specs.declared.thing.Named.TheVariants.{One, BothSides}
use Rattle.closings.specs.Closed.{IsClosed}
use Rattle.closings.specs.Things.{Names}
use Rattle.ixl_spec.specs.Table.{Row, Table}
use Rattle.ixl_spec.specs.State.{IxlState, RouteState}
use Rattle.ixl_spec.specs.View.{is_holding, is_set}
use Rattle.ixl_spec.specs.Operations.{section_thing}
use Rattle.ixl_spec.specs.Due.{At, HoldsPoint, IsAvailable, IsClear, IsOccupied, IsRouteOf, Known, LiesInClosed, Uses}
use Rattle.ixl_spec.specs.Refusals.{IsKnownRoute, IsUnknown, Obeys}
use Rattle.ixl_spec.specs.declared.command.Refusal.{Refusal}
use Rattle.ixl_spec.specs.declared.command.Refusal.TheVariants as refusals
use Rattle.ixl_spec.specs.declared.phase.Phase.TheVariants as phase

-- ---- things

-- The station has a thing, and has what a command names.
abbrev pub IsThing : Table → IxlState → Thing → Type 0
IsThing table ixl (Section s) = s.0 < length table.reporters
IsThing table ixl (Point p side) = p.0 < length table.point_sections
IsThing table ixl (Signal s) = s.0 < length ixl.known_signals
IsThing table ixl (Route r) = r.0 < length table.rows

abbrev pub IsNamed : Table → IxlState → Named → Type 0
IsNamed table ixl (One thing) = IsThing table ixl thing
IsNamed table ixl (BothSides p) = p.0 < length table.point_sections

-- ---- the first route of the table

-- a fact of a route of the table
abbrev pub OfRoute : Table → IxlState → (ℕ → Row → RouteState → Type 0) → ℕ → Type 0
OfRoute table ixl holds number = (row : Row) × (route : RouteState) × IsRouteOf table ixl number row route × holds number row route

-- it holds of a route, and of none before it
abbrev pub IsFirstRoute : Table → IxlState → (ℕ → Row → RouteState → Type 0) → ℕ → Type 0
IsFirstRoute table ixl holds number =
    OfRoute table ixl holds number × ((other : ℕ) → other < number → OfRoute table ixl holds other → ⊥)

abbrev pub NoRoute : Table → IxlState → (ℕ → Row → RouteState → Type 0) → Type 0
NoRoute table ixl holds = (number : ℕ) → OfRoute table ixl holds number → ⊥

-- a set route holds a point, at whichever side
abbrev pub Holds : ℕ → ℕ → Row → RouteState → Type 0
Holds point number row route = (side : Side) × HoldsPoint row route.phase point side

-- a set route holds a point of a section at a side at which it isn't known
abbrev pub AwaitsPointIn : Table → IxlState → ℕ → Row → RouteState → Type 0
AwaitsPointIn table ixl section row route =
    (point : ℕ) × (side : Side) × HoldsPoint row route.phase point side × At table.point_sections point (λ own. own ≡ section) × (Known ixl point side → ⊥)

-- A route keeps what a command names open: it isn't cancelled, and uses something of it, or awaits a point in it.
abbrev pub KeepsOpen : Table → IxlState → Named → ℕ → Row → RouteState → Type 0
KeepsOpen table ixl named number row route = (route.cancelled ≡ false)
    × (((thing : Thing) × Names named thing × Uses number row route thing)
    ⊎ ((section : ℕ) × Names named (section_thing section) × AwaitsPointIn table ixl section row route))

-- ---- release

-- A route may be released: it is cancelled, and its authority was given in this setting and is ended.
pub record MayBeReleased (now : ℕ) (table : Table) (ixl : IxlState) (number : ℕ) : Type 0 where
  pub obeys : Obeys now ixl
  pub row : Row
  pub route : RouteState
  pub known : IsRouteOf table ixl number row route
  pub cancelled : route.cancelled ≡ true
  pub clock : ℕ
  pub freed : ℕ
  pub ended : route.phase ≡ phase.Ended clock freed

abbrev pub IsReleaseRefused : ℕ → Table → IxlState → ℕ → Refusal → Type 0
IsReleaseRefused now table ixl number refusals.UnknownRoute = IsKnownRoute table ixl number → ⊥
IsReleaseRefused now table ixl number refusals.Holding = IsKnownRoute table ixl number × (is_holding now ixl ≡ true)
IsReleaseRefused now table ixl number refusals.NotResumed = IsKnownRoute table ixl number × (is_holding now ixl ≡ false) × (ixl.resumed ≡ false)
IsReleaseRefused now table ixl number refusals.NotSet =
    Obeys now ixl × OfRoute table ixl (λ number row route. is_set route.phase ≡ false) number
IsReleaseRefused now table ixl number refusals.NotEnded =
    Obeys now ixl × OfRoute table ixl (λ number row route. IsTrue (is_set route.phase)) number × (MayBeReleased now table ixl number → ⊥)
IsReleaseRefused now table ixl number _ = ⊥

-- ---- move

-- A point may be moved to a side by a command.
pub record MayBeMoved (now : ℕ) (table : Table) (ixl : IxlState) (point : PointId) (side : Side) : Type 0 where
  pub there : point.0 < length table.point_sections
  pub obeys : Obeys now ixl
  pub unclosed : IsClosed ixl.closed (Point point side) → ⊥
  pub unheld : NoRoute table ixl (Holds point.0)
  pub available : IsAvailable ixl point.0
  pub section : LiesInClosed table ixl point.0 ⊎ At table.point_sections point.0 (IsClear table ixl)

-- all that is tested of a move before its point is asked for
abbrev pub IsFreeToMove : ℕ → Table → IxlState → PointId → Side → Type 0
IsFreeToMove now table ixl point side =
    (point.0 < length table.point_sections) × Obeys now ixl × (IsClosed ixl.closed (Point point side) → ⊥) × NoRoute table ixl (Holds point.0)

abbrev pub IsMoveRefused : ℕ → Table → IxlState → PointId → Side → Refusal → Type 0
IsMoveRefused now table ixl point side refusals.NoSuchThing = point.0 < length table.point_sections → ⊥
IsMoveRefused now table ixl point side refusals.Holding = (point.0 < length table.point_sections) × (is_holding now ixl ≡ true)
IsMoveRefused now table ixl point side refusals.NotResumed =
    (point.0 < length table.point_sections) × (is_holding now ixl ≡ false) × (ixl.resumed ≡ false)
IsMoveRefused now table ixl point side (refusals.Closed thing) =
    (point.0 < length table.point_sections) × Obeys now ixl × (thing ≡ Point point side) × IsClosed ixl.closed thing
IsMoveRefused now table ixl point side (refusals.Held route) =
    (point.0 < length table.point_sections) × Obeys now ixl × (IsClosed ixl.closed (Point point side) → ⊥)
    × IsFirstRoute table ixl (Holds point.0) route.0
IsMoveRefused now table ixl point side (refusals.PointUnavailable other) =
    IsFreeToMove now table ixl point side × (other ≡ point) × (IsAvailable ixl point.0 → ⊥)
IsMoveRefused now table ixl point side (refusals.NotClear section) =
    IsFreeToMove now table ixl point side × IsAvailable ixl point.0 × (LiesInClosed table ixl point.0 → ⊥)
    × (slice_get table.point_sections point.0 ≡ Some section.0) × IsOccupied table ixl section.0
IsMoveRefused now table ixl point side refusals.DetectionDown =
    IsFreeToMove now table ixl point side × IsAvailable ixl point.0 × (LiesInClosed table ixl point.0 → ⊥)
    × At table.point_sections point.0 (IsUnknown table ixl)
IsMoveRefused now table ixl point side _ = ⊥

-- ---- close, open

-- What a command names may be closed: the station has it, and no set route keeps it open.
pub record MayBeClosed (table : Table) (ixl : IxlState) (named : Named) : Type 0 where
  pub there : IsNamed table ixl named
  pub unused : NoRoute table ixl (KeepsOpen table ixl named)

abbrev pub IsCloseRefused : Table → IxlState → Named → Refusal → Type 0
IsCloseRefused table ixl named refusals.NoSuchThing = IsNamed table ixl named → ⊥
IsCloseRefused table ixl named (refusals.Held route) = IsNamed table ixl named × IsFirstRoute table ixl (KeepsOpen table ixl named) route.0
IsCloseRefused table ixl named _ = ⊥
