-- At which sides a path requires points, and what guards its flank.
use Rattle.std.specs.Prelude.{◌≡◌, ◌≢◌, ◌⊎◌, List, ◌↔◌}
use Rattle.std.specs.List.{Contains}
use Rattle.sci_telegram.specs.declared.message.Side.{Side}
use Rattle.sci_telegram.specs.declared.message.Side.TheVariants as side
use Rattle.layout.specs.declared.ids.PointId.{PointId}
use Rattle.layout.specs.declared.ids.SignalId.{SignalId}
use Rattle.layout.specs.declared.port.Port.{Port}
use Rattle.layout.specs.declared.port.Element.TheVariants as element
use Rattle.layout_text.specs.declared.entries.End.{End}
use Rattle.layout_text.specs.declared.entries.End.TheVariants as end
use Rattle.layout.specs.Entries.{RouteEntry, Site}
use Rattle.control_table.specs.Path.{Passage}
use Rattle.control_table.specs.Topology.{Joined, StandsAt}

-- The leg to which a point leads at a side.
abbrev pub leg_at : Side → End
leg_at side.Left = end.Left
leg_at side.Right = end.Right

-- The other side.
abbrev pub other : Side → Side
other side.Left = side.Right
other side.Right = side.Left

-- The leg of a point at a side.
abbrev pub leg : PointId → Side → Port
leg p s = record { element = element.Point p; end = leg_at s }

-- A passage uses the leg of a point at a side: it leaves the point by this leg, or enters by it and leaves by the
-- tip.
abbrev pub Uses : Passage → PointId → Side → Type 0
Uses g p s = (g.left.element ≡ element.Point p) × ((g.left.end ≡ leg_at s) ⊎ ((g.left.end ≡ end.Tip) × (g.entered.end ≡ leg_at s)))

-- A path uses the leg of a point at a side.
abbrev pub PathUses : List Passage → PointId → Side → Type 0
PathUses path p s = (g : Passage) × Contains path g × Uses g p s

-- A point lies on a path.
abbrev pub OnPath : List Passage → PointId → Type 0
OnPath path p = (g : Passage) × (s : Side) × Contains path g × Uses g p s

-- The unused leg of a point that a path passes at a side is joined to the leg of another point at the other side
-- of t. With the point q at t nothing comes to this leg.
abbrev pub Guards : Site → PointId → Side → PointId → Side → Type 0
Guards l q t p s = (q ≢ p) × Joined l (leg p (other s)) (leg q (other t))

-- A path requires a point at a side: it uses this leg of the point, or the point at this side guards the unused
-- leg of a point on the path.
abbrev pub Requires : Site → List Passage → PointId → Side → Type 0
Requires l path q t = (g : Passage) × Contains path g × (Uses g q t ⊎ ((p : PointId) × (s : Side) × Uses g p s × Guards l q t p s))

-- The rule for the unused leg of a point that a path passes at a side: what is joined to it is a leg of another
-- point, or a signal stands there.
abbrev pub IsGuarded : Site → PointId → Side → Type 0
IsGuarded l p s = (from : Port) → Joined l (leg p (other s)) from
    → ((q : PointId) × (t : Side) × (q ≢ p) × (from ≡ leg q t)) ⊎ ((s : SignalId) × StandsAt l s from)

-- The rule for each unused leg of a path is met.
abbrev pub FlanksGuarded : Site → List Passage → Type 0
FlanksGuarded l path = (g : Passage) (p : PointId) (s : Side) → Contains path g → Uses g p s → IsGuarded l p s

-- No point is required at both sides.
abbrev pub NoneAtBothSides : Site → List Passage → Type 0
NoneAtBothSides l path = (p : PointId) → Requires l path p side.Left → Requires l path p side.Right → ⊥

-- Each point on the path is written under `points`.
abbrev pub PointsNamed : RouteEntry → List Passage → Type 0
PointsNamed r path = (p : PointId) → OnPath path p → (s : Side) × Contains r.points (p, s)

-- Each point that is written is required at this side. It lies on the path where it stands under `points`, and off
-- the path where it stands under `flank`.
pub record WritesOnlyRequired (l : Site) (r : RouteEntry) (path : List Passage) : Type 0 where
  pub points : (p : PointId) (s : Side) → Contains r.points (p, s) → Requires l path p s × OnPath path p
  pub flank : (p : PointId) (s : Side) → Contains r.flank (p, s) → Requires l path p s × (OnPath path p → ⊥)

-- Each required point off the path is written under `flank`.
abbrev pub FlankNamed : Site → RouteEntry → List Passage → Type 0
FlankNamed l r path = (p : PointId) (s : Side) → Requires l path p s → (OnPath path p → ⊥) → (t : Side) × Contains r.flank (p, t)

-- What a route writes is what its path requires: the points on the path under `points`, the others under `flank`.
pub record WritesRequired (l : Site) (r : RouteEntry) (path : List Passage) : Type 0 where
  pub points : (p : PointId) (s : Side) → Contains r.points (p, s) ↔ (Requires l path p s × OnPath path p)
  pub flank : (p : PointId) (s : Side) → Contains r.flank (p, s) ↔ (Requires l path p s × (OnPath path p → ⊥))
