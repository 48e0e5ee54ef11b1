-- When what is seen of a station is safe.
use Rattle.std.specs.Prelude.{◌≡◌, ◌≢◌, length, Some, None, slice_get}
use Rattle.std.specs.List.{Contains}
use Rattle.ixl_spec.specs.sci_telegram.declared.message.Aspect.{Aspect}
use Rattle.ixl_spec.specs.sci_telegram.declared.message.Aspect.TheVariants as aspects
use Rattle.ixl_spec.specs.sci_telegram.declared.message.Position.{Position}
use Rattle.ixl_spec.specs.sci_telegram.declared.message.Position.TheVariants as positions
use Rattle.ixl_spec.specs.sci_telegram.declared.message.Side.{Side}
use Rattle.ixl_spec.specs.sci_telegram.declared.message.Side.TheVariants as sides
use Rattle.ixl_spec.specs.layout.declared.ids.PointId.{PointId}
use Rattle.ixl_spec.specs.layout.declared.ids.RouteId.{RouteId}
use Rattle.ixl_spec.specs.layout.declared.ids.SignalId.{SignalId}
use Rattle.ixl_spec.specs.layout.Entries.{Site}
use Rattle.ixl_spec.specs.layout.Station.{HasRoute, HasSignal}
use Rattle.ixl_spec.specs.control_table.Table.{Conflict, HasAspect, RouteRequires}
use Rattle.simulator_event.specs.declared.snapshot.Held.{Held}
use Rattle.simulator_event.specs.declared.snapshot.Snapshot.{Snapshot}

-- A signal shows an aspect.
abbrev pub Shows : Snapshot → SignalId → Aspect → Type 0
Shows seen signal aspect = slice_get seen.shows.items signal.0 ≡ Some (record { 0 = aspect })

-- It shows an aspect other than stop.
abbrev pub ShowsOther : Snapshot → SignalId → Type 0
ShowsOther seen signal = (aspect : Aspect) × Shows seen signal aspect × (aspect ≢ aspects.Stop)

-- A route is held for a signal.
abbrev pub IsHeldFor : Snapshot → SignalId → RouteId → Type 0
IsHeldFor seen signal route = Contains seen.held.items (record { signal = signal; route = route })

-- The end position at a side.
abbrev pub position_at : Side → Position
position_at sides.Right = positions.Right
position_at sides.Left = positions.Left

-- A point stands in the end position at a side, and isn't driven.
pub record StandsUndriven (seen : Snapshot) (point : PointId) (side : Side) : Type 0 where
  pub stands : slice_get seen.position.items point.0 ≡ Some (record { 0 = position_at side })
  pub undriven : slice_get seen.driven.items point.0 ≡ Some None

-- Exactly one route is held for a signal that shows an aspect; the aspect is this route's, and every point that the route
-- requires stands undriven in its required end position.
pub record IsProtected (site : Site) (seen : Snapshot) (signal : SignalId) (aspect : Aspect) : Type 0 where
  pub route : RouteId
  pub held : IsHeldFor seen signal route
  pub only : (other : RouteId) → IsHeldFor seen signal other → other ≡ route
  pub shows : HasAspect site route aspect
  pub points : (point : PointId) (side : Side) → RouteRequires site route point side → StandsUndriven seen point side

-- A pair names a signal and a route of the layout.
pub record IsThere (site : Site) (held : Held) : Type 0 where
  pub signal : HasSignal site held.signal
  pub route : HasRoute site held.route

-- The lists have the lengths of the layout, and each pair names what is there.
pub record IsOf (site : Site) (seen : Snapshot) : Type 0 where
  pub signals : length seen.shows.items ≡ length site.signals
  pub positions : length seen.position.items ≡ length site.points
  pub drives : length seen.driven.items ≡ length site.points
  pub there : (held : Held) → Contains seen.held.items held → IsThere site held

-- A snapshot is safe for a layout: it is one of this layout, each signal that shows an aspect other than stop is protected,
-- and the routes that are held for two such signals don't conflict.
pub record Safe (site : Site) (seen : Snapshot) : Type 0 where
  pub of : IsOf site seen
  pub each : (signal : SignalId) (aspect : Aspect) → Shows seen signal aspect → aspect ≢ aspects.Stop → IsProtected site seen signal aspect
  pub apart : (signal other : SignalId) (a b : RouteId) → signal ≢ other → ShowsOther seen signal → ShowsOther seen other
      → IsHeldFor seen signal a → IsHeldFor seen other b → Conflict site a b → ⊥
