-- The parts of the test whether a snapshot is safe.
use Rattle.std.specs.Prelude.{◌≡◌, ◌≢◌, ◌<◌, ℕ, List, Some, None, slice_get}
use Rattle.std.specs.List.{Contains}
use Rattle.ixl_spec.specs.sci_telegram.declared.message.Aspect.{Aspect}
use Rattle.ixl_spec.specs.sci_telegram.declared.message.Aspect.TheVariants as aspects
use Rattle.ixl_spec.specs.sci_telegram.declared.message.Side.{Side}
use Rattle.ixl_spec.specs.layout.declared.ids.PointId.{PointId}
use Rattle.ixl_spec.specs.layout.declared.ids.RouteId.{RouteId}
use Rattle.ixl_spec.specs.layout.declared.ids.SignalId.{SignalId}
use Rattle.ixl_spec.specs.layout.Entries.{Site}
use Rattle.ixl_spec.specs.control_table.Table.{Conflict}
use Rattle.simulator_event.specs.Safe.{IsProtected, Shows, ShowsOther, StandsUndriven, position_at}
use Rattle.simulator_event.specs.declared.snapshot.Held.{Held}
use Rattle.simulator_event.specs.declared.snapshot.Snapshot.{Snapshot}

abbrev pub Lies : Snapshot → PointId → Side → Type 0
Lies seen point side = slice_get seen.position.items point.0 ≡ Some (record { 0 = position_at side })

abbrev pub Rests : Snapshot → PointId → Type 0
Rests seen point = slice_get seen.driven.items point.0 ≡ Some None

abbrev pub AllStand : Snapshot → List (PointId × Side) → Type 0
AllStand seen required = (need : PointId × Side) → Contains required need → StandsUndriven seen need.0 need.1

-- a pair is of another signal, or of this route
pub record IsAllowed (signal : SignalId) (route : RouteId) (held : Held) : Type 0 where
  pub same : held.signal ≡ signal → held.route ≡ route

abbrev pub IsOnly : Snapshot → SignalId → RouteId → Type 0
IsOnly seen signal route = (held : Held) → Contains seen.held.items held → IsAllowed signal route held

-- a signal that shows this aspect is protected, unless it is stop
pub record IsShownRightly (site : Site) (seen : Snapshot) (signal : SignalId) (aspect : Aspect) : Type 0 where
  pub protected : aspect ≢ aspects.Stop → IsProtected site seen signal aspect

-- so is each of the first so many signals
abbrev pub AreShownRightly : Site → Snapshot → ℕ → Type 0
AreShownRightly site seen count =
    (signal : SignalId) (aspect : Aspect) → signal.0 < count → Shows seen signal aspect → IsShownRightly site seen signal aspect

-- two pairs may be held together
pub record MayHold (site : Site) (seen : Snapshot) (held other : Held) : Type 0 where
  pub apart : held.signal ≢ other.signal → ShowsOther seen held.signal → ShowsOther seen other.signal → Conflict site held.route other.route → ⊥

pub record IsApart (site : Site) (seen : Snapshot) (held : Held) : Type 0 where
  pub from : (other : Held) → Contains seen.held.items other → MayHold site seen held other

abbrev pub AreApart : Site → Snapshot → Type 0
AreApart site seen = (held : Held) → Contains seen.held.items held → IsApart site seen held
