-- A step of an interlocking so far: the machine sees the interlocking as it is now, and each link is what the step's calls
-- made of it.
use Rattle.std.specs.Prelude.{◌≡◌, ℕ, true, List, length, Option, Some, None, slice_get}
use Rattle.ixl_spec.specs.rasta_core.Clock.{settled}
use Rattle.ixl_spec.specs.ixl_client.Made.{link_after}
use Rattle.ixl_spec.specs.ixl_client.ClientSoFar.{LinkCall}
use Rattle.ixl_spec.specs.StepSoFar.{Signal, Point, StepSoFar, begun_with, over}
use Rattle.ixl_spec.specs.Rules.{count, ruled}
use Rattle.ixl_spec.specs.Table.{Table as Rows}
use Rattle.ixl_spec.specs.rasta_core.Outbox.{OutboxState}
use Rattle.ixl_spec.specs.rasta_pdu.declared.key.Key.{Key}
use Rattle.ixl_spec.specs.State.{IxlState, KnownSignalState, KnownPointState}
use Rattle.ixl_spec.specs.Step.{Input, all_clocked, given as given_input, watching}
use Rattle.ixl_spec.specs.View.{is_holding}
use Rattle.simulator_machine.specs.Chains.{MovesTo}
use Rattle.simulator_machine.specs.Machine.{Machine}
use Rattle.simulator_machine.specs.Point.{Point as MachinePoint}
use Rattle.simulator_machine.specs.Signal.{Signal as MachineSignal}
use Rattle.simulator_machine.specs.Table.{Table}
use Rattle.simulator_move_laws.specs.Calls.{Items, calls_at, items_after}
use Rattle.simulator_move_laws.specs.Facts.{AreCallsIn}
use Rattle.simulator_move_laws.specs.Nodes.{KnownSignalFits, KnownPointFits, route_seen}
use Rattle.simulator_move_laws.specs.Sees.{Given, IsClosedSince}
use Rattle.simulator_move_laws.specs.Step.{PointStays, SignalStays}
use Rattle.simulator_move_laws.specs.Totals.{KeepsAspects, KeepsMoves}

-- A step up to its rules: the clock, the input, what routes with authority watch, and the six rules. On a tick what each
-- link does by itself comes after them.
abbrev pub until_ticked : ℕ → Rows → Key → Input → IxlState → OutboxState → StepSoFar
until_ticked now rows key input ixl outbox =
    ruled now rows (over (watching rows) (count rows) (given_input now rows key input (begun_with (all_clocked now ixl) outbox)))

-- from this interlocking and this machine on, at this clock and with this input
module _ (now : ℕ) (input : Input) (table : Table) (ixl : IxlState) (given : Given) (machine : Machine) where
  -- a signal so far
  pub record KnownSignalDuring (first : KnownSignalState) (before : Items) (calls : List LinkCall) (known_signal : KnownSignalState) (old new : MachineSignal) : Type 0 where
    pub fits : KnownSignalFits now known_signal (items_after now calls (settled now first.client.link) before) new
    pub held : is_holding now ixl ≡ true → IsClosedSince ixl.created known_signal.client.link
    pub are : AreCallsIn input first.client.peer calls
    pub made : known_signal.client.link ≡ link_after now calls (settled now first.client.link)
    pub same : known_signal.client.peer ≡ first.client.peer
    pub stays : SignalStays old new
    pub totals : KeepsAspects first.client.peer before (items_after now calls (settled now first.client.link) before) old new

  abbrev pub KnownSignalSoFar : Option KnownSignalState → Items → List LinkCall → Option KnownSignalState → MachineSignal → MachineSignal → Type 0
  KnownSignalSoFar None before calls None old new = new ≡ old
  KnownSignalSoFar None before calls (Some known_signal) old new = ⊥
  KnownSignalSoFar (Some first) before calls None old new = ⊥
  KnownSignalSoFar (Some first) before calls (Some known_signal) old new = KnownSignalDuring first before calls known_signal old new

  pub record KnownPointDuring (first : KnownPointState) (before : Items) (calls : List LinkCall) (known_point : KnownPointState) (old new : MachinePoint) : Type 0 where
    pub fits : KnownPointFits now known_point (items_after now calls (settled now first.client.link) before) new
    pub held : is_holding now ixl ≡ true → IsClosedSince ixl.created known_point.client.link
    pub are : AreCallsIn input first.client.peer calls
    pub made : known_point.client.link ≡ link_after now calls (settled now first.client.link)
    pub same : known_point.client.peer ≡ first.client.peer
    pub stays : PointStays old new
    pub totals : KeepsMoves first.client.peer before (items_after now calls (settled now first.client.link) before) old new

  abbrev pub KnownPointSoFar : Option KnownPointState → Items → List LinkCall → Option KnownPointState → MachinePoint → MachinePoint → Type 0
  KnownPointSoFar None before calls None old new = new ≡ old
  KnownPointSoFar None before calls (Some known_point) old new = ⊥
  KnownPointSoFar (Some first) before calls None old new = ⊥
  KnownPointSoFar (Some first) before calls (Some known_point) old new = KnownPointDuring first before calls known_point old new

  pub record During (part : StepSoFar) (new : Machine) : Type 0 where
    pub signals : (place : ℕ) → KnownSignalSoFar (slice_get ixl.known_signals place) (given.signals place) (calls_at (Signal place) part.calls) (slice_get part.ixl.known_signals place) (machine.signals place) (new.signals place)
    pub points : (place : ℕ) → KnownPointSoFar (slice_get ixl.known_points place) (given.points place) (calls_at (Point place) part.calls) (slice_get part.ixl.known_points place) (machine.points place) (new.points place)
    pub routes : (number : ℕ) → new.routes number ≡ route_seen (slice_get part.ixl.routes number)
    pub count : length part.ixl.routes ≡ length ixl.routes
    pub created : part.ixl.created ≡ ixl.created
    pub holding : new.holding ≡ is_holding now ixl
    pub frozen : new.frozen ≡ machine.frozen
    pub moves : MovesTo table machine new

  -- a part of a step leads on
  abbrev pub Leads : StepSoFar → Type 0
  Leads part = (new : Machine) × During part new
