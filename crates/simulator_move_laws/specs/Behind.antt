-- What is so after a whole step of an interlocking: the machine sees the interlocking as it is then, and each link is what
-- the step's calls made of it.
use Rattle.std.specs.Prelude.{◌≡◌, ◌⊎◌, ℕ, true, List, [], ◌∷◌, ◌++◌, length, Option, Some, None, slice_get}
use Rattle.ixl_spec.specs.rasta_core.Clock.{settled}
use Rattle.ixl_spec.specs.ixl_client.Client.{PeerState}
use Rattle.ixl_spec.specs.ixl_client.Made.{link_after}
use Rattle.ixl_spec.specs.ixl_client.ClientSoFar.{LinkCall, Opens}
use Rattle.ixl_spec.specs.StepSoFar.{Node, StepSoFar, Point, Signal}
use Rattle.ixl_spec.specs.State.{IxlState, KnownSignalState, KnownPointState}
use Rattle.ixl_spec.specs.Step.{Input, Tick}
use Rattle.ixl_spec.specs.View.{is_holding}
use Rattle.simulator_machine.specs.Chains.{MovesTo}
use Rattle.simulator_machine.specs.Machine.{Machine}
use Rattle.simulator_machine.specs.Point.{Point as MachinePoint}
use Rattle.simulator_machine.specs.Signal.{Signal as MachineSignal}
use Rattle.simulator_machine.specs.Table.{Table}
use Rattle.simulator_move_laws.specs.Calls.{Items, calls_at, has_begun, items_after}
use Rattle.simulator_move_laws.specs.Facts.{AreCallsIn}
use Rattle.simulator_move_laws.specs.Nodes.{KnownSignalFits, KnownPointFits, route_seen}
use Rattle.simulator_move_laws.specs.Sees.{Given, IsClosedSince}
use Rattle.simulator_move_laws.specs.Step.{PointIsLeft, SignalIsLeft}
use Rattle.simulator_move_laws.specs.Totals.{KeepsAspects, KeepsMoves}

-- The calls that a step with this input makes of one link: a tick ends with the one that opens it where it is down.
abbrev pub AreCallsOf : Input → PeerState → List LinkCall → Type 0
AreCallsOf input peer calls =
    AreCallsIn input peer calls
    ⊎ ((before : List LinkCall) × AreCallsIn input peer before × (calls ≡ before ++ Opens ∷ []) × (input ≡ Tick))

-- ---- what the clients gave and took

abbrev pub known_signal_items : ℕ → List LinkCall → Option KnownSignalState → Items → Items
known_signal_items now calls None items = items
known_signal_items now calls (Some known_signal) items = items_after now calls (settled now known_signal.client.link) items

abbrev pub known_point_items : ℕ → List LinkCall → Option KnownPointState → Items → Items
known_point_items now calls None items = items
known_point_items now calls (Some known_point) items = items_after now calls (settled now known_point.client.link) items

-- in their last connections, after the calls of a step
abbrev pub given_behind : ℕ → IxlState → List (Node × LinkCall) → Given → Given
given_behind now ixl calls given = record {
  signals = λ place. known_signal_items now (calls_at (Signal place) calls) (slice_get ixl.known_signals place) (given.signals place);
  points = λ place. known_point_items now (calls_at (Point place) calls) (slice_get ixl.known_points place) (given.points place);
}

-- ---- the step

-- from this interlocking and this machine on, at this clock and with this input
module _ (now : ℕ) (input : Input) (table : Table) (ixl : IxlState) (given : Given) (machine : Machine) where
  -- a signal after the step
  pub record KnownSignalBehind (first : KnownSignalState) (before : Items) (calls : List LinkCall) (known_signal : KnownSignalState) (old new : MachineSignal) : Type 0 where
    pub fits : KnownSignalFits now known_signal (items_after now calls (settled now first.client.link) before) new
    pub held : is_holding now ixl ≡ true → IsClosedSince ixl.created known_signal.client.link
    pub are : AreCallsOf input first.client.peer calls
    pub made : known_signal.client.link ≡ link_after now calls (settled now first.client.link)
    pub same : known_signal.client.peer ≡ first.client.peer
    pub left : SignalIsLeft (has_begun now calls (settled now first.client.link)) old new
    pub totals : KeepsAspects first.client.peer before (items_after now calls (settled now first.client.link) before) old new

  abbrev pub KnownSignalIsBehind : Option KnownSignalState → Items → List LinkCall → Option KnownSignalState → MachineSignal → MachineSignal → Type 0
  KnownSignalIsBehind None before calls None old new = new ≡ old
  KnownSignalIsBehind None before calls (Some known_signal) old new = ⊥
  KnownSignalIsBehind (Some first) before calls None old new = ⊥
  KnownSignalIsBehind (Some first) before calls (Some known_signal) old new = KnownSignalBehind first before calls known_signal old new

  -- and a point
  pub record KnownPointBehind (first : KnownPointState) (before : Items) (calls : List LinkCall) (known_point : KnownPointState) (old new : MachinePoint) : Type 0 where
    pub fits : KnownPointFits now known_point (items_after now calls (settled now first.client.link) before) new
    pub held : is_holding now ixl ≡ true → IsClosedSince ixl.created known_point.client.link
    pub are : AreCallsOf input first.client.peer calls
    pub made : known_point.client.link ≡ link_after now calls (settled now first.client.link)
    pub same : known_point.client.peer ≡ first.client.peer
    pub left : PointIsLeft (has_begun now calls (settled now first.client.link)) old new
    pub totals : KeepsMoves first.client.peer before (items_after now calls (settled now first.client.link) before) old new

  abbrev pub KnownPointIsBehind : Option KnownPointState → Items → List LinkCall → Option KnownPointState → MachinePoint → MachinePoint → Type 0
  KnownPointIsBehind None before calls None old new = new ≡ old
  KnownPointIsBehind None before calls (Some known_point) old new = ⊥
  KnownPointIsBehind (Some first) before calls None old new = ⊥
  KnownPointIsBehind (Some first) before calls (Some known_point) old new = KnownPointBehind first before calls known_point old new

  pub record Behind (part : StepSoFar) (new : Machine) : Type 0 where
    pub signals : (place : ℕ) → KnownSignalIsBehind (slice_get ixl.known_signals place) (given.signals place) (calls_at (Signal place) part.calls) (slice_get part.ixl.known_signals place) (machine.signals place) (new.signals place)
    pub points : (place : ℕ) → KnownPointIsBehind (slice_get ixl.known_points place) (given.points place) (calls_at (Point place) part.calls) (slice_get part.ixl.known_points place) (machine.points place) (new.points place)
    pub routes : (number : ℕ) → new.routes number ≡ route_seen (slice_get part.ixl.routes number)
    pub count : length part.ixl.routes ≡ length ixl.routes
    pub created : part.ixl.created ≡ ixl.created
    pub holding : new.holding ≡ is_holding now ixl
    pub frozen : new.frozen ≡ machine.frozen
    pub moves : MovesTo table machine new

  -- a whole step leads to this
  abbrev pub LeadsBehind : StepSoFar → Type 0
  LeadsBehind part = (new : Machine) × Behind part new
