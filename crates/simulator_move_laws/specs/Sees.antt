-- What the machine sees of an interlocking.
use Rattle.std.specs.Prelude.{◌≡◌, ℕ, true, Option, Some, None, slice_get}
use Rattle.ixl_spec.specs.rasta_core.State.{LinkState}
use Rattle.ixl_spec.specs.rasta_core.phase.Phase.TheVariants as link_phase
use Rattle.ixl_spec.specs.State.{IxlState, KnownSignalState, KnownPointState}
use Rattle.ixl_spec.specs.View.{is_holding}
use Rattle.simulator_machine.specs.Link.{Gone}
use Rattle.simulator_machine.specs.Machine.{Machine}
use Rattle.simulator_machine.specs.Point.{Point}
use Rattle.simulator_machine.specs.Signal.{Signal}
use Rattle.simulator_move_laws.specs.Calls.{Items}
use Rattle.simulator_move_laws.specs.Nodes.{KnownSignalFits, KnownPointFits, route_seen}

-- what the clients gave and took in their last connections, by the places of signals and points
pub record Given : Type 0 where
  pub signals : ℕ → Items
  pub points : ℕ → Items

-- a link has been closed since this clock reading
pub record IsClosedSince (since : ℕ) (link : LinkState) : Type 0 where
  pub closed : link.phase ≡ link_phase.Closed
  pub at : link.closed_at ≡ since

-- A signal of the machine is the interlocking's; where it has none, no controller was ever spoken to. In the hold no link
-- has been in a connection since the interlocking was made.
pub record SignalFits (now : ℕ) (ixl : IxlState) (known_signal : KnownSignalState) (items : Items) (signal : Signal) : Type 0 where
  pub fits : KnownSignalFits now known_signal items signal
  pub held : is_holding now ixl ≡ true → IsClosedSince ixl.created known_signal.client.link

abbrev pub SeesSignal : ℕ → IxlState → Option KnownSignalState → Items → Signal → Type 0
SeesSignal now ixl None items signal = signal.link.server ≡ Gone
SeesSignal now ixl (Some known_signal) items signal = SignalFits now ixl known_signal items signal

pub record PointFits (now : ℕ) (ixl : IxlState) (known_point : KnownPointState) (items : Items) (point : Point) : Type 0 where
  pub fits : KnownPointFits now known_point items point
  pub held : is_holding now ixl ≡ true → IsClosedSince ixl.created known_point.client.link

abbrev pub SeesPoint : ℕ → IxlState → Option KnownPointState → Items → Point → Type 0
SeesPoint now ixl None items point = Unit {0}
SeesPoint now ixl (Some known_point) items point = PointFits now ixl known_point items point

-- The machine's signals, points and routes are those of the interlocking at this clock reading, and so is its hold.
pub record Sees (now : ℕ) (ixl : IxlState) (given : Given) (machine : Machine) : Type 0 where
  pub signals : (place : ℕ) → SeesSignal now ixl (slice_get ixl.known_signals place) (given.signals place) (machine.signals place)
  pub points : (place : ℕ) → SeesPoint now ixl (slice_get ixl.known_points place) (given.points place) (machine.points place)
  pub routes : (number : ℕ) → machine.routes number ≡ route_seen (slice_get ixl.routes number)
  pub holding : machine.holding ≡ is_holding now ixl
