-- What the controllers of a station take over a list of events, and when that was made.
use Rattle.std.specs.Prelude.{◌≡◌, ℕ, ◌≤◌, Bool, true, List, [], ◌∷◌, Some, slice_get}
use Rattle.simulator_spec.specs.layout.Entries.{Site}
use Rattle.simulator_spec.specs.rasta_core.Calls.{receiving}
use Rattle.simulator_spec.specs.rasta_core.Clock.{settled}
use Rattle.simulator_spec.specs.rasta_core.Ends.{Sent, is_taken, reading_of}
use Rattle.simulator_spec.specs.ixl_spec.Table.{Table}
use Rattle.simulator_spec.specs.simulator_event.declared.event.Event.{Event}
use Rattle.simulator_spec.specs.simulator_event.declared.event.Event.TheVariants as event
use Rattle.simulator_spec.specs.Happens.{happens}
use Rattle.simulator_spec.specs.Network.{copy_of}
use Rattle.simulator_spec.specs.Nodes.{Node, Interlocking, Signal, Point, Detector, node_at}
use Rattle.simulator_spec.specs.Controllers.{is_inside_at}
use Rattle.simulator_spec.specs.State.{ClockedControllerState, WorldState}

-- how long a lamp shows another aspect than stop, and a point is driven, after its controller's last datagram was made, at
-- the longest: 1802 ms, in microseconds of true time
abbrev pub silence_limit : ℕ
silence_limit = 1802000

-- a controller takes bytes that come at its clock
abbrev pub takes : {Object : Type 0} → List ℕ → ClockedControllerState Object → Bool
takes bytes controller = is_taken (receiving (reading_of controller.clock) bytes (settled (reading_of controller.clock) controller.host.link)).verdict

-- so does the one at a place of a list
abbrev pub IsTakenAt : {Object : Type 0} → List ℕ → ℕ → List (ClockedControllerState Object) → Type 0
IsTakenAt {Object} bytes place controllers = (controller : ClockedControllerState Object) × (slice_get controllers place ≡ Some controller) × (takes bytes controller ≡ true)

-- so does the controller that is this node
abbrev pub IsTakenBy : Node → List ℕ → WorldState → Type 0
IsTakenBy Interlocking bytes world = ⊥
IsTakenBy (Signal place) bytes world = IsTakenAt bytes place world.signals
IsTakenBy (Point place) bytes world = IsTakenAt bytes place world.points
IsTakenBy (Detector place) bytes world = IsTakenAt bytes place world.detectors

-- In an event the controller takes no datagram that was made later than at this true time, in microseconds.
abbrev pub TakesNoneLater : Site → Node → ℕ → Event → WorldState → Type 0
TakesNoneLater site who made (event.Deliver node bytes) world =
    node_at site node.0 ≡ Some who → IsTakenBy who bytes world → (datagram : Sent) → copy_of bytes world ≡ Some datagram → datagram.at ≤ made
TakesNoneLater site who made _ world = Unit {0}

-- nor in any event of a list
abbrev pub TakesNone : Site → Table → Node → ℕ → List Event → WorldState → Type 0
TakesNone site table who made [] world = Unit {0}
TakesNone site table who made (first ∷ others) world = TakesNoneLater site who made first world × TakesNone site table who made others (happens site table first world)

-- By its clock a controller is in no connection, or it has taken no item in it.
abbrev pub IsSpent : {Object : Type 0} → ClockedControllerState Object → Type 0
IsSpent controller = is_inside_at controller.clock controller.host.link ≡ true → controller.host.link.taken ≡ 0
