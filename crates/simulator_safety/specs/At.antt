-- The links and the controllers of a station in a step of its interlocking.
use Rattle.std.specs.Prelude.{◌≡◌, ◌<◌, ℕ, List, [], ◌∷◌, Some, slice_get}
use Rattle.simulator_link_laws.specs.sci_telegram.Names.{IsName}
use Rattle.simulator_link_laws.specs.rasta_core.Clock.{settled}
use Rattle.simulator_link_laws.specs.rasta_core.Ends.{Receives, reading_of}
use Rattle.simulator_link_laws.specs.rasta_core.Events.{MayCall}
use Rattle.simulator_link_laws.specs.rasta_core.Names.{AreNames, Names}
use Rattle.simulator_link_laws.specs.rasta_core.Parameters.{greatest}
use Rattle.simulator_link_laws.specs.rasta_core.Run.{Ends}
use Rattle.simulator_link_laws.specs.rasta_core.State.{LinkState}
use Rattle.simulator_link_laws.specs.rasta_core.identity.Role.TheVariants.{Client}
use Rattle.simulator_link_laws.specs.object_host.Host.{HostState}
use Rattle.simulator_link_laws.specs.signal_ctl.Signal.{SignalState}
use Rattle.simulator_link_laws.specs.point_ctl.Drive.{PointState}
use Rattle.simulator_link_laws.specs.ixl_client.Client.{PeerState}
use Rattle.simulator_link_laws.specs.ixl_spec.State.{IxlState, KnownSignalState, KnownPointState}
use Rattle.simulator_link_laws.specs.ixl_spec.Step.{Input, Datagram}
use Rattle.simulator_machine.specs.Machine.{Machine}
use Rattle.simulator_machine.specs.Point.{Point}
use Rattle.simulator_machine.specs.Signal.{Signal}
use Rattle.simulator_link_laws.specs.simulator_move_laws.Lawful.{IsLawful}
use Rattle.simulator_link_laws.specs.simulator_move_laws.Point.{IsPointSeen}
use Rattle.simulator_link_laws.specs.simulator_move_laws.Signal.{IsSignalSeen}
use Rattle.simulator_link_laws.specs.simulator_move_laws.Calls.{Items}
use Rattle.simulator_link_laws.specs.simulator_move_laws.Sees.{Given}

-- the names of a client and of its controller are such that its telegrams can be read
pub record HasNames (peer : PeerState) : Type 0 where
  pub own : IsName peer.own_name
  pub controller : IsName peer.name

-- A link of the interlocking is the client's end of a lawful link, at this clock reading, with what was given and taken
-- there; and the datagram that comes in the step may come to it.
pub record IsClientAt (now : ℕ) (input : Input) (peer : PeerState) (link : LinkState) (items : Items) (ends : Ends) : Type 0 where
  pub names : Names
  pub are : AreNames names
  pub lawful : IsLawful names ends
  pub clock : reading_of ends.client.clock ≡ now
  pub link_is : ends.client.link ≡ settled now link
  pub given : items.given ≡ ends.client.given
  pub taken : items.taken ≡ ends.client.taken
  pub connection : ℕ
  pub comes : (bytes : List ℕ) → input ≡ Datagram bytes → MayCall names Client (Receives bytes connection) ends
  pub peer_named : HasNames peer

-- a signal's controller at the other end
pub record IsSignalAt (now : ℕ) (input : Input) (known_signal : KnownSignalState) (items : Items) (signal : Signal) : Type 0 where
  pub ends : Ends
  pub host : HostState SignalState
  pub client : IsClientAt now input known_signal.client.peer known_signal.client.link items ends
  pub seen : IsSignalSeen ends host signal

-- a point's, which tells of the point alone under its own name
pub record IsPointAt (now : ℕ) (input : Input) (known_point : KnownPointState) (items : Items) (point : Point) : Type 0 where
  pub ends : Ends
  pub host : HostState PointState
  pub client : IsClientAt now input known_point.client.peer known_point.client.link items ends
  pub seen : IsPointSeen ends host point
  pub objects : known_point.client.peer.objects ≡ host.own_name ∷ []

-- Of each signal and each point the interlocking has the client's end, and the machine sees the controller at the other.
pub record AreFarEnds (now : ℕ) (input : Input) (ixl : IxlState) (given : Given) (machine : Machine) : Type 0 where
  pub clock : now < greatest
  pub signals : (place : ℕ) (known_signal : KnownSignalState) → slice_get ixl.known_signals place ≡ Some known_signal → IsSignalAt now input known_signal (given.signals place) (machine.signals place)
  pub points : (place : ℕ) (known_point : KnownPointState) → slice_get ixl.known_points place ≡ Some known_point → IsPointAt now input known_point (given.points place) (machine.points place)
