-- What is always true of the nodes of a world: every node of the layout is there, and what it says are telegrams.
use Rattle.std.specs.Prelude.{◌≡◌, ℕ, ◌<◌, List, ◌++◌, length, map, Some, slice_get}
use Rattle.simulator_spec.specs.layout.Entries.{Site}
use Rattle.simulator_spec.specs.sci_telegram.Names.{IsName}
use Rattle.simulator_spec.specs.ixl_client.Client.{ClientState, PeerState}
use Rattle.simulator_spec.specs.ixl_spec.State.{IxlState}
use Rattle.simulator_spec.specs.object_host.Host.{HostState}
use Rattle.simulator_spec.specs.tds_ctl.declared.section.Section.{Section}
use Rattle.simulator_spec.specs.Nodes.{links}
use Rattle.simulator_spec.specs.State.{ClockedControllerState, WorldState}

-- the interlocking's clients, in the order of their links
abbrev pub client_states : IxlState → List ClientState
client_states ixl =
    map (λ known_signal. known_signal.client) ixl.known_signals
    ++ (map (λ known_point. known_point.client) ixl.known_points ++ map (λ detector. detector.client) ixl.detectors)

-- a client's names are names, and the version that it tells is a byte
pub record IsPeer (peer : PeerState) : Type 0 where
  pub own_name : IsName peer.own_name
  pub name : IsName peer.name
  pub version : peer.version < 256

-- and so it is with a host
pub record IsNamed {Object : Type 0} (host : HostState Object) : Type 0 where
  pub own_name : IsName host.own_name
  pub peer_name : IsName host.peer_name
  pub version : host.version < 256

-- an interlocking has a client for each controller of the layout
pub record HasClients (site : Site) (ixl : IxlState) : Type 0 where
  pub known_signals : length ixl.known_signals ≡ length site.signals
  pub known_points : length ixl.known_points ≡ length site.points
  pub detectors : length ixl.detectors ≡ length site.detectors
  pub peers : (link : ℕ) (client : ClientState) → slice_get (client_states ixl) link ≡ Some client → IsPeer client.peer

-- the controllers of a list have names
abbrev pub AreNamed : {Object : Type 0} → List (ClockedControllerState Object) → Type 0
AreNamed {Object} servers = (place : ℕ) (server : ClockedControllerState Object) → slice_get servers place ≡ Some server → IsNamed server.host

-- a detector's sections have names
abbrev pub HasSections : HostState (List Section) → Type 0
HasSections host = (place : ℕ) (section : Section) → slice_get host.object place ≡ Some section → IsName section.name

pub record IsWhole (site : Site) (world : WorldState) : Type 0 where
  pub clients : HasClients site world.interlocking.ixl
  pub connections : length world.interlocking.connections ≡ links site
  pub signals : length world.signals ≡ length site.signals
  pub points : length world.points ≡ length site.points
  pub detectors : length world.detectors ≡ length site.detectors
  pub signals_named : AreNamed world.signals
  pub points_named : AreNamed world.points
  pub detectors_named : AreNamed world.detectors
  pub sections_named : (place : ℕ) (server : ClockedControllerState (List Section)) → slice_get world.detectors place ≡ Some server → HasSections server.host
