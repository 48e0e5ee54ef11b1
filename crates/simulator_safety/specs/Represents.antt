-- When the machine sees a world. By this the promise of the machine is one of the world, and every event keeps it.
use Rattle.std.specs.Prelude.{◌≡◌, ◌≤◌, ℕ, List, [], ◌∷◌, length, Some, slice_get}
use Rattle.std.specs.List.{Contains}
use Rattle.simulator_link_laws.specs.sci_telegram.declared.message.Position.{Position}
use Rattle.simulator_link_laws.specs.layout.declared.entries.Point.{Point}
use Rattle.simulator_link_laws.specs.layout.declared.entries.Signal.{Signal}
use Rattle.simulator_link_laws.specs.layout.Entries.{Site}
use Rattle.simulator_link_laws.specs.control_table.Table.{telegram_version}
use Rattle.simulator_link_laws.specs.rasta_core.Ends.{EndState, reading_of}
use Rattle.simulator_link_laws.specs.rasta_core.Links.{Links, seen}
use Rattle.simulator_link_laws.specs.object_host.Host.{HostState}
use Rattle.simulator_link_laws.specs.point_ctl.Drive.{PointState}
use Rattle.simulator_link_laws.specs.signal_ctl.Signal.{SignalState}
use Rattle.simulator_link_laws.specs.ixl_spec.State.{KnownPointState}
use Rattle.simulator_link_laws.specs.ixl_spec.Table.{Table}
use Rattle.simulator_machine.specs.Chains.{MovesTo}
use Rattle.simulator_machine.specs.Invariant.{Invariant}
use Rattle.simulator_machine.specs.Machine.{Machine}
use Rattle.simulator_link_laws.specs.simulator_move_laws.Lawful.{AreLawful}
use Rattle.simulator_link_laws.specs.simulator_move_laws.Point.{IsPointSeen}
use Rattle.simulator_link_laws.specs.simulator_move_laws.Signal.{IsSignalSeen}
use Rattle.simulator_link_laws.specs.simulator_move_laws.Calls.{Items}
use Rattle.simulator_link_laws.specs.simulator_move_laws.Rows.{machine_table}
use Rattle.simulator_link_laws.specs.simulator_move_laws.Sees.{Given, Sees}
use Rattle.simulator_link_laws.specs.Whole.{IsWhole}
use Rattle.simulator_link_laws.specs.simulator_spec.Links.{AreLinksOf, names_at}
use Rattle.simulator_link_laws.specs.simulator_spec.Nodes.{links, point_link}
use Rattle.simulator_link_laws.specs.simulator_spec.Refusals.{clock_limit}
use Rattle.simulator_link_laws.specs.simulator_spec.State.{ClockedControllerState, ClockedInterlockingState, WorldState}
use Rattle.simulator_link_laws.specs.simulator_event.Safe.{IsThere}
use Rattle.simulator_link_laws.specs.simulator_event.declared.snapshot.Held.{Held}
use Rattle.simulator_safety.specs.Seen.{AreHeldPairs}

-- ---- the links

-- A network is that of a world: its ends and datagrams are the world's, the link's theorem holds of each of its links, and
-- every node is there.
pub record IsNetworkOf (site : Site) (world : WorldState) (network : Links) : Type 0 where
  pub are : AreLinksOf site world network
  pub lawful : AreLawful (links site) (names_at site) network
  pub whole : IsWhole site world

-- what an end gave and took in its last connection
abbrev pub items_of : EndState → Items
items_of end = record { given = end.given; taken = end.taken }

-- what the interlocking's clients of signals and points did
abbrev pub given_in : Site → Links → Given
given_in site network = record {
  signals = λ place. items_of (network.ends place).client;
  points = λ place. items_of (network.ends (point_link site place)).client;
}

-- ---- the controllers

-- A host is that of a controller of the layout: it has the controller's name, and speaks with the station in its version.
pub record IsHostOf {Object : Type 0} (site : Site) (name : List ℕ) (host : HostState Object) : Type 0 where
  pub own_name : host.own_name ≡ name
  pub peer_name : host.peer_name ≡ site.station.name
  pub version : host.version ≡ telegram_version site

-- The machine's signals are those in their controllers, at the ends of their links.
pub record AreSignalsSeen (site : Site) (network : Links) (servers : List (ClockedControllerState SignalState)) (machine : Machine) : Type 0 where
  pub each : (place : ℕ) (server : ClockedControllerState SignalState) → slice_get servers place ≡ Some server
      → IsSignalSeen (seen place network) server.host (machine.signals place)
  pub hosts : (place : ℕ) (entry : Signal) (server : ClockedControllerState SignalState) → slice_get site.signals place ≡ Some entry → slice_get servers place ≡ Some server
      → IsHostOf site entry.name server.host

-- So are its points, and each stands where its controller senses it.
pub record ArePointsSeen (site : Site) (network : Links) (servers : List (ClockedControllerState PointState)) (positions : List Position) (machine : Machine) : Type 0 where
  pub each : (place : ℕ) (server : ClockedControllerState PointState) → slice_get servers place ≡ Some server
      → IsPointSeen (seen (point_link site place) network) server.host (machine.points place)
  pub hosts : (place : ℕ) (entry : Point) (server : ClockedControllerState PointState) → slice_get site.points place ≡ Some entry → slice_get servers place ≡ Some server
      → IsHostOf site entry.name server.host
  pub sensed : (place : ℕ) (server : ClockedControllerState PointState) (position : Position) → slice_get servers place ≡ Some server → slice_get positions place ≡ Some position
      → server.host.object.sensed ≡ position
  pub count : length positions ≡ length site.points

-- ---- the interlocking

-- The machine sees the interlocking at its clock, with what its clients gave and took; it has as many routes as the table,
-- and its clients of points hear of one point each, under the name of its controller.
pub record IsInterlockingSeen (site : Site) (table : Table) (network : Links) (station : ClockedInterlockingState) (machine : Machine) : Type 0 where
  pub sees : Sees (reading_of station.clock) station.ixl (given_in site network) machine
  pub routes : length station.ixl.routes ≡ length table.rows
  pub objects : (place : ℕ) (entry : Point) (known_point : KnownPointState) → slice_get site.points place ≡ Some entry → slice_get station.ixl.known_points place ≡ Some known_point
      → known_point.client.peer.objects ≡ entry.name ∷ []
  pub clock : station.clock ≤ clock_limit

-- The frozen pairs are the frozen routes of the machine, each with its signal, and name what is there.
pub record AreFrozen (site : Site) (table : Table) (frozen : List Held) (machine : Machine) : Type 0 where
  pub pairs : AreHeldPairs (machine_table table) frozen machine.frozen
  pub there : (pair : Held) → Contains frozen pair → IsThere site pair

-- ---- all of it

-- The machine, which keeps its invariant, sees a world: the controllers, the interlocking, and the frozen routes.
pub record Represents (site : Site) (table : Table) (world : WorldState) (machine : Machine) : Type 0 where
  pub network : Links
  pub linked : IsNetworkOf site world network
  pub signals : AreSignalsSeen site network world.signals machine
  pub points : ArePointsSeen site network world.points world.positions machine
  pub station : IsInterlockingSeen site table network world.interlocking machine
  pub frozen : AreFrozen site table world.frozen machine
  pub invariant : Invariant (machine_table table) machine

-- Moves lead the machine to one that sees this world.
pub record RepresentsAfter (site : Site) (table : Table) (old : Machine) (world : WorldState) : Type 0 where
  pub machine : Machine
  pub moves : MovesTo (machine_table table) old machine
  pub represented : Represents site table world machine
