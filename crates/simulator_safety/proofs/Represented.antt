-- A represented world is seen as its promise needs it.
use Rattle.std.proofs.Common.{◌≡◌, ◌∙◌, ℕ, ◌<◌, List, length, Some, sym, ap, subst}
use Rattle.std.specs.Prelude.{◌≢◌, true, slice_get}
use Rattle.std.specs.List.{All}
use Rattle.simulator_link_laws.specs.sci_telegram.declared.message.Aspect.TheVariants as aspects
use Rattle.simulator_link_laws.specs.sci_telegram.declared.message.Position.{Position}
use Rattle.simulator_link_laws.specs.sci_telegram.declared.message.Side.{Side}
use Rattle.simulator_link_laws.specs.layout.Entries.{Site}
use Rattle.simulator_link_laws.specs.layout.Station.{IsStation}
use Rattle.simulator_link_laws.specs.rasta_core.Ends.{reading_of}
use Rattle.simulator_link_laws.specs.rasta_core.Links.{Links, seen}
use Rattle.simulator_link_laws.specs.rasta_core.Names.{Names}
use Rattle.simulator_link_laws.specs.rasta_core.Run.{Ends}
use Rattle.simulator_link_laws.specs.object_host.Host.{HostState}
use Rattle.simulator_link_laws.specs.point_ctl.Drive.{PointState, drives}
use Rattle.simulator_link_laws.specs.signal_ctl.Lamp.{aspect_shown}
use Rattle.simulator_link_laws.specs.signal_ctl.Signal.{SignalState}
use Rattle.simulator_link_laws.specs.ixl_spec.Table.{Row, Table}
use Rattle.simulator_link_laws.specs.ixl_spec.View.{is_holding}
use Rattle.ixl_table.specs.Table.{IsTableOf}
use Rattle.simulator_machine.specs.Invariant.{Invariant}
use Rattle.simulator_machine.specs.Machine.{Machine, is_held}
use Rattle.simulator_machine.specs.Point.{Point as MachinePoint}
use Rattle.simulator_machine.specs.Signal.{Signal as MachineSignal, shown}
use Rattle.simulator_link_laws.specs.simulator_move_laws.Items.{aspect_seen, position_seen}
use Rattle.simulator_link_laws.specs.simulator_move_laws.Lawful.{AreLawful, IsLawful}
use Rattle.simulator_link_laws.specs.simulator_move_laws.Ends.{AreFit}
use Rattle.simulator_link_laws.specs.simulator_move_laws.Point.{IsPointSeen}
use Rattle.simulator_link_laws.specs.simulator_move_laws.Signal.{IsSignalSeen}
use Rattle.simulator_link_laws.specs.simulator_move_laws.Nodes.{route_seen}
use Rattle.simulator_link_laws.specs.simulator_move_laws.Rows.{machine_table}
use Rattle.simulator_link_laws.specs.Nodes.{IsEndOfServer}
use Rattle.simulator_link_laws.specs.Whole.{IsWhole}
use Rattle.simulator_link_laws.specs.simulator_spec.Links.{AreLinksOf, names_at}
use Rattle.simulator_link_laws.specs.simulator_spec.Nodes.{links, point_link}
use Rattle.simulator_link_laws.specs.simulator_spec.Refusals.{driven_by}
use Rattle.simulator_link_laws.specs.simulator_spec.Seen.{shown_by}
use Rattle.simulator_link_laws.specs.simulator_spec.State.{ClockedControllerState, ClockedInterlockingState, WorldState}
use Rattle.simulator_link_laws.specs.simulator_spec.Interlocking.{held_of}
use Rattle.simulator_link_laws.specs.simulator_event.declared.snapshot.Held.{Held}
use Rattle.simulator_safety.specs.Represents.{Represents}
use Rattle.simulator_safety.specs.Seen.{AreHeldPairs, IsSeen}
use Rattle.simulator_safety.proofs.WorldLists.{get_below, get_inside}
use Rattle.simulator_safety.proofs.There.{entries_there, held_there}

-- the laws that this stands on
pub record SeeingLaws : Type 0 where
  pub signal_end : (site : Site) (world : WorldState) (network : Links) → IsWhole site world → AreLinksOf site world network → (place : ℕ) (server : ClockedControllerState SignalState)
      → slice_get world.signals place ≡ Some server → (place < links site) × IsEndOfServer server (network.ends place).server
  pub point_end : (site : Site) (world : WorldState) (network : Links) → IsWhole site world → AreLinksOf site world network → (place : ℕ) (server : ClockedControllerState PointState)
      → slice_get world.points place ≡ Some server → (point_link site place < links site) × IsEndOfServer server (network.ends (point_link site place)).server
  pub each : (count : ℕ) (names : ℕ → Names) (network : Links) → AreLawful count names network → (link : ℕ) → link < count → IsLawful (names link) (seen link network)
  pub fit : (names : Names) (ends : Ends) → IsLawful names ends → AreFit ends
  pub shows : (ends : Ends) (host : HostState SignalState) (signal : MachineSignal) → AreFit ends → IsSignalSeen ends host signal
      → aspect_shown host.object.lamp (reading_of ends.server.clock) ≢ aspects.Stop → shown signal ≡ aspect_seen (aspect_shown host.object.lamp (reading_of ends.server.clock))
  pub driven : (ends : Ends) (host : HostState PointState) (point : MachinePoint) → IsPointSeen ends host point → (side : Side)
      → drives (reading_of ends.server.clock) host.object ≡ Some side → point.driven ≡ true
  pub held : (table : Table) (station : ClockedInterlockingState) (frozen : List Held) (machine : Machine) → Invariant (machine_table table) machine
      → machine.holding ≡ is_holding (reading_of station.clock) station.ixl → ((route : ℕ) → machine.routes route ≡ route_seen (slice_get station.ixl.routes route))
      → length station.ixl.routes ≡ length table.rows → All (λ (row : Row). row.entry < length station.ixl.known_signals) table.rows
      → AreHeldPairs (machine_table table) frozen machine.frozen → AreHeldPairs (machine_table table) (held_of table station frozen) (is_held machine)

module _ (laws : SeeingLaws) (site : Site) (table : Table) (world : WorldState) (machine : Machine) (station : IsStation site) (is : IsTableOf site table) (represented : Represents site table world machine) where
  abbrev network : Links
  network = represented.network

  shows : (place : ℕ) (server : ClockedControllerState SignalState) → slice_get world.signals place ≡ Some server → shown_by server ≢ aspects.Stop → shown (machine.signals place) ≡ aspect_seen (shown_by server)
  shows place server at other =
      let end = laws.signal_end site world network represented.linked.whole represented.linked.are place server at in
      let fit : AreFit (seen place network) = laws.fit (names_at site place) (seen place network) (laws.each (links site) (names_at site) network represented.linked.lawful place end.0)
      in subst (λ clock. aspect_shown server.host.object.lamp (reading_of clock) ≢ aspects.Stop → shown (machine.signals place) ≡ aspect_seen (aspect_shown server.host.object.lamp (reading_of clock)))
      end.1.clock_is (laws.shows (seen place network) server.host (machine.signals place) fit (represented.signals.each place server at)) other

  stands : (place : ℕ) (position : Position) → slice_get world.positions place ≡ Some position → (machine.points place).position ≡ position_seen position
  stands place position at =
      let within : place < length world.points = subst (λ n. place < n) (represented.points.count ∙ sym represented.linked.whole.points) (get_inside world.positions place position at) in
      let server = get_below world.points place within
      in (represented.points.each place server.0 server.1).position ∙ ap position_seen (represented.points.sensed place server.0 position server.1 at)

  driven : (place : ℕ) (server : ClockedControllerState PointState) (side : Side) → slice_get world.points place ≡ Some server → driven_by server ≡ Some side → (machine.points place).driven ≡ true
  driven place server side at drives_it =
      let end = laws.point_end site world network represented.linked.whole represented.linked.are place server at
      in laws.driven (seen (point_link site place) network) server.host (machine.points place) (represented.points.each place server at) side
      (ap (λ clock. drives (reading_of clock) server.host.object) end.1.clock_is ∙ drives_it)

  known_signals : length world.interlocking.ixl.known_signals ≡ length site.signals
  known_signals = represented.linked.whole.clients.known_signals

  pub held : AreHeldPairs (machine_table table) (held_of table world.interlocking world.frozen) (is_held machine)
  held = laws.held table world.interlocking world.frozen machine represented.invariant represented.station.sees.holding represented.station.sees.routes represented.station.routes
      (entries_there site table station is (length world.interlocking.ixl.known_signals) known_signals) represented.frozen.pairs

  pub represented_is_seen : IsSeen site table world machine
  represented_is_seen = record {
    shows = shows;
    stands = stands;
    driven = driven;
    held = held;
    there = held_there site table station is world.interlocking world.frozen represented.frozen.there;
    signals = represented.linked.whole.signals;
    positions = represented.points.count;
    points = represented.linked.whole.points;
  }
