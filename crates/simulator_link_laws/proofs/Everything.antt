-- Every event of a world, as events of its links.
use Rattle.std.proofs.Common.{◌≡◌, ℕ, List, Option, Some, None, slice_get, slice_set, refl}
use Rattle.simulator_spec.specs.layout.Entries.{Site}
use Rattle.simulator_spec.specs.sci_telegram.declared.message.Occupancy.{Occupancy}
use Rattle.simulator_spec.specs.sci_telegram.declared.message.Position.{Position}
use Rattle.simulator_spec.specs.object_host.declared.input.Input.TheVariants as inputs
use Rattle.simulator_spec.specs.object_host.declared.sense.Sense.TheVariants as sense
use Rattle.simulator_spec.specs.signal_ctl.Signal.{signal_behaviour}
use Rattle.simulator_spec.specs.point_ctl.Controlled.{point_behaviour}
use Rattle.simulator_spec.specs.tds_ctl.Controlled.{detection_behaviour}
use Rattle.simulator_spec.specs.rasta_core.EachLink.{AreTimely}
use Rattle.simulator_spec.specs.rasta_core.Links.{AreLinks, Links}
use Rattle.simulator_spec.specs.ixl_spec.declared.command.Command.{Command}
use Rattle.simulator_spec.specs.ixl_spec.Step as ixl
use Rattle.simulator_spec.specs.ixl_spec.Table.{Table}
use Rattle.simulator_spec.specs.simulator_event.declared.event.Event.{Event}
use Rattle.simulator_spec.specs.simulator_event.declared.event.Event.TheVariants as event
use Rattle.simulator_spec.specs.Happens.{coming, delivered_to, happens, interlocking_stepped, point_stepped, sensed_by, ticked_at}
use Rattle.simulator_spec.specs.Links.{AreLinksOf, names_at}
use Rattle.simulator_spec.specs.Network.{connection_of, copy_of}
use Rattle.simulator_spec.specs.Nodes.{Node, Interlocking, Signal, Point, Detector, detector_link, links, node_at, point_link}
use Rattle.simulator_spec.specs.Refusals.{refusal}
use Rattle.simulator_spec.specs.State.{WorldState}
use Rattle.simulator_link_laws.proofs.Anew.{NodeRestarts}
use Rattle.simulator_link_laws.proofs.ByKind.{stays_follows}
use Rattle.simulator_link_laws.proofs.Delivered.{CopiesAreDelivered, IntactIsTested, IsDeliverable, deliverable, delivery_may}
use Rattle.simulator_link_laws.proofs.Later.{time_follows, time_kept}
use Rattle.simulator_link_laws.proofs.Laws.{CallLaws, ClientLaws, LinkLaws, ServerLaws}
use Rattle.simulator_link_laws.proofs.Lost.{lost_follows}
use Rattle.simulator_link_laws.proofs.Parts.{StepLaws}
use Rattle.simulator_link_laws.proofs.Partners.{partners_count}
use Rattle.simulator_link_laws.proofs.Places.{client_same, server_same}
use Rattle.simulator_link_laws.proofs.NodesAnew.{restarts_follow}
use Rattle.simulator_link_laws.proofs.Station.{NodeLaws, station_follows}
use Rattle.simulator_link_laws.proofs.Steps.{HostLaws, detector_follows, point_follows, signal_follows}
use Rattle.simulator_link_laws.specs.Events.{FollowsBy, contact_events, delivery_events, events_of, interlocking_events, point_events, tick_events}
use Rattle.simulator_link_laws.specs.Whole.{IsWhole}

-- all laws that this stands on
pub record AllLaws : Type 0 where
  pub link : LinkLaws
  pub calling : CallLaws
  pub serving : ServerLaws
  pub asking : ClientLaws
  pub node : NodeLaws
  pub restarts : NodeRestarts
  pub steps : StepLaws
  pub signal : HostLaws signal_behaviour
  pub point : HostLaws point_behaviour
  pub detector : HostLaws detection_behaviour
  pub delivered : CopiesAreDelivered
  pub tested : IntactIsTested

-- what lies in the field is nothing to the links
abbrev pub moved : WorldState → List Position → List Occupancy → WorldState
moved world positions occupancies = record world { positions = positions; occupancies = occupancies }

pub moved_whole : (site : Site) (world : WorldState) (positions : List Position) (occupancies : List Occupancy) → IsWhole site world → IsWhole site (moved world positions occupancies)
moved_whole site world positions occupancies whole = record {
  clients = whole.clients;
  connections = whole.connections;
  signals = whole.signals;
  points = whole.points;
  detectors = whole.detectors;
  signals_named = whole.signals_named;
  points_named = whole.points_named;
  detectors_named = whole.detectors_named;
  sections_named = whole.sections_named;
}

pub moved_links : (site : Site) (world : WorldState) (positions : List Position) (occupancies : List Occupancy) (before : Links) → AreLinksOf site world before → AreLinksOf site (moved world positions occupancies) before
moved_links site world positions occupancies before are = record {
  time_is = are.time_is;
  sent_is = are.sent_is;
  clients = λ link id at. client_same world (moved world positions occupancies) link (before.ends link).client (before.ends link).client refl refl (are.clients link id at);
  servers = λ link id at. server_same world (moved world positions occupancies) link (before.ends link).server (before.ends link).server refl refl (are.servers link id at);
}

module _ (laws : AllLaws) (site : Site) (are_links : AreLinks (links site) (names_at site)) (table : Table) (before : Links) (timely : AreTimely (links site) (names_at site) before) where
  module _ (world : WorldState) (whole : IsWhole site world) (are : AreLinksOf site world before) where
    pub tick_follows : (at : Option Node) → FollowsBy site (tick_events site table at world) (ticked_at site table at world) before
    tick_follows None = stays_follows site world before are
    tick_follows (Some Interlocking) = station_follows laws.link laws.asking laws.node laws.steps site are_links table 0 world before whole timely are ixl.Tick tt
    tick_follows (Some (Signal place)) = signal_follows laws.link laws.calling laws.serving laws.steps.written site are_links world before whole timely are laws.signal inputs.Tick 0 place (λ below. tt)
    tick_follows (Some (Point place)) = point_follows laws.link laws.calling laws.serving laws.steps.written site are_links world before whole timely are laws.point inputs.Tick 0 place (λ below. tt)
    tick_follows (Some (Detector place)) = detector_follows laws.link laws.calling laws.serving laws.steps.written site are_links world before whole timely are laws.detector inputs.Tick 0 place (λ below. tt)

    pub delivery_follows : (bytes : List ℕ) → IsDeliverable site bytes world → (at : Option Node) → FollowsBy site (delivery_events site table bytes (connection_of (copy_of bytes world)) at world) (delivered_to site table bytes (connection_of (copy_of bytes world)) at world) before
    delivery_follows bytes is None = stays_follows site world before are
    delivery_follows bytes is (Some Interlocking) = station_follows laws.link laws.asking laws.node laws.steps site are_links table (connection_of (copy_of bytes world)) world before whole timely are (ixl.Datagram bytes)
        (λ link below. delivery_may laws.delivered laws.tested site world before bytes link are is)
    delivery_follows bytes is (Some (Signal place)) = signal_follows laws.link laws.calling laws.serving laws.steps.written site are_links world before whole timely are laws.signal (coming bytes) (connection_of (copy_of bytes world)) place
        (λ below. delivery_may laws.delivered laws.tested site world before bytes place are is)
    delivery_follows bytes is (Some (Point place)) = point_follows laws.link laws.calling laws.serving laws.steps.written site are_links world before whole timely are laws.point (coming bytes) (connection_of (copy_of bytes world)) place
        (λ below. delivery_may laws.delivered laws.tested site world before bytes (point_link site place) are is)
    delivery_follows bytes is (Some (Detector place)) = detector_follows laws.link laws.calling laws.serving laws.steps.written site are_links world before whole timely are laws.detector (coming bytes) (connection_of (copy_of bytes world)) place
        (λ below. delivery_may laws.delivered laws.tested site world before bytes (detector_link site place) are is)

    contact_follows : (occupancy : Occupancy) (reporter : Option (ℕ × ℕ)) → FollowsBy site (contact_events site reporter (λ place. inputs.Sense (sense.Section place occupancy)) world.detectors) (sensed_by site occupancy reporter world) before
    contact_follows occupancy None = stays_follows site world before are
    contact_follows occupancy (Some reporter) = detector_follows laws.link laws.calling laws.serving laws.steps.written site are_links world before whole timely are laws.detector (inputs.Sense (sense.Section reporter.1 occupancy)) 0 reporter.0 (λ below. tt)

    pub reach_follows : (place : ℕ) (position : Position) → FollowsBy site (point_events site (inputs.Sense (sense.Position position)) 0 place world) (point_stepped site (inputs.Sense (sense.Position position)) 0 place world) before
    reach_follows place position = point_follows laws.link laws.calling laws.serving laws.steps.written site are_links world before whole timely are laws.point (inputs.Sense (sense.Position position)) 0 place (λ below. tt)

    pub command_follows : (command : Command) → FollowsBy site (interlocking_events site table (ixl.Commands command) 0 world.interlocking) (interlocking_stepped site table (ixl.Commands command) world) before
    command_follows command = station_follows laws.link laws.asking laws.node laws.steps site are_links table 0 world before whole timely are (ixl.Commands command) tt

  pub event_follows : (happening : Event) (world : WorldState) → IsWhole site world → AreLinksOf site world before → refusal site happening world ≡ None → FollowsBy site (events_of site table happening world) (happens site table happening world) before
  unfolding happens refusal events_of
  event_follows (event.Request command) world whole are none = command_follows world whole are command
  event_follows (event.Occupy section occupancy) world whole are none =
      contact_follows (moved world world.positions (slice_set world.occupancies section.0 occupancy)) (moved_whole site world world.positions (slice_set world.occupancies section.0 occupancy) whole)
      (moved_links site world world.positions (slice_set world.occupancies section.0 occupancy) before are) occupancy (slice_get table.reporters section.0)
  event_follows (event.Tick node) world whole are none = tick_follows world whole are (node_at site node.0)
  event_follows (event.Time elapsed clocks) world whole are none = time_follows site elapsed clocks world before (time_kept site elapsed clocks world none) are (partners_count site)
  event_follows (event.Deliver node bytes) world whole are none = delivery_follows world whole are bytes (deliverable site node.0 bytes world none) (node_at site node.0)
  event_follows (event.Lose bytes) world whole are none = lost_follows site world before bytes are
  event_follows (event.Reach point position) world whole are none =
      reach_follows (moved world (slice_set world.positions point.0 position) world.occupancies) (moved_whole site world (slice_set world.positions point.0 position) world.occupancies whole)
      (moved_links site world (slice_set world.positions point.0 position) world.occupancies before are) point.0 position
  event_follows (event.Restart node clock first) world whole are none =
      restarts_follow laws.link laws.restarts site table (record { clock = clock; first = first }) world before whole timely are (node_at site node.0)
