-- Every event keeps the nodes of a world whole.
use Rattle.std.proofs.Common.{◌≡◌, ℕ, ◌+◌, ◌<◌, List, ◌++◌, length, map, Option, Some, None, slice_get, slice_set, sym, ap, subst, ◌∙◌, arith}
use Rattle.std.proofs.lemmas.Option.{same_Some}
use Rattle.simulator_spec.specs.layout.Entries.{Site}
use Rattle.simulator_spec.specs.layout.Station.{IsStation}
use Rattle.simulator_spec.specs.sci_telegram.declared.message.Occupancy.{Occupancy}
use Rattle.simulator_spec.specs.object_host.declared.input.Input.TheVariants as inputs
use Rattle.simulator_spec.specs.object_host.declared.sense.Sense.TheVariants as sense
use Rattle.simulator_spec.specs.rasta_core.EachLink.{AreTimely}
use Rattle.simulator_spec.specs.rasta_core.Ends.{reading_of}
use Rattle.simulator_spec.specs.rasta_core.Links.{AreLinks, Links}
use Rattle.simulator_spec.specs.ixl_client.Client.{ClientState}
use Rattle.simulator_spec.specs.ixl_spec.State.{KnownDetectorState, IxlState, KnownSignalState, KnownPointState}
use Rattle.simulator_spec.specs.ixl_spec.Step as ixl
use Rattle.simulator_spec.specs.ixl_spec.Table.{Table}
use Rattle.simulator_spec.specs.simulator_event.declared.event.Event.{Event}
use Rattle.simulator_spec.specs.simulator_event.declared.event.Event.TheVariants as event
use Rattle.simulator_spec.specs.Happens.{coming, delivered_to, happens, interlocking_stepped, sensed_by, ticked_at}
use Rattle.simulator_spec.specs.Links.{AreLinksOf, names_at}
use Rattle.simulator_spec.specs.Network.{connection_of, copy_of}
use Rattle.simulator_spec.specs.Nodes.{Node, Interlocking, Signal, Point, Detector, links, node_at}
use Rattle.simulator_spec.specs.Refusals.{refusal}
use Rattle.simulator_spec.specs.State.{WorldState}
use Rattle.simulator_link_laws.proofs.Delivered.{IsDeliverable, deliverable, delivery_may}
use Rattle.simulator_link_laws.proofs.Everything.{AllLaws, moved, moved_links, moved_whole}
use Rattle.simulator_link_laws.proofs.KeptWhole.{detector_keeps, point_keeps, signal_keeps, time_keeps}
use Rattle.simulator_link_laws.proofs.Lists.{length_joined, length_map, within_some}
use Rattle.simulator_link_laws.proofs.Parts.{MayComeIn}
use Rattle.simulator_link_laws.proofs.Reached.{IsManned}
use Rattle.simulator_link_laws.proofs.Station.{reached}
use Rattle.simulator_link_laws.proofs.StationWhole.{restart_keeps}
use Rattle.simulator_link_laws.proofs.Names.{station_names}
use Rattle.simulator_link_laws.specs.Whole.{IsPeer, IsWhole, client_states}

states_count : (site : Site) (ixl : IxlState) → IsManned site ixl → length (client_states ixl) ≡ links site
states_count site ixl manned = length_joined known_signals (known_points ++ detectors) ∙ ap (λ n. length known_signals + n) (length_joined known_points detectors)
    ∙ sums (length known_signals) (length known_points) (length detectors) (length site.signals) (length site.points) (length site.detectors)
    (length_map (λ (known_signal : KnownSignalState). known_signal.client) ixl.known_signals ∙ manned.known_signals)
    (length_map (λ (known_point : KnownPointState). known_point.client) ixl.known_points ∙ manned.known_points)
    (length_map (λ (detector : KnownDetectorState). detector.client) ixl.detectors ∙ manned.detectors)
  where
    known_signals : List ClientState
    known_signals = map (λ (known_signal : KnownSignalState). known_signal.client) ixl.known_signals

    known_points : List ClientState
    known_points = map (λ (known_point : KnownPointState). known_point.client) ixl.known_points

    detectors : List ClientState
    detectors = map (λ (detector : KnownDetectorState). detector.client) ixl.detectors

    sums : (a b c d e f : ℕ) → a ≡ d → b ≡ e → c ≡ f → a + (b + c) ≡ d + e + f
    sums a b c d e f p q r = omega arith

module _ (laws : AllLaws) (site : Site) (are_links : AreLinks (links site) (names_at site)) (station : IsStation site) (table : Table) (before : Links)
    (timely : AreTimely (links site) (names_at site) before) where
  module _ (world : WorldState) (whole : IsWhole site world) (are : AreLinksOf site world before) where
    station_keeps : (connection : ℕ) (input : ixl.Input)
        → MayComeIn laws.link laws.asking site are_links world.time connection (reading_of world.interlocking.clock) before (record { connections = world.interlocking.connections; sent = world.sent }) laws.steps table input
        → IsWhole site (interlocking_stepped site table input world)
    unfolding interlocking_stepped
    station_keeps connection input may =
        let on = reached laws.link laws.asking laws.node laws.steps site are_links table connection world before whole timely are input may
        in record {
          clients = record {
            known_signals = on.manned.known_signals;
            known_points = on.manned.known_points;
            detectors = on.manned.detectors;
            peers = λ link client at.
                let is = on.clients link (subst (λ n. link < n) (states_count site (interlocking_stepped site table input world).interlocking.ixl on.manned) (within_some (client_states (interlocking_stepped site table input world).interlocking.ixl) link client at))
                in subst (λ (c : ClientState). IsPeer c.peer) (same_Some is.client client (sym is.there ∙ at)) is.peer;
          };
          connections = on.tells.count;
          signals = whole.signals;
          points = whole.points;
          detectors = whole.detectors;
          signals_named = whole.signals_named;
          points_named = whole.points_named;
          detectors_named = whole.detectors_named;
          sections_named = whole.sections_named;
        }

    tick_keeps : (at : Option Node) → IsWhole site (ticked_at site table at world)
    tick_keeps None = whole
    tick_keeps (Some Interlocking) = station_keeps 0 ixl.Tick tt
    tick_keeps (Some (Signal place)) = signal_keeps laws.steps.written site world whole inputs.Tick 0 place
    tick_keeps (Some (Point place)) = point_keeps laws.steps.written site world whole inputs.Tick 0 place
    tick_keeps (Some (Detector place)) = detector_keeps laws.steps.written site world whole inputs.Tick 0 place

    delivery_keeps : (bytes : List ℕ) → IsDeliverable site bytes world → (at : Option Node) → IsWhole site (delivered_to site table bytes (connection_of (copy_of bytes world)) at world)
    delivery_keeps bytes is None = whole
    delivery_keeps bytes is (Some Interlocking) = station_keeps (connection_of (copy_of bytes world)) (ixl.Datagram bytes) (λ link below. delivery_may laws.delivered laws.tested site world before bytes link are is)
    delivery_keeps bytes is (Some (Signal place)) = signal_keeps laws.steps.written site world whole (coming bytes) (connection_of (copy_of bytes world)) place
    delivery_keeps bytes is (Some (Point place)) = point_keeps laws.steps.written site world whole (coming bytes) (connection_of (copy_of bytes world)) place
    delivery_keeps bytes is (Some (Detector place)) = detector_keeps laws.steps.written site world whole (coming bytes) (connection_of (copy_of bytes world)) place

    contact_keeps : (occupancy : Occupancy) (reporter : Option (ℕ × ℕ)) → IsWhole site (sensed_by site occupancy reporter world)
    contact_keeps occupancy None = whole
    contact_keeps occupancy (Some reporter) = detector_keeps laws.steps.written site world whole (inputs.Sense (sense.Section reporter.1 occupancy)) 0 reporter.0

    lost_keeps : (sent : _) → IsWhole site (record world { sent = sent })
    lost_keeps sent = record {
      clients = whole.clients;
      connections = whole.connections;
      signals = whole.signals;
      points = whole.points;
      detectors = whole.detectors;
      signals_named = whole.signals_named;
      points_named = whole.points_named;
      detectors_named = whole.detectors_named;
      sections_named = whole.sections_named;
    }

  pub event_keeps : (happening : Event) (world : WorldState) → IsWhole site world → AreLinksOf site world before → refusal site happening world ≡ None → IsWhole site (happens site table happening world)
  unfolding happens refusal
  event_keeps (event.Request command) world whole are none = station_keeps world whole are 0 (ixl.Commands command) tt
  event_keeps (event.Occupy section occupancy) world whole are none =
      contact_keeps (moved world world.positions (slice_set world.occupancies section.0 occupancy)) (moved_whole site world world.positions (slice_set world.occupancies section.0 occupancy) whole)
      (moved_links site world world.positions (slice_set world.occupancies section.0 occupancy) before are) occupancy (slice_get table.reporters section.0)
  event_keeps (event.Tick node) world whole are none = tick_keeps world whole are (node_at site node.0)
  event_keeps (event.Time elapsed clocks) world whole are none = time_keeps site elapsed clocks world whole
  event_keeps (event.Deliver node bytes) world whole are none = delivery_keeps world whole are bytes (deliverable site node.0 bytes world none) (node_at site node.0)
  event_keeps (event.Lose bytes) world whole are none = lost_keeps world whole are _
  event_keeps (event.Reach point position) world whole are none =
      point_keeps laws.steps.written site (moved world (slice_set world.positions point.0 position) world.occupancies) (moved_whole site world (slice_set world.positions point.0 position) world.occupancies whole)
      (inputs.Sense (sense.Position position)) 0 point.0
  event_keeps (event.Restart node clock first) world whole are none = restart_keeps site (station_names site station) station table (record { clock = clock; first = first }) world whole (node_at site node.0)
