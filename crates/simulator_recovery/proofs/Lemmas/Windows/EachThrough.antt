-- What is kept of every client in each step of an interlocking is kept by each event.
use Rattle.simulator_recovery.proofs.Words.Basics.{◌≡◌, ℕ, List, Option, Some, None, slice_get, slice_set}
use Rattle.simulator_recovery.proofs.Words.Links.{Links, LinksEvent, MayCallOn}
use Rattle.simulator_recovery.proofs.Words.Controllers.{Occupancy}
use Rattle.simulator_recovery.proofs.Words.Interlockings.{ClientState, Node, Table}
use Rattle.simulator_recovery.proofs.Words.Stations.{Site, Event, NodeId, Beginning, new_ixl, delivered_to, detector_anew, detector_stepped, happens, interlocking_stepped, made_anew, passed, point_anew, point_stepped, sensed_by, signal_anew, signal_stepped, ticked_at, interlocking_step, names_at, connection_of, copy_of, node_at, refusal, WorldState, delivery_events, events_of, interlocking_events, tick_events, MayComeWith}
use Rattle.simulator_recovery.proofs.Words.Recovery.{EachClient}
use Rattle.simulator_spec.specs.rasta_core.Ends as ends
use Rattle.simulator_spec.specs.ixl_spec.Step as ixl
use Rattle.simulator_spec.specs.Nodes as nodes
use Rattle.simulator_recovery.proofs.Lemmas.Ground.ComesWith.{none_comes, one_comes}

module _ (site : Site) (table : Table) (P : Node → ClientState → Type 0) (new : (begins : Beginning) → EachClient P (new_ixl site table begins)) (world : WorldState) (network : Links) (May : List LinksEvent → Type 0)
    (may_come : (node : NodeId) (bytes : List ℕ) → refusal site (Event.Deliver node bytes) world ≡ None → (link : ℕ) → MayCallOn (names_at site link) (ends.Receives bytes (connection_of (copy_of bytes world))) network)
    (steps : (input : ixl.Input) (connection : ℕ) → MayComeWith site input connection network → May (interlocking_events site table input connection world.interlocking) → EachClient P (interlocking_step site table input world.interlocking).ixl)
    (each : EachClient P world.interlocking.ixl) where
  abbrev In : WorldState → Type 0
  In then_world = EachClient P then_world.interlocking.ixl

  ticked : (node : Option nodes.Node) → May (tick_events site table node world) → In (ticked_at site table node world)
  unfolding signal_stepped point_stepped detector_stepped interlocking_stepped
  ticked None may = each
  ticked (Some nodes.Interlocking) may = steps ixl.Tick 0 (none_comes site network ixl.Tick (λ bytes f. absurd (cc f))) may
  ticked (Some (nodes.Signal place)) may = each
  ticked (Some (nodes.Point place)) may = each
  ticked (Some (nodes.Detector place)) may = each

  comes : (id : NodeId) (bytes : List ℕ) (node : Option nodes.Node) → refusal site (Event.Deliver id bytes) world ≡ None → May (delivery_events site table bytes (connection_of (copy_of bytes world)) node world) → In (delivered_to site table bytes (connection_of (copy_of bytes world)) node world)
  unfolding signal_stepped point_stepped detector_stepped interlocking_stepped
  comes id bytes None intact may = each
  comes id bytes (Some nodes.Interlocking) intact may = steps (ixl.Datagram bytes) (connection_of (copy_of bytes world))
      (one_comes site network bytes (connection_of (copy_of bytes world)) (may_come id bytes intact)) may
  comes id bytes (Some (nodes.Signal place)) intact may = each
  comes id bytes (Some (nodes.Point place)) intact may = each
  comes id bytes (Some (nodes.Detector place)) intact may = each

  senses : (occupancy : Occupancy) (reporter : Option (ℕ × ℕ)) (then_world : WorldState) → In then_world → In (sensed_by site occupancy reporter then_world)
  unfolding detector_stepped
  senses occupancy None then_world is = is
  senses occupancy (Some reporter) then_world is = is

  restarts : (begins : Beginning) (node : Option nodes.Node) → In (made_anew site table begins node world)
  restarts begins None = each
  restarts begins (Some nodes.Interlocking) = new begins
  restarts begins (Some (nodes.Signal place)) = by_found (slice_get site.signals place)
    where
      by_found : (found : Option _) → In (signal_anew site begins place found world)
      by_found None = each
      by_found (Some entry) = each
  restarts begins (Some (nodes.Point place)) = by_found (slice_get site.points place)
    where
      by_found : (found : Option _) → In (point_anew site begins place found world)
      by_found None = each
      by_found (Some entry) = each
  restarts begins (Some (nodes.Detector place)) = by_found (slice_get site.detectors place)
    where
      by_found : (found : Option _) → In (detector_anew site begins place found world)
      by_found None = each
      by_found (Some entry) = each

  pub each_through : (happening : Event) → refusal site happening world ≡ None → May (events_of site table happening world) → In (happens site table happening world)
  unfolding happens passed point_stepped interlocking_stepped events_of
  each_through (Event.Request command) intact may = steps (ixl.Commands command) 0 (none_comes site network (ixl.Commands command) (λ bytes f. absurd (cc f))) may
  each_through (Event.Occupy section occupancy) intact may = senses occupancy (slice_get table.reporters section.0) (record world { occupancies = slice_set world.occupancies section.0 occupancy }) each
  each_through (Event.Tick node) intact may = ticked (node_at site node.0) may
  each_through (Event.Time elapsed clocks) intact may = each
  each_through (Event.Deliver node bytes) intact may = comes node bytes (node_at site node.0) intact may
  each_through (Event.Lose bytes) intact may = each
  each_through (Event.Reach point position) intact may = each
  each_through (Event.Restart node clock first) intact may = restarts (record { clock = clock; first = first }) (node_at site node.0)
