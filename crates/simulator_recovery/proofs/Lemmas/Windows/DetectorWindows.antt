-- The windows of a station's detectors, event by event: no client of a detector is given a command.
use Rattle.simulator_recovery.proofs.Words.Basics.{◌≡◌, ℕ, ◌<◌, ◌≤◌, true, false, List, [], ◌∷◌, ◌++◌, length, Option, Some, None, slice_get, slice_set, refl, sym, subst, arith}
use Rattle.simulator_recovery.proofs.Words.Links.{Each, reading_of, OutboxState, is_open}
use Rattle.simulator_recovery.proofs.Words.Controllers.{Aspect, Occupancy}
use Rattle.simulator_recovery.proofs.Words.Interlockings.{ClientState, LinkCall, begun, clocked, hearing, ticking, KnownDetectorState, Detector, Node, Point, Signal, begun_with, empty_outbox, Table}
use Rattle.simulator_recovery.proofs.Words.Stations.{Site, Once, IsStation, Event, Beginning, at_zero, new_detector_of, new_ixl, world_at, delivered_to, detector_anew, detector_stepped, happens, interlocking_stepped, made_anew, passed, point_anew, point_stepped, sensed_by, signal_anew, signal_stepped, ticked_at, interlocking_step, connection_of, copy_of, detector_link, key_of, node_at, refusal, after_all, ClockedInterlockingState, WorldState, events_of, IsReached}
use Rattle.simulator_recovery.proofs.Words.Recovery.{EachClient, LawsBelow, FillsNoWindowOn}
use Rattle.simulator_spec.specs.ixl_spec.Step as ixl
use Rattle.simulator_spec.specs.Nodes as nodes
use Rattle.simulator_recovery.proofs.Lemmas.Windows.FewItems.{FewSoFar, GivesFew, clocked_few, few_wait, hearing_few, new_client_few, ticking_few}
use Rattle.simulator_recovery.proofs.Lemmas.Ground.IxlClients.{mapped_at}
use Rattle.simulator_recovery.proofs.Lemmas.Ground.IxlSoFar.{All, SoFarKeeps, step_held}
use Rattle.simulator_recovery.proofs.Lemmas.Ground.EndCalls.{at_place}
use Rattle.simulator_recovery.proofs.Lemmas.Windows.SignalWindows.{node_leaves}

-- ---- a step of the interlocking

abbrev pub FewAt : Node → ClientState → Type 0
FewAt (Detector place) client = GivesFew false client
FewAt _ client = Unit {0}

abbrev SoFarAt : Node → ClientState → List LinkCall → Type 0
SoFarAt (Detector place) client calls = FewSoFar false client calls
SoFarAt _ client calls = Unit {0}

abbrev AnyAspect : ℕ → Aspect → Type 0
AnyAspect place aspect = Unit {0}

abbrev AnyBytes : List ℕ → Type 0
AnyBytes bytes = Unit {0}

module _ (now : ℕ) where
  settles : (node : Node) (client : ClientState) → FewAt node client → SoFarAt node (clocked now client) []
  settles (Signal place) client is = tt
  settles (Point place) client is = tt
  settles (Detector place) client is = record { few = clocked_few false now client is; leaves = tt }

  hears : (node : Node) (bytes : List ℕ) (client : ClientState) (outbox : OutboxState) (calls : List LinkCall) → SoFarAt node client calls
      → SoFarAt node (hearing now bytes (begun client outbox)).client (calls ++ (hearing now bytes (begun client outbox)).calls)
  hears (Signal place) bytes client outbox calls is = tt
  hears (Point place) bytes client outbox calls is = tt
  hears (Detector place) bytes client outbox calls is = hearing_few false now bytes client outbox calls is

  ticks : (node : Node) (client : ClientState) (outbox : OutboxState) (calls : List LinkCall) → SoFarAt node client calls
      → SoFarAt node (ticking now (begun client outbox)).client (calls ++ (ticking now (begun client outbox)).calls)
  ticks (Signal place) client outbox calls is = tt
  ticks (Point place) client outbox calls is = tt
  ticks (Detector place) client outbox calls is = ticking_few false now client outbox calls is

  keep : SoFarKeeps now AnyAspect AnyBytes FewAt SoFarAt SoFarAt
  keep = record {
    clock = settles;
    weaker = λ node client calls is. is;
    hears = λ node bytes client outbox calls comes is. hears node bytes client outbox calls is;
    aspects = λ place aspect client outbox calls gives ready is. tt;
    moves = λ place side client outbox calls available is. tt;
    ticks = ticks;
  }

-- after it each client of a detector has given few items, and none of the calls of its link closes that for a full window
module _ (site : Site) (table : Table) (input : ixl.Input) (station : ClockedInterlockingState) (few : EachClient FewAt station.ixl) where
  now_is : ℕ
  now_is = reading_of station.clock

  held : All (reading_of station.clock) AnyAspect AnyBytes FewAt SoFarAt SoFarAt (keep (reading_of station.clock)) SoFarAt (interlocking_step site table input station)
  held = step_held (reading_of station.clock) AnyAspect AnyBytes FewAt SoFarAt SoFarAt (keep (reading_of station.clock)) table (λ signal. tt) (λ number row e. tt) (key_of site) input (begun_with station.ixl empty_outbox) (λ bytes e. tt) refl few

  step_few : EachClient FewAt (interlocking_step site table input station).ixl
  step_few = record { signals = λ place known e. tt; points = λ place known e. tt; detectors = λ place known e. (held.detectors place known e).few }

-- ---- an event

module _ (site : Site) (table : Table) where
  abbrev pub FewIn : WorldState → Type 0
  FewIn world = EachClient FewAt world.interlocking.ixl

  new_few : (begins : Beginning) → EachClient FewAt (new_ixl site table begins)
  unfolding new_ixl
  new_few begins = record {
    signals = λ place known e. tt;
    points = λ place known e. tt;
    detectors = λ place known e. let found = mapped_at (new_detector_of site begins) site.detectors place known e in
        subst (λ (k : KnownDetectorState). GivesFew false k.client) (sym found.2) (new_client_few false _ _ _ _);
  }

  steps : (input : ixl.Input) (world : WorldState) → FewIn world → FewIn (interlocking_stepped site table input world)
  unfolding interlocking_stepped
  steps input world few = step_few site table input world.interlocking few

  ticked : (node : Option nodes.Node) (world : WorldState) → FewIn world → FewIn (ticked_at site table node world)
  unfolding signal_stepped point_stepped detector_stepped
  ticked None world few = few
  ticked (Some nodes.Interlocking) world few = steps ixl.Tick world few
  ticked (Some (nodes.Signal place)) world few = few
  ticked (Some (nodes.Point place)) world few = few
  ticked (Some (nodes.Detector place)) world few = few

  comes : (bytes : List ℕ) (connection : ℕ) (node : Option nodes.Node) (world : WorldState) → FewIn world → FewIn (delivered_to site table bytes connection node world)
  unfolding signal_stepped point_stepped detector_stepped
  comes bytes connection None world few = few
  comes bytes connection (Some nodes.Interlocking) world few = steps (ixl.Datagram bytes) world few
  comes bytes connection (Some (nodes.Signal place)) world few = few
  comes bytes connection (Some (nodes.Point place)) world few = few
  comes bytes connection (Some (nodes.Detector place)) world few = few

  senses : (occupancy : Occupancy) (reporter : Option (ℕ × ℕ)) (world : WorldState) → FewIn world → FewIn (sensed_by site occupancy reporter world)
  unfolding detector_stepped
  senses occupancy None world few = few
  senses occupancy (Some reporter) world few = few

  restarts : (begins : Beginning) (node : Option nodes.Node) (world : WorldState) → FewIn world → FewIn (made_anew site table begins node world)
  restarts begins None world few = few
  restarts begins (Some nodes.Interlocking) world few = new_few begins
  restarts begins (Some (nodes.Signal place)) world few = by_found (slice_get site.signals place)
    where
      by_found : (found : Option _) → FewIn (signal_anew site begins place found world)
      by_found None = few
      by_found (Some entry) = few
  restarts begins (Some (nodes.Point place)) world few = by_found (slice_get site.points place)
    where
      by_found : (found : Option _) → FewIn (point_anew site begins place found world)
      by_found None = few
      by_found (Some entry) = few
  restarts begins (Some (nodes.Detector place)) world few = by_found (slice_get site.detectors place)
    where
      by_found : (found : Option _) → FewIn (detector_anew site begins place found world)
      by_found None = few
      by_found (Some entry) = few

  one_event : (happening : Event) (world : WorldState) → FewIn world → FewIn (happens site table happening world)
  unfolding happens passed point_stepped
  one_event (Event.Request command) world few = steps (ixl.Commands command) world few
  one_event (Event.Occupy section occupancy) world few = senses occupancy (slice_get table.reporters section.0) (record world { occupancies = slice_set world.occupancies section.0 occupancy }) few
  one_event (Event.Tick node) world few = ticked (node_at site node.0) world few
  one_event (Event.Time elapsed clocks) world few = few
  one_event (Event.Deliver node bytes) world few = comes bytes (connection_of (copy_of bytes world)) (node_at site node.0) world few
  one_event (Event.Lose bytes) world few = few
  one_event (Event.Reach point position) world few = few
  one_event (Event.Restart node clock first) world few = restarts (record { clock = clock; first = first }) (node_at site node.0) world few

  all_events : (events : List Event) (world : WorldState) → FewIn world → FewIn (after_all site table events world)
  all_events [] world few = few
  all_events (first ∷ others) world few = all_events others (happens site table first world) (one_event first world few)

  pub reached_few : (world : WorldState) → IsReached site table world → FewIn world
  unfolding world_at
  reached_few world reached = subst FewIn (sym reached.after) (all_events reached.events (world_at site table reached.outset) (new_few at_zero))

  pub few_items_wait : (world : WorldState) → IsReached site table world → (place : ℕ) (known : KnownDetectorState) → slice_get world.interlocking.ixl.detectors place ≡ Some known
      → is_open known.client.link.phase ≡ true → length known.client.link.waiting ≤ 2
  few_items_wait world reached place known e opened = few_wait known.client ((reached_few world reached).detectors place known e) opened

-- ---- the calls of an event

pub detector_leaves : (laws : LawsBelow) (site : Site) (table : Table) (station : IsStation site) (once : Once site) (place : ℕ) (below : place < length site.detectors) (world : WorldState) (reached : IsReached site table world)
    → (happening : Event) → refusal site happening world ≡ None → Each (FillsNoWindowOn (detector_link site place)) (events_of site table happening world)
detector_leaves laws site table station once place below world reached = node_leaves laws site table station once world reached (Detector place) below (λ input clients.
    let many = clients.detectors
    in let there = at_place (interlocking_step site table input world.interlocking).ixl.detectors place (omega (arith, below, many))
    in ((held site table input world.interlocking (reached_few site table world reached)).detectors place there.0 there.1).leaves)
