-- What is so of an interlocking that was just made, and is kept by each of its steps, is so after every list of events.
use Rattle.simulator_recovery.proofs.Words.Basics.{◌≡◌, ℕ, List, Option, Some, None, slice_get, refl, none-some, same_Some, [], ◌∷◌, sym, subst}
use Rattle.simulator_recovery.proofs.Words.Controllers.{Occupancy}
use Rattle.simulator_recovery.proofs.Words.Interlockings.{IxlState, Commands, Datagram, Input, Tick, Table, KnownSignalState, RouteState}
use Rattle.simulator_recovery.proofs.Words.Stations.{DetectorEntry, Site, Point as PointEntry, Signal as SignalEntry, Event, Beginning, new_ixl, delivered_to, detector_anew, detector_stepped, happens, interlocking_stepped, made_anew, passed, point_anew, point_stepped, sensed_by, signal_anew, signal_stepped, ticked_at, connection_of, copy_of, Detector, Interlocking, Node, node_at, WorldState, Outset, world_at, after_all, IsReached}
use Rattle.simulator_recovery.proofs.Words.Recovery.{input_at, input_of}
use Rattle.simulator_spec.specs.Nodes.{Point, Signal}

-- ---- what an event does to the interlocking: it steps, or is made anew, or nothing comes to it

-- the event makes the interlocking anew
abbrev pub MakesAnew : Site → Event → Type 0
MakesAnew site (Event.Restart node clock first) = node_at site node.0 ≡ Some Interlocking
MakesAnew site _ = ⊥

-- what comes to it where it is this node
pub input_is : (at : Option Node) (one input : Input) → input_at at one ≡ Some input → one ≡ input
input_is None one input e = absurd (none-some input e)
input_is (Some Interlocking) one input e = same_Some one input e
input_is (Some (Signal place)) one input e = absurd (none-some input e)
input_is (Some (Point place)) one input e = absurd (none-some input e)
input_is (Some (Detector place)) one input e = absurd (none-some input e)

-- what is so of an interlocking that nothing comes to
module _ (site : Site) (table : Table) (P : IxlState → Type 0) (world : WorldState) (still : P world.interlocking.ixl) where
  abbrev Then : WorldState → Type 0
  Then later = P later.interlocking.ixl

  ticked_then : (at : Option Node) → (input_at at Tick ≡ Some Tick → Then (interlocking_stepped site table Tick world)) → Then (ticked_at site table at world)
  unfolding signal_stepped point_stepped detector_stepped
  ticked_then None steps = still
  ticked_then (Some Interlocking) steps = steps refl
  ticked_then (Some (Signal place)) steps = still
  ticked_then (Some (Point place)) steps = still
  ticked_then (Some (Detector place)) steps = still

  delivered_then : (bytes : List ℕ) (connection : ℕ) (at : Option Node) → (input_at at (Datagram bytes) ≡ Some (Datagram bytes) → Then (interlocking_stepped site table (Datagram bytes) world)) → Then (delivered_to site table bytes connection at world)
  unfolding signal_stepped point_stepped detector_stepped
  delivered_then bytes connection None steps = still
  delivered_then bytes connection (Some Interlocking) steps = steps refl
  delivered_then bytes connection (Some (Signal place)) steps = still
  delivered_then bytes connection (Some (Point place)) steps = still
  delivered_then bytes connection (Some (Detector place)) steps = still

  sensed_then : (occupancy : Occupancy) (reporter : Option (ℕ × ℕ)) (later : WorldState) → Then later → Then (sensed_by site occupancy reporter later)
  unfolding detector_stepped
  sensed_then occupancy None later holds = holds
  sensed_then occupancy (Some reporter) later holds = holds

  signal_then : (begins : Beginning) (place : ℕ) (entry : Option SignalEntry) → Then (signal_anew site begins place entry world)
  signal_then begins place None = still
  signal_then begins place (Some entry) = still

  point_then : (begins : Beginning) (place : ℕ) (entry : Option PointEntry) → Then (point_anew site begins place entry world)
  point_then begins place None = still
  point_then begins place (Some entry) = still

  detector_then : (begins : Beginning) (place : ℕ) (entry : Option DetectorEntry) → Then (detector_anew site begins place entry world)
  detector_then begins place None = still
  detector_then begins place (Some entry) = still

  anew_then : (begins : Beginning) (at : Option Node) → (at ≡ Some Interlocking → P (new_ixl site table begins)) → Then (made_anew site table begins at world)
  anew_then begins None anew = still
  anew_then begins (Some Interlocking) anew = anew refl
  anew_then begins (Some (Signal place)) anew = signal_then begins place (slice_get site.signals place)
  anew_then begins (Some (Point place)) anew = point_then begins place (slice_get site.points place)
  anew_then begins (Some (Detector place)) anew = detector_then begins place (slice_get site.detectors place)

  pub event_then : (one : Event) → ((input : Input) → input_of site one ≡ Some input → Then (interlocking_stepped site table input world)) → ((begins : Beginning) → MakesAnew site one → P (new_ixl site table begins)) → Then (happens site table one world)
  unfolding happens passed point_stepped
  event_then (Event.Time elapsed clocks) steps anew = still
  event_then (Event.Deliver node bytes) steps anew = delivered_then bytes (connection_of (copy_of bytes world)) (node_at site node.0) (λ e. steps (Datagram bytes) e)
  event_then (Event.Tick node) steps anew = ticked_then (node_at site node.0) (λ e. steps Tick e)
  event_then (Event.Reach point position) steps anew = still
  event_then (Event.Request command) steps anew = steps (Commands command) refl
  event_then (Event.Occupy section occupancy) steps anew = sensed_then occupancy (slice_get table.reporters section.0) _ still
  event_then (Event.Lose bytes) steps anew = still
  event_then (Event.Restart node clock first) steps anew = anew_then (record { clock = clock; first = first }) (node_at site node.0) (λ e. anew (record { clock = clock; first = first }) e)

-- ---- what is so of an interlocking that was just made, and is kept by each of its steps, is so after every list of events

module _ (site : Site) (table : Table) (P : IxlState → Type 0) (new_is : (begins : Beginning) → P (new_ixl site table begins))
    (steps : (input : Input) (world : WorldState) → P world.interlocking.ixl → P (interlocking_stepped site table input world).interlocking.ixl) where
  abbrev Standing : WorldState → Type 0
  Standing world = P world.interlocking.ixl

  event_keeps : (one : Event) (world : WorldState) → Standing world → Standing (happens site table one world)
  event_keeps one world is = event_then site table P world is one (λ input e. steps input world is) (λ begins anew. new_is begins)

  all_keep : (events : List Event) (world : WorldState) → Standing world → Standing (after_all site table events world)
  all_keep [] world is = is
  all_keep (first ∷ others) world is = all_keep others (happens site table first world) (event_keeps first world is)

  first_keeps : (outset : Outset) → Standing (world_at site table outset)
  unfolding world_at
  first_keeps outset = new_is _

  pub always_whole : (world : WorldState) → IsReached site table world → P world.interlocking.ixl
  always_whole world reached = subst Standing (sym reached.after) (all_keep reached.events (world_at site table reached.outset) (first_keeps reached.outset))

-- so it is of the routes and the signals by themselves
pub always : (site : Site) (table : Table) (P : List RouteState → List KnownSignalState → Type 0) → ((begins : Beginning) → P (new_ixl site table begins).routes (new_ixl site table begins).known_signals)
    → ((input : Input) (world : WorldState) → P world.interlocking.ixl.routes world.interlocking.ixl.known_signals
    → P (interlocking_stepped site table input world).interlocking.ixl.routes (interlocking_stepped site table input world).interlocking.ixl.known_signals)
    → (world : WorldState) → IsReached site table world → P world.interlocking.ixl.routes world.interlocking.ixl.known_signals
always site table P new_is steps = always_whole site table (λ ixl. P ixl.routes ixl.known_signals) new_is steps
