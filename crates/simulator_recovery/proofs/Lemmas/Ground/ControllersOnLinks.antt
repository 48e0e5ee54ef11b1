-- What is kept of every controller of a station, with what its end has given, by its steps is kept by each event of the station.
use Rattle.simulator_recovery.proofs.Words.Basics.{◌≡◌, ◌≢◌, ℕ, zero, suc, ◌∙◌, ◌<◌, ◌==◌, Bool, true, false, List, [], ◌∷◌, length, map, Option, Some, None, slice_get, slice_set, ◌⊎◌, inl, inr, refl, sym, ap, subst, arith, drop, none-some, same_Some, slice_get_within}
use Rattle.simulator_recovery.proofs.Words.Links.{settled, EndState, end_later, end_restarted, reading_of, run, Links, RestartsOn, happened_to, run_links, seen, restarts_of, Ends, called, restarted, calls_at, Role}
use Rattle.simulator_recovery.proofs.Words.Controllers.{as_call, called_all, Occupancy, Position, Behaviour, HostState, LinkCall, Input as HostInput, Sense, SignalState, signal_behaviour, point_behaviour, PointState, detection_behaviour, Section}
use Rattle.simulator_recovery.proofs.Words.Interlockings.{changed, Table}
use Rattle.simulator_recovery.proofs.Words.Stations.{DetectorEntry, Site, Point as PointEntry, Signal as SignalEntry, Event, controller_after, controller_anew, step_of, Beginning, new_detector, new_point, new_signal, Stepped, all_later, coming, delivered_to, detector_anew, detector_stepped, happens, interlocking_stepped, made_anew, passed, point_anew, point_stepped, sensed_by, signal_anew, signal_stepped, stepped_at, ticked_at, interlocking_step, AreLinksOf, ServerEnd, end_of_server, server_ends, connection_of, copy_of, detector_link, links, node_at, partners, point_link, ClockedControllerState, WorldState, node_call, anew_events, contact_events, delivery_events, detector_events, events_of, host_events, interlocking_events, numbers_below, point_events, restart_events, signal_events, tick_events, time_events, IsWhole}
use Rattle.simulator_recovery.proofs.Words.Recovery.{LawsBelow}
use Rattle.simulator_spec.specs.ixl_spec.Step as ixl
use Rattle.simulator_spec.specs.Nodes as nodes
use Rattle.simulator_recovery.proofs.Lemmas.Ground.ClientItem.{at_front, partners_length}
use Rattle.simulator_recovery.proofs.Lemmas.Ground.AtLink.{mapped, of_second, of_third}
use Rattle.simulator_recovery.proofs.Lemmas.Ground.IxlClients.{changed_at}
use Rattle.simulator_recovery.proofs.Lemmas.Ground.EndCalls.{at_place, map_length}
use Rattle.simulator_recovery.proofs.Lemmas.Ground.StationKeeps.{later_at}
use Rattle.simulator_recovery.proofs.Lemmas.Ground.DueTests.{same_number}

-- ---- lists and links

pub set_there : {X : Type 0} (list : List X) (place : ℕ) (new : X) (k : ℕ) (y : X) → slice_get (slice_set list place new) k ≡ Some y → ((k ≡ place) × (y ≡ new)) ⊎ ((k ≢ place) × (slice_get list k ≡ Some y))
set_there [] place new k y e = absurd (none-some y e)
set_there (x ∷ xs) zero new zero y e = inl (refl, sym (same_Some new y e))
set_there (x ∷ xs) zero new (suc k) y e = inr (λ same. absurd (cc same), e)
set_there (x ∷ xs) (suc place) new zero y e = inr (λ same. absurd (cc same), e)
set_there (x ∷ xs) (suc place) new (suc k) y e = choose (set_there xs place new k y e)
  where
    choose : ((k ≡ place) × (y ≡ new)) ⊎ ((k ≢ place) × (slice_get xs k ≡ Some y)) → ((suc k ≡ suc place) × (y ≡ new)) ⊎ ((suc k ≢ suc place) × (slice_get xs k ≡ Some y))
    choose (inl (f, g)) = inl (ap suc f, g)
    choose (inr (f, g)) = inr (λ same. f (omega (arith, same)), g)

-- what an end gave and took in its last connection
pub record Lists : Type 0 where
  pub given : List (List ℕ)
  pub taken : List (List ℕ)

abbrev pub lists_of : EndState → Lists
lists_of end = record { given = end.given; taken = end.taken }

abbrev pub lists_at : Links → ℕ → Lists
lists_at network link = lists_of (network.ends link).server

-- an end that is made anew keeps what it gave
pub anew_keeps : (link : ℕ) (who : Role) (clock first : ℕ) (network : Links) (other : ℕ) → lists_at (happened_to (RestartsOn link who clock first) network) other ≡ lists_at network other
unfolding restarted end_restarted
anew_keeps link who clock first network other = choose who (other == link) refl
  where
    choose : (w : Role) (b : Bool) → (other == link) ≡ b → lists_at (happened_to (RestartsOn link w clock first) network) other ≡ lists_at network other
    choose Role.Client true e = rw (e, lists_at) (ap (lists_at network) (sym (same_number other link e)))
    choose Role.Client false e = rw (e, lists_at) refl
    choose Role.Server true e = rw (e, lists_at) (ap (lists_at network) (sym (same_number other link e)))
    choose Role.Server false e = rw (e, lists_at) refl

pub all_anew_keeps : (who : Role) (clock : ℕ) (firsts : ℕ → ℕ) (numbers : List ℕ) (network : Links) (other : ℕ) → lists_at (run_links (restarts_of who clock firsts numbers) network) other ≡ lists_at network other
all_anew_keeps who clock firsts [] network other = refl
all_anew_keeps who clock firsts (first ∷ others) network other = all_anew_keeps who clock firsts others (happened_to (RestartsOn first who clock (firsts first)) network) other ∙ anew_keeps first who clock (firsts first) network other

pub all_called : (connection : ℕ) (calls : List LinkCall) (ends : Ends) → called_all connection calls ends ≡ run (calls_at Role.Server (map (as_call connection) calls)) ends
unfolding called_all
all_called connection [] ends = refl
all_called connection (first ∷ others) ends = all_called connection others (called Role.Server (as_call connection first) ends)

-- what calls at one end leave of every end
-- ---- the controllers of one kind

-- something of each controller of a list, and of what its end has given
abbrev pub OnEach : {Object : Type 0} → (ℕ → HostState Object → Lists → Type 0) → (ℕ → ℕ) → List (ClockedControllerState Object) → Links → Type 0
OnEach {Object} Holds at servers network = (place : ℕ) (c : ClockedControllerState Object) → slice_get servers place ≡ Some c → Holds place c.host (lists_at network (at place))

-- what a step of such a controller keeps, from an end that is its own
abbrev pub StepKeeps : {Object : Type 0} → Behaviour Object → (ℕ → HostState Object → Lists → Type 0) → Type 0
StepKeeps {Object} does Holds = (input : HostInput) (connection place : ℕ) (c : ClockedControllerState Object) (ends : Ends) → ends.server.link ≡ settled (reading_of c.clock) c.host.link → ends.server.clock ≡ c.clock
    → Holds place c.host (lists_of ends.server) → Holds place (step_of does input c).host (lists_of (called_all connection (step_of does input c).calls ends).server)

held_same : {Object : Type 0} (Holds : ℕ → HostState Object → Lists → Type 0) (at : ℕ → ℕ) (servers : List (ClockedControllerState Object)) (old new : Links)
    → ((place : ℕ) (c : ClockedControllerState Object) → slice_get servers place ≡ Some c → lists_at new (at place) ≡ lists_at old (at place)) → OnEach Holds at servers old → OnEach Holds at servers new
held_same Holds at servers old new same held place c e = subst (Holds place c.host) (sym (same place c e)) (held place c e)

module _ (laws : LawsBelow) where
  pub elsewhere : {Object : Type 0} (does : Behaviour Object) (input : HostInput) (connection link : ℕ) (found : Option (ClockedControllerState Object)) (before : Links) (other : ℕ)
      → ((c : ClockedControllerState Object) → found ≡ Some c → other ≢ link) → lists_at (run_links (host_events does input connection link found) before) other ≡ lists_at before other
  elsewhere does input connection link None before other differ = refl
  elsewhere does input connection link (Some c) before other differ = ap lists_of (laws.a_node_of_one_link_makes_a_step_ends Role.Server link other (map (as_call connection) (step_of does input c).calls) before (differ c refl) Role.Server)

  -- the end of a controller
  record IsEndOf {Object : Type 0} (c : ClockedControllerState Object) (end : EndState) : Type 0 where
    link_is : end.link ≡ settled (reading_of c.clock) c.host.link
    clock_is : end.clock ≡ c.clock

  module _ {Object : Type 0} (does : Behaviour Object) (Holds : ℕ → HostState Object → Lists → Type 0) (keeps : StepKeeps does Holds) (at : ℕ → ℕ) (apart : (k place : ℕ) → k ≢ place → at k ≢ at place) where
    stepped_held : (input : HostInput) (connection time place : ℕ) (found : Option (ClockedControllerState Object)) (all : Stepped Object) (before : Links) → slice_get all.servers place ≡ found
        → ((c : ClockedControllerState Object) → slice_get all.servers place ≡ Some c → IsEndOf c (before.ends (at place)).server)
        → OnEach Holds at all.servers before → OnEach Holds at (stepped_at does input connection time (at place) place found all).servers (run_links (host_events does input connection (at place) found) before)
    unfolding stepped_at controller_after
    stepped_held input connection time place None all before e ends held = held
    stepped_held input connection time place (Some c) all before e ends held = λ k one f. choose k one (set_there all.servers place new k one f)
      where
        new : ClockedControllerState Object
        new = controller_after (step_of does input c) connection (length all.sent) c

        after : Links
        after = run_links (host_events does input connection (at place) (Some c)) before

        own : seen (at place) after ≡ called_all connection (step_of does input c).calls (seen (at place) before)
        own = laws.a_node_of_one_link_makes_a_step_own Role.Server (at place) (map (as_call connection) (step_of does input c).calls) before ∙ sym (all_called connection (step_of does input c).calls (seen (at place) before))

        new_held : Holds place new.host (lists_at after (at place))
        new_held = let end = ends c e in subst (λ (s : Ends). Holds place new.host (lists_of s.server)) (sym own) (keeps input connection place c (seen (at place) before) end.link_is end.clock_is (held place c e))

        choose : (k : ℕ) (one : ClockedControllerState Object) → ((k ≡ place) × (one ≡ new)) ⊎ ((k ≢ place) × (slice_get all.servers k ≡ Some one)) → Holds k one.host (lists_at after (at k))
        choose k one (inl (f, g)) = subst (λ (n : ℕ). Holds n one.host (lists_at after (at n))) (sym f) (subst (λ (x : ClockedControllerState Object). Holds place x.host (lists_at after (at place))) (sym g) new_held)
        choose k one (inr (f, g)) = subst (Holds k one.host) (sym (elsewhere does input connection (at place) (Some c) before (at k) (λ x h. apart k place f))) (held k one g)

-- time goes on
later_held : {Object : Type 0} (Holds : ℕ → HostState Object → Lists → Type 0) (at : ℕ → ℕ) (moment : ℕ) (steps : List ℕ) (servers : List (ClockedControllerState Object)) (network : Links) → OnEach Holds at servers network → OnEach Holds at (all_later moment steps servers) network
later_held {Object} Holds at moment steps servers network held place one e = let found = later_at moment steps servers place one e in
    subst (λ (h : HostState Object). Holds place h (lists_at network (at place))) (sym found.2) (held place found.0 found.1)

-- a controller is made anew
anew_held : {Object : Type 0} (Holds : ℕ → HostState Object → Lists → Type 0) (at : ℕ → ℕ) (host : HostState Object) (clock moment place : ℕ) (servers : List (ClockedControllerState Object)) (network : Links)
    → ((x : ClockedControllerState Object) → slice_get servers place ≡ Some x → Holds place host (lists_at network (at place)))
    → OnEach Holds at servers network → OnEach Holds at (changed (controller_anew host clock moment) place servers) network
unfolding controller_anew
anew_held {Object} Holds at host clock moment place servers network made held k one e = choose (changed_at (controller_anew host clock moment) place servers k one e)
  where
    choose : ((k ≡ place) × (x : ClockedControllerState Object) × (slice_get servers place ≡ Some x) × (one ≡ controller_anew host clock moment x)) ⊎ (slice_get servers k ≡ Some one) → Holds k one.host (lists_at network (at k))
    choose (inl (f, x, g, h)) = subst (λ (n : ℕ). Holds n one.host (lists_at network (at n))) (sym f) (subst (λ (c : ClockedControllerState Object). Holds place c.host (lists_at network (at place))) (sym h) (made x g))
    choose (inr f) = held k one f

-- ---- an event

-- what is kept of the controllers of a station, with what their ends have given: by their steps, and where they are made anew
pub record ControllersKeep (site : Site) (OfSignal : ℕ → HostState SignalState → Lists → Type 0) (OfPoint : ℕ → HostState PointState → Lists → Type 0) (OfDetector : ℕ → HostState (List Section) → Lists → Type 0) : Type 0 where
  pub signals : StepKeeps signal_behaviour OfSignal
  pub points : StepKeeps point_behaviour OfPoint
  pub detectors : StepKeeps detection_behaviour OfDetector
  pub new_signals : (begins : Beginning) (place : ℕ) (entry : SignalEntry) (old : HostState SignalState) (items : Lists) → slice_get site.signals place ≡ Some entry → OfSignal place old items → OfSignal place (new_signal site begins entry) items
  pub new_points : (begins : Beginning) (position : Position) (place : ℕ) (entry : PointEntry) (old : HostState PointState) (items : Lists) → slice_get site.points place ≡ Some entry → OfPoint place old items → OfPoint place (new_point site begins position entry) items
  pub new_detectors : (begins : Beginning) (occupied : List Occupancy) (place : ℕ) (entry : DetectorEntry) (old : HostState (List Section)) (items : Lists) → slice_get site.detectors place ≡ Some entry → OfDetector place old items
      → OfDetector place (new_detector site begins occupied entry) items

-- of each controller of a station
pub record OnControllers (site : Site) (OfSignal : ℕ → HostState SignalState → Lists → Type 0) (OfPoint : ℕ → HostState PointState → Lists → Type 0) (OfDetector : ℕ → HostState (List Section) → Lists → Type 0)
    (signals : List (ClockedControllerState SignalState)) (points : List (ClockedControllerState PointState)) (detectors : List (ClockedControllerState (List Section))) (network : Links) : Type 0 where
  pub of_signals : OnEach OfSignal (λ place. place) signals network
  pub of_points : OnEach OfPoint (point_link site) points network
  pub of_detectors : OnEach OfDetector (detector_link site) detectors network

module _ (laws : LawsBelow) (site : Site) (table : Table) (OfSignal : ℕ → HostState SignalState → Lists → Type 0) (OfPoint : ℕ → HostState PointState → Lists → Type 0) (OfDetector : ℕ → HostState (List Section) → Lists → Type 0) (keeps : ControllersKeep site OfSignal OfPoint OfDetector) where
  abbrev pub On : WorldState → Links → Type 0
  On world network = OnControllers site OfSignal OfPoint OfDetector world.signals world.points world.detectors network

  -- controllers, their ends, and what is kept of them
  record Controllers (signals : List (ClockedControllerState SignalState)) (points : List (ClockedControllerState PointState)) (detectors : List (ClockedControllerState (List Section))) (network : Links) : Type 0 where
    signals_many : length signals ≡ length site.signals
    points_many : length points ≡ length site.points
    signal_ends : (place : ℕ) (c : ClockedControllerState SignalState) → slice_get signals place ≡ Some c → IsEndOf laws c (network.ends place).server
    point_ends : (place : ℕ) (c : ClockedControllerState PointState) → slice_get points place ≡ Some c → IsEndOf laws c (network.ends (point_link site place)).server
    detector_ends : (place : ℕ) (c : ClockedControllerState (List Section)) → slice_get detectors place ≡ Some c → IsEndOf laws c (network.ends (detector_link site place)).server
    of_signals : OnEach OfSignal (λ place. place) signals network
    of_points : OnEach OfPoint (point_link site) points network
    of_detectors : OnEach OfDetector (detector_link site) detectors network

  abbrev Are : WorldState → Links → Type 0
  Are world network = Controllers world.signals world.points world.detectors network

  all_same : (world : WorldState) (old new : Links) → ((link : ℕ) → lists_at new link ≡ lists_at old link) → Are world old → On world new
  all_same world old new same n = record {
    of_signals = held_same OfSignal (λ place. place) world.signals old new (λ k c e. same k) n.of_signals;
    of_points = held_same OfPoint (point_link site) world.points old new (λ k c e. same (point_link site k)) n.of_points;
    of_detectors = held_same OfDetector (detector_link site) world.detectors old new (λ k c e. same (detector_link site k)) n.of_detectors;
  }

  signals_step : (input : HostInput) (connection place : ℕ) (world : WorldState) (network : Links) → Are world network → On (signal_stepped site input connection place world) (run_links (signal_events input connection place world) network)
  unfolding signal_stepped
  signals_step input connection place world network n = record {
    of_signals = stepped_held laws signal_behaviour OfSignal keeps.signals (λ k. k) (λ k p differ. differ) input connection world.time place (slice_get world.signals place) (record { servers = world.signals; sent = world.sent }) network refl (n.signal_ends place) n.of_signals;
    of_points = held_same OfPoint (point_link site) world.points network after
        (λ k c e. there (point_link site k) (λ below same. omega (arith, below, same))) n.of_points;
    of_detectors = held_same OfDetector (detector_link site) world.detectors network after
        (λ k c e. there (detector_link site k) (λ below same. omega (arith, below, same))) n.of_detectors;
  }
    where
      after : Links
      after = run_links (signal_events input connection place world) network

      there : (other : ℕ) → (place < length site.signals → other ≢ place) → lists_at after other ≡ lists_at network other
      there other differ = elsewhere laws signal_behaviour input connection place (slice_get world.signals place) network other
          (λ c f. differ (let a = slice_get_within world.signals place c f in let b = n.signals_many in omega (arith, a, b)))

  points_step : (input : HostInput) (connection place : ℕ) (world : WorldState) (network : Links) → Are world network → On (point_stepped site input connection place world) (run_links (point_events site input connection place world) network)
  unfolding point_stepped
  points_step input connection place world network n = record {
    of_signals = held_same OfSignal (λ k. k) world.signals network after
        (λ k c e. let a = slice_get_within world.signals k c e in let b = n.signals_many in there k (λ below same. omega (arith, a, b, same))) n.of_signals;
    of_points = stepped_held laws point_behaviour OfPoint keeps.points (point_link site) (λ k p differ same. differ (omega (arith, same))) input connection world.time place (slice_get world.points place) (record { servers = world.points; sent = world.sent }) network refl (n.point_ends place) n.of_points;
    of_detectors = held_same OfDetector (detector_link site) world.detectors network after
        (λ k c e. there (detector_link site k) (λ below same. omega (arith, below, same))) n.of_detectors;
  }
    where
      after : Links
      after = run_links (point_events site input connection place world) network

      there : (other : ℕ) → (place < length site.points → other ≢ point_link site place) → lists_at after other ≡ lists_at network other
      there other differ = elsewhere laws point_behaviour input connection (point_link site place) (slice_get world.points place) network other
          (λ c f. differ (let a = slice_get_within world.points place c f in let b = n.points_many in omega (arith, a, b)))

  detectors_step : (input : HostInput) (connection place : ℕ) (world : WorldState) (network : Links) → Are world network → On (detector_stepped site input connection place world) (run_links (detector_events site input connection place world) network)
  unfolding detector_stepped
  detectors_step input connection place world network n = record {
    of_signals = held_same OfSignal (λ k. k) world.signals network after
        (λ k c e. let a = slice_get_within world.signals k c e in let b = n.signals_many in there k (λ same. omega (arith, a, b, same))) n.of_signals;
    of_points = held_same OfPoint (point_link site) world.points network after
        (λ k c e. let a = slice_get_within world.points k c e in let b = n.points_many in there (point_link site k) (λ same. omega (arith, a, b, same))) n.of_points;
    of_detectors = stepped_held laws detection_behaviour OfDetector keeps.detectors (detector_link site) (λ k p differ same. differ (omega (arith, same))) input connection world.time place (slice_get world.detectors place) (record { servers = world.detectors; sent = world.sent }) network refl (n.detector_ends place) n.of_detectors;
  }
    where
      after : Links
      after = run_links (detector_events site input connection place world) network

      there : (other : ℕ) → (other ≢ detector_link site place) → lists_at after other ≡ lists_at network other
      there other differ = elsewhere laws detection_behaviour input connection (detector_link site place) (slice_get world.detectors place) network other (λ c f. differ)

  interlocking_steps : (input : ixl.Input) (connection : ℕ) (world : WorldState) (network : Links) → Are world network → On (interlocking_stepped site table input world) (run_links (interlocking_events site table input connection world.interlocking) network)
  unfolding interlocking_stepped
  interlocking_steps input connection world network n = all_same (interlocking_stepped site table input world) network (run_links (interlocking_events site table input connection world.interlocking) network)
      (λ link. ap lists_of (laws.a_node_makes_a_step (map (node_call site connection) (interlocking_step site table input world.interlocking).calls) network link)) n

  ticks : (node : Option nodes.Node) (world : WorldState) (network : Links) → Are world network → On (ticked_at site table node world) (run_links (tick_events site table node world) network)
  ticks None world network n = all_same world network network (λ link. refl) n
  ticks (Some nodes.Interlocking) world network n = interlocking_steps ixl.Tick 0 world network n
  ticks (Some (nodes.Signal place)) world network n = signals_step HostInput.Tick 0 place world network n
  ticks (Some (nodes.Point place)) world network n = points_step HostInput.Tick 0 place world network n
  ticks (Some (nodes.Detector place)) world network n = detectors_step HostInput.Tick 0 place world network n

  comes : (bytes : List ℕ) (connection : ℕ) (node : Option nodes.Node) (world : WorldState) (network : Links) → Are world network → On (delivered_to site table bytes connection node world) (run_links (delivery_events site table bytes connection node world) network)
  comes bytes connection None world network n = all_same world network network (λ link. refl) n
  comes bytes connection (Some nodes.Interlocking) world network n = interlocking_steps (ixl.Datagram bytes) connection world network n
  comes bytes connection (Some (nodes.Signal place)) world network n = signals_step (coming bytes) connection place world network n
  comes bytes connection (Some (nodes.Point place)) world network n = points_step (coming bytes) connection place world network n
  comes bytes connection (Some (nodes.Detector place)) world network n = detectors_step (coming bytes) connection place world network n

  senses : (occupancy : Occupancy) (reporter : Option (ℕ × ℕ)) (world : WorldState) (network : Links) → Are world network
      → On (sensed_by site occupancy reporter world) (run_links (contact_events site reporter (λ place. HostInput.Sense (Sense.Section place occupancy)) world.detectors) network)
  senses occupancy None world network n = all_same world network network (λ link. refl) n
  senses occupancy (Some reporter) world network n = detectors_step (HostInput.Sense (Sense.Section reporter.1 occupancy)) 0 reporter.0 world network n

  -- controllers that are made anew
  signals_anew : (begins : Beginning) (place : ℕ) (found : Option SignalEntry) (world : WorldState) (network : Links) → slice_get site.signals place ≡ found → Are world network → On (signal_anew site begins place found world) (run_links (anew_events begins.clock begins.first place found) network)
  signals_anew begins place None world network e n = all_same world network network (λ link. refl) n
  signals_anew begins place (Some entry) world network e n =
      let other = all_same world network (happened_to (RestartsOn place Role.Server begins.clock begins.first) network) (anew_keeps place Role.Server begins.clock begins.first network) n
      in record {
        of_signals = anew_held OfSignal (λ k. k) (new_signal site begins entry) begins.clock (length world.sent) place world.signals (happened_to (RestartsOn place Role.Server begins.clock begins.first) network) (λ x h. keeps.new_signals begins place entry x.host _ e (other.of_signals place x h)) other.of_signals;
        of_points = other.of_points;
        of_detectors = other.of_detectors;
      }

  points_anew : (begins : Beginning) (place : ℕ) (found : Option PointEntry) (world : WorldState) (network : Links) → slice_get site.points place ≡ found → Are world network → On (point_anew site begins place found world) (run_links (anew_events begins.clock begins.first (point_link site place) found) network)
  points_anew begins place None world network e n = all_same world network network (λ link. refl) n
  points_anew begins place (Some entry) world network e n =
      let other = all_same world network (happened_to (RestartsOn (point_link site place) Role.Server begins.clock begins.first) network) (anew_keeps (point_link site place) Role.Server begins.clock begins.first network) n
      in record {
        of_signals = other.of_signals;
        of_points = anew_held OfPoint (point_link site) _ begins.clock (length world.sent) place world.points (happened_to (RestartsOn (point_link site place) Role.Server begins.clock begins.first) network) (λ x h. keeps.new_points begins _ place entry x.host _ e (other.of_points place x h)) other.of_points;
        of_detectors = other.of_detectors;
      }

  detectors_anew : (begins : Beginning) (place : ℕ) (found : Option DetectorEntry) (world : WorldState) (network : Links) → slice_get site.detectors place ≡ found → Are world network
      → On (detector_anew site begins place found world) (run_links (anew_events begins.clock begins.first (detector_link site place) found) network)
  detectors_anew begins place None world network e n = all_same world network network (λ link. refl) n
  detectors_anew begins place (Some entry) world network e n =
      let other = all_same world network (happened_to (RestartsOn (detector_link site place) Role.Server begins.clock begins.first) network) (anew_keeps (detector_link site place) Role.Server begins.clock begins.first network) n
      in record {
        of_signals = other.of_signals;
        of_points = other.of_points;
        of_detectors = anew_held OfDetector (detector_link site) _ begins.clock (length world.sent) place world.detectors (happened_to (RestartsOn (detector_link site place) Role.Server begins.clock begins.first) network) (λ x h. keeps.new_detectors begins world.occupancies place entry x.host _ e (other.of_detectors place x h)) other.of_detectors;
      }

  restarts : (begins : Beginning) (node : Option nodes.Node) (world : WorldState) (network : Links) → Are world network → On (made_anew site table begins node world) (run_links (restart_events site begins.clock begins.first node) network)
  restarts begins None world network n = all_same world network network (λ link. refl) n
  restarts begins (Some nodes.Interlocking) world network n = all_same (made_anew site table begins (Some nodes.Interlocking) world) network _ (all_anew_keeps Role.Client begins.clock (λ link. begins.first) (numbers_below (links site)) network) n
  restarts begins (Some (nodes.Signal place)) world network n = signals_anew begins place (slice_get site.signals place) world network refl n
  restarts begins (Some (nodes.Point place)) world network n = points_anew begins place (slice_get site.points place) world network refl n
  restarts begins (Some (nodes.Detector place)) world network n = detectors_anew begins place (slice_get site.detectors place) world network refl n

  time_held : (elapsed : ℕ) (clocks : List ℕ) (world : WorldState) (network : Links) → Are world network → On (passed elapsed clocks world) (run_links (time_events elapsed clocks) network)
  unfolding passed end_later
  time_held elapsed clocks world network n = record {
    of_signals = later_held OfSignal (λ k. k) (length world.sent) (drop 1 clocks) world.signals after n.of_signals;
    of_points = later_held OfPoint (point_link site) (length world.sent) _ world.points after n.of_points;
    of_detectors = later_held OfDetector (detector_link site) (length world.sent) _ world.detectors after n.of_detectors;
  }
    where
      after : Links
      after = run_links (time_events elapsed clocks) network

  event_held : (happening : Event) (world : WorldState) (network : Links) → Are world network → On (happens site table happening world) (run_links (events_of site table happening world) network)
  unfolding happens events_of
  event_held (Event.Request command) world network n = interlocking_steps (ixl.Commands command) 0 world network n
  event_held (Event.Occupy section occupancy) world network n = senses occupancy (slice_get table.reporters section.0) (record world { occupancies = slice_set world.occupancies section.0 occupancy }) network n
  event_held (Event.Tick node) world network n = ticks (node_at site node.0) world network n
  event_held (Event.Time elapsed clocks) world network n = time_held elapsed clocks world network n
  event_held (Event.Deliver node bytes) world network n = comes bytes (connection_of (copy_of bytes world)) (node_at site node.0) world network n
  event_held (Event.Lose bytes) world network n = all_same (happens site table (Event.Lose bytes) world) network (run_links (events_of site table (Event.Lose bytes) world) network) (λ link. refl) n
  event_held (Event.Reach point position) world network n = points_step (HostInput.Sense (Sense.Position position)) 0 point.0 (record world { positions = slice_set world.positions point.0 position }) network n
  event_held (Event.Restart node clock first) world network n = restarts (record { clock = clock; first = first }) (node_at site node.0) world network n

  -- ---- every list of events

  are_of : (world : WorldState) (network : Links) → IsWhole site world → AreLinksOf site world network → On world network → Are world network
  are_of world network whole are held = record {
    signals_many = whole.signals;
    points_many = whole.points;
    signal_ends = λ place c e. let a = slice_get_within world.signals place c e in let b = whole.signals in
        end_of_it place c (omega (arith, a, b)) (at_front (map end_of_server world.signals) _ place (end_of_server c) (mapped end_of_server world.signals place c e));
    point_ends = λ place c e. let a = slice_get_within world.points place c e in let b = whole.points in
        end_of_it (point_link site place) c (omega (arith, a, b))
        (of_second (map end_of_server world.signals) _ _ (length site.signals) place (end_of_server c) (map_length _ world.signals ∙ whole.signals) (mapped end_of_server world.points place c e));
    detector_ends = λ place c e. let a = slice_get_within world.detectors place c e in let b = whole.detectors in
        end_of_it (detector_link site place) c (omega (arith, a, b))
        (of_third (map end_of_server world.signals) (map end_of_server world.points) _ (length site.signals) (length site.points) place (end_of_server c)
        (map_length _ world.signals ∙ whole.signals) (map_length _ world.points ∙ whole.points) (mapped end_of_server world.detectors place c e));
    of_signals = held.of_signals;
    of_points = held.of_points;
    of_detectors = held.of_detectors;
  }
    where
      end_of_it : {Object : Type 0} (link : ℕ) (c : ClockedControllerState Object) → link < links site → slice_get (server_ends world) link ≡ Some (end_of_server c) → IsEndOf laws c (network.ends link).server
      end_of_it link c below there =
          let id = at_place (partners site) link (subst (λ (n : ℕ). link < n) (sym (partners_length site)) below)
          in let s = are.servers link id.0 id.1
          in let kept : s.kept ≡ end_of_server c = same_Some s.kept (end_of_server c) (sym s.there ∙ there)
          in record { link_is = s.link_is ∙ ap (λ (k : ServerEnd). settled (reading_of k.clock) k.link) kept; clock_is = s.clock_is ∙ ap (λ (k : ServerEnd). k.clock) kept }

  pub held_after : (happening : Event) (world : WorldState) (network : Links) → IsWhole site world → AreLinksOf site world network → On world network → On (happens site table happening world) (run_links (events_of site table happening world) network)
  held_after happening world network whole are held = event_held happening world network (are_of world network whole are held)
