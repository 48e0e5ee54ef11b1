-- What is kept of every client and every controller of a station by their steps is kept by each event of it.
use Rattle.simulator_recovery.proofs.Words.Basics.{◌≡◌, ℕ, zero, suc, List, [], ◌∷◌, length, Option, Some, None, slice_get, slice_set, ◌⊎◌, inl, inr, refl, sym, ap, subst, drop, All as AllOf, zip, get_or_from_slice_get, none-some, same_Some, slice_get_within}
use Rattle.simulator_recovery.proofs.Words.Links.{reading_of}
use Rattle.simulator_recovery.proofs.Words.Controllers.{Occupancy, Position, Behaviour, HostState, host_step, Input as HostInput, Sense, SignalState, signal_behaviour, point_behaviour, PointState, detection_behaviour, Section}
use Rattle.simulator_recovery.proofs.Words.Interlockings.{ClientState, IxlState, changed, Node, begun_with, empty_outbox, Table}
use Rattle.simulator_recovery.proofs.Words.Stations.{DetectorEntry, Site, Point as PointEntry, Signal as SignalEntry, Event, controller_after, controller_anew, controller_later, step_of, Beginning, Outset, at_zero, new_detector, new_ixl, new_point, new_signal, point_standing, world_at, Stepped, all_later, coming, delivered_to, detector_anew, detector_stepped, happens, interlocking_stepped, made_anew, passed, point_anew, point_stepped, sensed_by, signal_anew, signal_stepped, stepped_at, ticked_at, connection_of, copy_of, key_of, node_at, after_all, ClockedControllerState, WorldState, IsReached}
use Rattle.simulator_recovery.proofs.Words.Recovery.{EachClient}
use Rattle.simulator_spec.specs.ixl_spec.Step as ixl
use Rattle.simulator_spec.specs.Nodes as nodes
use Rattle.simulator_recovery.proofs.Lemmas.Ground.IxlClients.{ClientsKeep, changed_at, mapped_at, step_kept}

-- ---- lists

set_at : {X : Type 0} (list : List X) (place : ℕ) (new : X) (k : ℕ) (y : X) → slice_get (slice_set list place new) k ≡ Some y → ((k ≡ place) × (y ≡ new)) ⊎ (slice_get list k ≡ Some y)
set_at [] place new k y e = inr e
set_at (x ∷ xs) zero new zero y e = inl (refl, sym (same_Some new y e))
set_at (x ∷ xs) zero new (suc k) y e = inr e
set_at (x ∷ xs) (suc place) new zero y e = inr e
set_at (x ∷ xs) (suc place) new (suc k) y e = choose (set_at xs place new k y e)
  where
    choose : ((k ≡ place) × (y ≡ new)) ⊎ (slice_get xs k ≡ Some y) → ((suc k ≡ suc place) × (y ≡ new)) ⊎ (slice_get xs k ≡ Some y)
    choose (inl (f, g)) = inl (ap suc f, g)
    choose (inr f) = inr f

pub all_at : {X : Type 0} (P : X → Type 0) (list : List X) → AllOf P list → (place : ℕ) (one : X) → slice_get list place ≡ Some one → P one
all_at P list all place one e = subst P (get_or_from_slice_get list place one one e) (all place one (slice_get_within list place one e))

-- ---- the controllers of one kind

-- something of each controller of a list, by its place
abbrev AllAt : {Object : Type 0} → (ℕ → HostState Object → Type 0) → List (ClockedControllerState Object) → Type 0
AllAt {Object} Q servers = (place : ℕ) (server : ClockedControllerState Object) → slice_get servers place ≡ Some server → Q place server.host

module _ {Object : Type 0} (does : Behaviour Object) (Q : ℕ → HostState Object → Type 0) (step : (now : ℕ) (input : HostInput) (place : ℕ) (host : HostState Object) → Q place host → Q place (host_step does now input host).host) where
  stepped_all : (input : HostInput) (connection time link place : ℕ) (found : Option (ClockedControllerState Object)) (all : Stepped Object) → slice_get all.servers place ≡ found → AllAt Q all.servers
      → AllAt Q (stepped_at does input connection time link place found all).servers
  unfolding stepped_at controller_after
  stepped_all input connection time link place None all e each = each
  stepped_all input connection time link place (Some server) all e each = λ k one f. choose k one (set_at all.servers place new k one f)
    where
      new : ClockedControllerState Object
      new = controller_after (step_of does input server) connection (length all.sent) server

      now_is : Q place new.host
      now_is = step (reading_of server.clock) input place server.host (each place server e)

      choose : (k : ℕ) (one : ClockedControllerState Object) → ((k ≡ place) × (one ≡ new)) ⊎ (slice_get all.servers k ≡ Some one) → Q k one.host
      choose k one (inl (f, g)) = subst (λ (n : ℕ). Q n one.host) (sym f) (subst (λ (c : ClockedControllerState Object). Q place c.host) (sym g) now_is)
      choose k one (inr f) = each k one f

pub later_at : {Object : Type 0} (moment : ℕ) (steps : List ℕ) (servers : List (ClockedControllerState Object)) (place : ℕ) (one : ClockedControllerState Object) → slice_get (all_later moment steps servers) place ≡ Some one
    → (server : ClockedControllerState Object) × (slice_get servers place ≡ Some server) × (one.host ≡ server.host) × (one.connection ≡ server.connection)
unfolding controller_later
later_at moment steps [] place one e = absurd (none-some one e)
later_at moment [] (first ∷ others) place one e = (one, e, refl, refl)
later_at moment (step ∷ steps) (first ∷ others) zero one e =
    (first, refl, sym (ap (λ (c : ClockedControllerState _). c.host) (same_Some _ one e)), sym (ap (λ (c : ClockedControllerState _). c.connection) (same_Some _ one e)))
later_at moment (step ∷ steps) (first ∷ others) (suc place) one e = later_at moment steps others place one e

later_all : {Object : Type 0} (Q : ℕ → HostState Object → Type 0) (moment : ℕ) (steps : List ℕ) (servers : List (ClockedControllerState Object)) → AllAt Q servers → AllAt Q (all_later moment steps servers)
later_all Q moment steps servers each place one e = let found = later_at moment steps servers place one e in subst (Q place) (sym found.2) (each place found.0 found.1)

anew_all : {Object : Type 0} (Q : ℕ → HostState Object → Type 0) (host : HostState Object) (clock moment place : ℕ) (servers : List (ClockedControllerState Object)) → Q place host → AllAt Q servers → AllAt Q (changed (controller_anew host clock moment) place servers)
unfolding controller_anew
anew_all Q host clock moment place servers is each k one e = choose (changed_at (controller_anew host clock moment) place servers k one e)
  where
    choose : ((k ≡ place) × (x : ClockedControllerState _) × (slice_get servers place ≡ Some x) × (one ≡ controller_anew host clock moment x)) ⊎ (slice_get servers k ≡ Some one) → Q k one.host
    choose (inl (f, x, g, h)) = subst (λ (n : ℕ). Q n one.host) (sym f) (subst (λ (c : ClockedControllerState _). Q place c.host) (sym h) is)
    choose (inr f) = each k one f

-- ---- an event

-- What is kept of the clients of an interlocking and of the controllers, by their places: each is made so, and each step keeps it.
pub record StationKeeps (site : Site) (OfClient : Node → ClientState → Type 0) (Clocked : ℕ → Node → ClientState → Type 0) (OfSignal : ℕ → HostState SignalState → Type 0) (OfPoint : ℕ → HostState PointState → Type 0)
    (OfDetector : ℕ → HostState (List Section) → Type 0) : Type 0 where
  pub clients_keep : (now : ℕ) → ClientsKeep now OfClient (Clocked now)
  pub new_clients : (table : Table) (begins : Beginning) → EachClient OfClient (new_ixl site table begins)
  pub signal_steps : (now : ℕ) (input : HostInput) (place : ℕ) (host : HostState SignalState) → OfSignal place host → OfSignal place (host_step signal_behaviour now input host).host
  pub new_signal_is : (begins : Beginning) (entry : SignalEntry) (place : ℕ) → slice_get site.signals place ≡ Some entry → OfSignal place (new_signal site begins entry)
  pub point_steps : (now : ℕ) (input : HostInput) (place : ℕ) (host : HostState PointState) → OfPoint place host → OfPoint place (host_step point_behaviour now input host).host
  pub new_point_is : (begins : Beginning) (position : Position) (entry : PointEntry) (place : ℕ) → slice_get site.points place ≡ Some entry → OfPoint place (new_point site begins position entry)
  pub detector_steps : (now : ℕ) (input : HostInput) (place : ℕ) (host : HostState (List Section)) → OfDetector place host → OfDetector place (host_step detection_behaviour now input host).host
  pub new_detector_is : (begins : Beginning) (occupied : List Occupancy) (entry : DetectorEntry) (place : ℕ) → slice_get site.detectors place ≡ Some entry → OfDetector place (new_detector site begins occupied entry)

-- the first of two lists that go together
pub first_of : {X Y : Type 0} (one : List X) (other : List Y) (place : ℕ) (both : X × Y) → slice_get (zip one other) place ≡ Some both → slice_get one place ≡ Some both.0
first_of [] other place both e = absurd (none-some both e)
first_of (x ∷ one) [] place both e = absurd (none-some both e)
first_of (x ∷ one) (y ∷ other) zero both e = ap (λ (p : _ × _). Some p.0) (same_Some (x, y) both e)
first_of (x ∷ one) (y ∷ other) (suc place) both e = first_of one other place both e

module _ (site : Site) (table : Table) (OfClient : Node → ClientState → Type 0) (Clocked : ℕ → Node → ClientState → Type 0) (OfSignal : ℕ → HostState SignalState → Type 0) (OfPoint : ℕ → HostState PointState → Type 0)
    (OfDetector : ℕ → HostState (List Section) → Type 0) (keeps : StationKeeps site OfClient Clocked OfSignal OfPoint OfDetector) where
  -- a world with these controllers and this interlocking
  pub record Parts (ixl : IxlState) (signals : List (ClockedControllerState SignalState)) (points : List (ClockedControllerState PointState)) (detectors : List (ClockedControllerState (List Section))) : Type 0 where
    pub clients : EachClient OfClient ixl
    pub of_signals : AllAt OfSignal signals
    pub of_points : AllAt OfPoint points
    pub of_detectors : AllAt OfDetector detectors

  abbrev pub Kept : WorldState → Type 0
  Kept world = Parts world.interlocking.ixl world.signals world.points world.detectors

  signals_step : (input : HostInput) (connection place : ℕ) (world : WorldState) → Kept world → Kept (signal_stepped site input connection place world)
  unfolding signal_stepped
  signals_step input connection place world all = record {
    clients = all.clients;
    of_signals = stepped_all signal_behaviour OfSignal keeps.signal_steps input connection world.time place place (slice_get world.signals place) (record { servers = world.signals; sent = world.sent }) refl all.of_signals;
    of_points = all.of_points;
    of_detectors = all.of_detectors;
  }

  points_step : (input : HostInput) (connection place : ℕ) (world : WorldState) → Kept world → Kept (point_stepped site input connection place world)
  unfolding point_stepped
  points_step input connection place world all = record {
    clients = all.clients;
    of_signals = all.of_signals;
    of_points = stepped_all point_behaviour OfPoint keeps.point_steps input connection world.time (nodes.point_link site place) place (slice_get world.points place) (record { servers = world.points; sent = world.sent }) refl all.of_points;
    of_detectors = all.of_detectors;
  }

  detectors_step : (input : HostInput) (connection place : ℕ) (world : WorldState) → Kept world → Kept (detector_stepped site input connection place world)
  unfolding detector_stepped
  detectors_step input connection place world all = record {
    clients = all.clients;
    of_signals = all.of_signals;
    of_points = all.of_points;
    of_detectors = stepped_all detection_behaviour OfDetector keeps.detector_steps input connection world.time (nodes.detector_link site place) place
        (slice_get world.detectors place) (record { servers = world.detectors; sent = world.sent }) refl all.of_detectors;
  }

  interlocking_steps : (input : ixl.Input) (world : WorldState) → Kept world → Kept (interlocking_stepped site table input world)
  unfolding interlocking_stepped
  interlocking_steps input world all = record {
    clients = step_kept (reading_of world.interlocking.clock) OfClient (Clocked (reading_of world.interlocking.clock)) (keeps.clients_keep (reading_of world.interlocking.clock)) table (key_of site) input (begun_with world.interlocking.ixl empty_outbox) all.clients;
    of_signals = all.of_signals;
    of_points = all.of_points;
    of_detectors = all.of_detectors;
  }

  ticks : (node : Option nodes.Node) (world : WorldState) → Kept world → Kept (ticked_at site table node world)
  ticks None world all = all
  ticks (Some nodes.Interlocking) world all = interlocking_steps ixl.Tick world all
  ticks (Some (nodes.Signal place)) world all = signals_step HostInput.Tick 0 place world all
  ticks (Some (nodes.Point place)) world all = points_step HostInput.Tick 0 place world all
  ticks (Some (nodes.Detector place)) world all = detectors_step HostInput.Tick 0 place world all

  comes : (bytes : List ℕ) (connection : ℕ) (node : Option nodes.Node) (world : WorldState) → Kept world → Kept (delivered_to site table bytes connection node world)
  comes bytes connection None world all = all
  comes bytes connection (Some nodes.Interlocking) world all = interlocking_steps (ixl.Datagram bytes) world all
  comes bytes connection (Some (nodes.Signal place)) world all = signals_step (coming bytes) connection place world all
  comes bytes connection (Some (nodes.Point place)) world all = points_step (coming bytes) connection place world all
  comes bytes connection (Some (nodes.Detector place)) world all = detectors_step (coming bytes) connection place world all

  senses : (occupancy : Occupancy) (reporter : Option (ℕ × ℕ)) (world : WorldState) → Kept world → Kept (sensed_by site occupancy reporter world)
  senses occupancy None world all = all
  senses occupancy (Some reporter) world all = detectors_step (HostInput.Sense (Sense.Section reporter.1 occupancy)) 0 reporter.0 world all

  -- controllers that are made
  signals_anew : (begins : Beginning) (place : ℕ) (found : Option SignalEntry) (world : WorldState) → slice_get site.signals place ≡ found → Kept world → Kept (signal_anew site begins place found world)
  signals_anew begins place None world e all = all
  signals_anew begins place (Some entry) world e all = record {
    clients = all.clients;
    of_signals = anew_all OfSignal (new_signal site begins entry) begins.clock (length world.sent) place world.signals (keeps.new_signal_is begins entry place e) all.of_signals;
    of_points = all.of_points;
    of_detectors = all.of_detectors;
  }

  points_anew : (begins : Beginning) (place : ℕ) (found : Option PointEntry) (world : WorldState) → slice_get site.points place ≡ found → Kept world → Kept (point_anew site begins place found world)
  points_anew begins place None world e all = all
  points_anew begins place (Some entry) world e all = record {
    clients = all.clients;
    of_signals = all.of_signals;
    of_points = anew_all OfPoint _ begins.clock (length world.sent) place world.points (keeps.new_point_is begins _ entry place e) all.of_points;
    of_detectors = all.of_detectors;
  }

  detectors_anew : (begins : Beginning) (place : ℕ) (found : Option DetectorEntry) (world : WorldState) → slice_get site.detectors place ≡ found → Kept world → Kept (detector_anew site begins place found world)
  detectors_anew begins place None world e all = all
  detectors_anew begins place (Some entry) world e all = record {
    clients = all.clients;
    of_signals = all.of_signals;
    of_points = all.of_points;
    of_detectors = anew_all OfDetector _ begins.clock (length world.sent) place world.detectors (keeps.new_detector_is begins world.occupancies entry place e) all.of_detectors;
  }

  restarts : (begins : Beginning) (node : Option nodes.Node) (world : WorldState) → Kept world → Kept (made_anew site table begins node world)
  restarts begins None world all = all
  restarts begins (Some nodes.Interlocking) world all = record { clients = keeps.new_clients table begins; of_signals = all.of_signals; of_points = all.of_points; of_detectors = all.of_detectors }
  restarts begins (Some (nodes.Signal place)) world all = signals_anew begins place (slice_get site.signals place) world refl all
  restarts begins (Some (nodes.Point place)) world all = points_anew begins place (slice_get site.points place) world refl all
  restarts begins (Some (nodes.Detector place)) world all = detectors_anew begins place (slice_get site.detectors place) world refl all

  one_event : (happening : Event) (world : WorldState) → Kept world → Kept (happens site table happening world)
  unfolding happens passed
  one_event (Event.Request command) world all = interlocking_steps (ixl.Commands command) world all
  one_event (Event.Occupy section occupancy) world all = senses occupancy (slice_get table.reporters section.0) (record world { occupancies = slice_set world.occupancies section.0 occupancy }) all
  one_event (Event.Tick node) world all = ticks (node_at site node.0) world all
  one_event (Event.Time elapsed clocks) world all = record {
    clients = all.clients;
    of_signals = later_all OfSignal (length world.sent) (drop 1 clocks) world.signals all.of_signals;
    of_points = later_all OfPoint (length world.sent) _ world.points all.of_points;
    of_detectors = later_all OfDetector (length world.sent) _ world.detectors all.of_detectors;
  }
  one_event (Event.Deliver node bytes) world all = comes bytes (connection_of (copy_of bytes world)) (node_at site node.0) world all
  one_event (Event.Lose bytes) world all = all
  one_event (Event.Reach point position) world all = points_step (HostInput.Sense (Sense.Position position)) 0 point.0 (record world { positions = slice_set world.positions point.0 position }) all
  one_event (Event.Restart node clock first) world all = restarts (record { clock = clock; first = first }) (node_at site node.0) world all

  all_events : (events : List Event) (world : WorldState) → Kept world → Kept (after_all site table events world)
  all_events [] world all = all
  all_events (first ∷ others) world all = all_events others (happens site table first world) (one_event first world all)

  first_world : (outset : Outset) → Kept (world_at site table outset)
  unfolding world_at
  first_world outset = record {
    clients = keeps.new_clients table at_zero;
    of_signals = λ place one e. let found = mapped_at _ site.signals place one e in subst (λ (c : ClockedControllerState SignalState). OfSignal place c.host) (sym found.2) (keeps.new_signal_is at_zero found.0 place found.1);
    of_points = λ place one e. let found = mapped_at (point_standing site) (zip site.points outset.positions) place one e in subst (λ (c : ClockedControllerState PointState). OfPoint place c.host) (sym found.2) (keeps.new_point_is at_zero found.0.1 found.0.0 place (first_of site.points outset.positions place found.0 found.1));
    of_detectors = λ place one e. let found = mapped_at _ site.detectors place one e in subst (λ (c : ClockedControllerState (List Section)). OfDetector place c.host) (sym found.2) (keeps.new_detector_is at_zero outset.occupancies found.0 place found.1);
  }

  pub kept_on : (happening : Event) (world : WorldState) → Kept world → Kept (happens site table happening world)
  kept_on = one_event

  pub kept_first : (outset : Outset) → Kept (world_at site table outset)
  kept_first = first_world

  pub always_kept : (world : WorldState) → IsReached site table world → Kept world
  always_kept world reached = subst Kept (sym reached.after) (all_events reached.events (world_at site table reached.outset) (first_world reached.outset))
