-- What each event of a world is to its links: a list of events of theirs.
use Rattle.std.specs.Prelude.{ℕ, zero, suc, List, [], ◌∷◌, map, drop, Option, Some, None, slice_get, slice_index_or}
use Rattle.simulator_spec.specs.layout.Entries.{Site}
use Rattle.simulator_spec.specs.object_host.Behaviour.{Behaviour}
use Rattle.simulator_spec.specs.object_host.declared.input.Input.{Input}
use Rattle.simulator_spec.specs.object_host.declared.input.Input.TheVariants as inputs
use Rattle.simulator_spec.specs.object_host.declared.sense.Sense.TheVariants as sense
use Rattle.object_host_laws.specs.World.{as_call}
use Rattle.simulator_spec.specs.signal_ctl.Signal.{signal_behaviour}
use Rattle.simulator_spec.specs.point_ctl.Controlled.{point_behaviour}
use Rattle.simulator_spec.specs.tds_ctl.Controlled.{detection_behaviour}
use Rattle.simulator_spec.specs.tds_ctl.declared.section.Section.{Section}
use Rattle.simulator_spec.specs.rasta_core.Links.{CallsOn, Links, LinksEvent, LosesAny, MayRunLinks, PassesFor, RestartsOn, run_links}
use Rattle.simulator_spec.specs.rasta_core.Nodes.{calls_of, restarts_of}
use Rattle.simulator_spec.specs.rasta_core.identity.Role.TheVariants as role
use Rattle.simulator_spec.specs.ixl_spec.Step as ixl
use Rattle.simulator_spec.specs.ixl_spec.Table.{Table}
use Rattle.simulator_spec.specs.simulator_event.declared.event.Event.{Event}
use Rattle.simulator_spec.specs.simulator_event.declared.event.Event.TheVariants as event
use Rattle.simulator_spec.specs.Happens.{coming}
use Rattle.simulator_spec.specs.Links.{AreLinksOf, names_at}
use Rattle.simulator_spec.specs.Network.{connection_of, copy_of}
use Rattle.simulator_spec.specs.Nodes.{Node, Interlocking, Signal, Point, Detector, detector_link, links, node_at, point_link}
use Rattle.simulator_spec.specs.Controllers.{step_of}
use Rattle.simulator_spec.specs.State.{ClockedControllerState, ClockedInterlockingState, WorldState}
use Rattle.simulator_spec.specs.Interlocking.{interlocking_step}
use Rattle.simulator_link_laws.specs.Calls.{node_call}

-- ---- steps

-- a controller's step, where there is one: its calls at its end of the link
abbrev pub host_events : {Object : Type 0} → Behaviour Object → Input → (connection link : ℕ) → Option (ClockedControllerState Object) → List LinksEvent
host_events does input connection link None = []
host_events does input connection link (Some server) = map (λ call. CallsOn link role.Server call) (map (as_call connection) (step_of does input server).calls)

abbrev pub signal_events : Input → (connection place : ℕ) → WorldState → List LinksEvent
signal_events input connection place world = host_events signal_behaviour input connection place (slice_get world.signals place)

abbrev pub point_events : Site → Input → (connection place : ℕ) → WorldState → List LinksEvent
point_events site input connection place world = host_events point_behaviour input connection (point_link site place) (slice_get world.points place)

abbrev pub detector_events : Site → Input → (connection place : ℕ) → WorldState → List LinksEvent
detector_events site input connection place world =
    host_events detection_behaviour input connection (detector_link site place) (slice_get world.detectors place)

-- the interlocking's step: its calls at its ends of all links
abbrev pub interlocking_events : Site → Table → ixl.Input → (connection : ℕ) → ClockedInterlockingState → List LinksEvent
interlocking_events site table input connection station = calls_of role.Client (map (node_call site connection) (interlocking_step site table input station).calls)

abbrev pub tick_events : Site → Table → Option Node → WorldState → List LinksEvent
tick_events site table None world = []
tick_events site table (Some Interlocking) world = interlocking_events site table ixl.Tick 0 world.interlocking
tick_events site table (Some (Signal place)) world = signal_events inputs.Tick 0 place world
tick_events site table (Some (Point place)) world = point_events site inputs.Tick 0 place world
tick_events site table (Some (Detector place)) world = detector_events site inputs.Tick 0 place world

abbrev pub delivery_events : Site → Table → List ℕ → (connection : ℕ) → Option Node → WorldState → List LinksEvent
delivery_events site table bytes connection None world = []
delivery_events site table bytes connection (Some Interlocking) world = interlocking_events site table (ixl.Datagram bytes) connection world.interlocking
delivery_events site table bytes connection (Some (Signal place)) world = signal_events (coming bytes) connection place world
delivery_events site table bytes connection (Some (Point place)) world = point_events site (coming bytes) connection place world
delivery_events site table bytes connection (Some (Detector place)) world = detector_events site (coming bytes) connection place world

-- a detector's, at which a section is reported
abbrev pub contact_events : Site → Option (ℕ × ℕ) → (ℕ → Input) → List (ClockedControllerState (List Section)) → List LinksEvent
contact_events site None input detectors = []
contact_events site (Some reporter) input detectors =
    host_events detection_behaviour (input reporter.1) 0 (detector_link site reporter.0) (slice_get detectors reporter.0)

-- ---- time and restarts

-- every clock goes on by its step: the first is the interlocking's, the others are those of the controllers in their order
abbrev pub time_events : ℕ → List ℕ → List LinksEvent
time_events elapsed clocks = PassesFor elapsed (λ link. slice_index_or clocks 0 0) (λ link. slice_index_or (drop 1 clocks) link 0) ∷ []

-- the numbers of so many links
abbrev pub numbers_below : ℕ → List ℕ
numbers_below zero = []
numbers_below (suc n) = n ∷ numbers_below n

-- a controller of the layout is made anew
abbrev pub anew_events : {Entry : Type 0} → (clock first link : ℕ) → Option Entry → List LinksEvent
anew_events clock first link None = []
anew_events clock first link (Some entry) = RestartsOn link role.Server clock first ∷ []

abbrev pub restart_events : Site → (clock first : ℕ) → Option Node → List LinksEvent
restart_events site clock first None = []
restart_events site clock first (Some Interlocking) = restarts_of role.Client clock (λ link. first) (numbers_below (links site))
restart_events site clock first (Some (Signal place)) = anew_events clock first place (slice_get site.signals place)
restart_events site clock first (Some (Point place)) = anew_events clock first (point_link site place) (slice_get site.points place)
restart_events site clock first (Some (Detector place)) = anew_events clock first (detector_link site place) (slice_get site.detectors place)

-- ---- all events

unfoldable pub events_of : Site → Table → Event → WorldState → List LinksEvent
events_of site table (event.Request command) world = interlocking_events site table (ixl.Commands command) 0 world.interlocking
events_of site table (event.Occupy section occupancy) world =
    contact_events site (slice_get table.reporters section.0) (λ place. inputs.Sense (sense.Section place occupancy)) world.detectors
events_of site table (event.Tick node) world = tick_events site table (node_at site node.0) world
events_of site table (event.Time elapsed clocks) world = time_events elapsed clocks
events_of site table (event.Deliver node bytes) world = delivery_events site table bytes (connection_of (copy_of bytes world)) (node_at site node.0) world
events_of site table (event.Lose bytes) world = LosesAny bytes ∷ []
events_of site table (event.Reach point position) world = point_events site (inputs.Sense (sense.Position position)) 0 point.0 world
events_of site table (event.Restart node clock first) world = restart_events site clock first (node_at site node.0)

-- These events may happen to the links of a world, and lead to those of the next.
pub record FollowsBy (site : Site) (events : List LinksEvent) (new : WorldState) (before : Links) : Type 0 where
  pub may : MayRunLinks (links site) (names_at site) events before
  pub are : AreLinksOf site new (run_links events before)
