-- How many items an end of a link of a station has taken and given in its connection, and what its stage tells of that.
use Rattle.std.specs.Prelude.{◌≡◌, ℕ, ◌+◌, ◌≤◌, not, Bool, true, false, List, [], ◌∷◌, ◌++◌, length, map, Some, slice_get}
use Rattle.object_host_laws.specs.World.{Event, HostRestarts, World, host_of}
use Rattle.simulator_spec.specs.rasta_core.Parameters.{stops_at_greatest}
use Rattle.simulator_spec.specs.rasta_core.State.{LinkState, is_open, is_up}
use Rattle.simulator_spec.specs.object_host.Behaviour.{Behaviour}
use Rattle.simulator_spec.specs.rasta_core.Each.{Each}
use Rattle.simulator_spec.specs.rasta_core.Links.{Links}
use Rattle.simulator_spec.specs.sci_telegram.declared.message.Agreement.TheVariants.{NoMatch, Match}
use Rattle.simulator_spec.specs.sci_telegram.declared.message.Initialisation.TheVariants.{VersionAnswer}
use Rattle.simulator_spec.specs.object_host.Host.{HostState, said}
use Rattle.simulator_spec.specs.object_host.Told.{initialisation, item_of}
use Rattle.simulator_spec.specs.object_host.declared.report.Report.{Report}
use Rattle.simulator_spec.specs.object_host.Object.{ObjectCall, object_after}
use Rattle.simulator_spec.specs.object_host.Step.{initial_status, most_objects}
use Rattle.simulator_spec.specs.object_host.declared.stage.Stage.{Stage}
use Rattle.simulator_spec.specs.object_host.declared.stage.Stage.TheVariants as stage
use Rattle.simulator_spec.specs.ixl_client.Client.{ClientState, is_outside}
use Rattle.simulator_spec.specs.ixl_client.declared.stage.Stage.{Stage as ClientStage}
use Rattle.simulator_spec.specs.ixl_client.declared.stage.Stage.TheVariants as client_stages
use Rattle.simulator_spec.specs.layout.Entries.{DetectorEntry, Site}
use Rattle.simulator_spec.specs.ixl_spec.State.{IxlState, KnownDetectorState, KnownPointState, KnownSignalState}
use Rattle.simulator_spec.specs.ixl_spec.StepSoFar.{Detector, Node, Point, Signal}
use Rattle.simulator_spec.specs.signal_ctl.Signal.{SignalState, signal_behaviour}
use Rattle.simulator_spec.specs.point_ctl.Controlled.{point_behaviour}
use Rattle.simulator_spec.specs.point_ctl.Drive.{PointState}
use Rattle.simulator_spec.specs.tds_ctl.Controlled.{detection_behaviour}
use Rattle.simulator_spec.specs.tds_ctl.declared.section.Section.{Section}
use Rattle.simulator_spec.specs.Nodes.{detector_link, point_link}
use Rattle.simulator_spec.specs.State.{ClockedControllerState, WorldState}
use Rattle.simulator_link_laws.specs.HasLinks.{HasLinks, links_in}
use Rattle.simulator_recovery.specs.Conversation.{ClientHasActedOn, HostHasActedOn}

-- A link counts so many items taken and given in its connection, and no more wait than were given.
pub record HasCounted (taken given : ℕ) (link : LinkState) : Type 0 where
  pub taken_is : link.taken ≡ stops_at_greatest taken
  pub given_is : link.given ≡ stops_at_greatest given
  pub waiting : length link.waiting ≤ given

-- how many objects a host's initialisation tells of
abbrev pub objects_told : {Object : Type 0} → Behaviour Object → Object → ℕ
objects_told does object = length (initial_status does most_objects 0 object)

-- nothing that an object is told changes of how many it tells
pub record TellsAsMany {Object : Type 0} (does : Behaviour Object) : Type 0 where
  pub same : (call : ObjectCall) (object : Object) → objects_told does (object_after does call object) ≡ objects_told does object

-- The stage of a host tells how many items it has given, where its object tells of so many: none, the answer of the version, or at
-- least that and the whole initialisation.
abbrev pub HostHasGiven : ℕ → Stage → ℕ → Type 0
HostHasGiven objects stage.Outside count = count ≡ 0
HostHasGiven objects stage.AwaitsCheck count = count ≡ 0
HostHasGiven objects stage.AwaitsRequest count = count ≡ 1
HostHasGiven objects stage.Completed count = 3 + objects ≤ count
HostHasGiven objects stage.Refused count = count ≡ 1

-- what the link of a host counts is what its stage tells
pub record HostCountsByStage {Object : Type 0} (objects : ℕ) (host : HostState Object) : Type 0 where
  pub taken : ℕ
  pub given : ℕ
  pub counts : HasCounted taken given host.link
  pub acted : HostHasActedOn host.stage taken
  pub gave : HostHasGiven objects host.stage given

-- A host stands by its counts: while its link is open this counts as many items as the stage tells.
pub record HostStandsByCounts {Object : Type 0} (does : Behaviour Object) (objects : ℕ) (host : HostState Object) : Type 0 where
  pub tells : objects_told does host.object ≡ objects
  pub stands : is_open host.link.phase ≡ true → HostCountsByStage objects host

-- And that of a client: none, the check of the version, or at least that and the request for the initialisation.
abbrev pub ClientHasGiven : ClientStage → ℕ → Type 0
ClientHasGiven client_stages.Outside count = count ≡ 0
ClientHasGiven client_stages.AwaitsAnswer count = 1 ≤ count
ClientHasGiven client_stages.AwaitsStart count = 2 ≤ count
ClientHasGiven (client_stages.AwaitsStatus left) count = 2 ≤ count
ClientHasGiven client_stages.Completed count = 2 ≤ count
ClientHasGiven client_stages.AwaitsReport count = 2 ≤ count

-- what the link of a client counts is what its stage tells
pub record ClientCountsByStage (client : ClientState) : Type 0 where
  pub taken : ℕ
  pub given : ℕ
  pub counts : HasCounted taken given client.link
  pub acted : ClientHasActedOn client.peer client.stage taken
  pub gave : ClientHasGiven client.stage given

-- A client stands by its counts: while its link is open this counts as many items as the stage tells, and it is outside exactly
-- where its link isn't up.
pub record ClientStandsByCounts (client : ClientState) : Type 0 where
  pub outside : is_outside client.stage ≡ not (is_up client.link.phase)
  pub stands : is_open client.link.phase ≡ true → ClientCountsByStage client

-- ---- what a host says

-- a report that some object of this kind owes
pub record IsOwed {Object : Type 0} (does : Behaviour Object) (report : Report) : Type 0 where
  pub object : Object
  pub owes : does.owed object ≡ Some report

-- after the whole initialisation come reports that were owed
pub record HasSaidAll {Object : Type 0} (does : Behaviour Object) (item : Report → List ℕ) (version : ℕ) (items : List (List ℕ)) : Type 0 where
  -- some object of this kind, of which the initialisation tells
  pub object : Object
  pub reports : List Report
  pub owed : Each (IsOwed does) reports
  pub are : items ≡ item (said does (VersionAnswer Match version)) ∷ (map item (initialisation does object) ++ map item reports)

-- The items that a host has given in its connection, by its stage, and in this order: the answer of the version, the whole
-- initialisation, and reports.
abbrev pub HostHasSaid : {Object : Type 0} → Behaviour Object → (Report → List ℕ) → ℕ → Stage → List (List ℕ) → Type 0
HostHasSaid does item version stage.Outside items = items ≡ []
HostHasSaid does item version stage.AwaitsCheck items = items ≡ []
HostHasSaid does item version stage.AwaitsRequest items = items ≡ item (said does (VersionAnswer Match version)) ∷ []
HostHasSaid does item version stage.Completed items = HasSaidAll does item version items
HostHasSaid does item version stage.Refused items = items ≡ item (said does (VersionAnswer NoMatch version)) ∷ []

-- what a host gave in its connection before a step: nothing, where its link is in none by the clock rules
abbrev pub given_before : Bool → List (List ℕ) → List (List ℕ)
given_before true items = items
given_before false items = []

-- In a world of a commanding client and a host, this stands by its counts; and while its link is open, what its end has given in the
-- connection is what its stage tells.
pub record StandsByWhatItSaid {Object : Type 0} (does : Behaviour Object) (objects : ℕ) (world : World Object) : Type 0 where
  pub counts : HostStandsByCounts does objects (host_of world)
  pub said : is_open world.ends.server.link.phase ≡ true → HostHasSaid does (item_of (host_of world)) world.version world.stage world.ends.server.given

-- a host that is made anew has an object that tells of so many
abbrev pub MakesAsMany : {Object : Type 0} → Behaviour Object → ℕ → Event Object → Type 0
MakesAsMany does objects (HostRestarts clock first object) = objects_told does object ≡ objects
MakesAsMany does objects _ = Unit {0}

-- ---- a station

-- of how many objects a controller of a layout tells: a signal and a point of itself, a detector of each of its sections
abbrev pub IsToldAt : Site → Node → ℕ → Type 0
IsToldAt site (Signal place) count = count ≡ 1
IsToldAt site (Point place) count = count ≡ 1
IsToldAt site (Detector place) count = (entry : DetectorEntry) → slice_get site.detectors place ≡ Some entry → count ≡ length entry.sections

-- something of each client of an interlocking, by its place
pub record EachClient (P : Node → ClientState → Type 0) (ixl : IxlState) : Type 0 where
  pub signals : (place : ℕ) (known : KnownSignalState) → slice_get ixl.known_signals place ≡ Some known → P (Signal place) known.client
  pub points : (place : ℕ) (known : KnownPointState) → slice_get ixl.known_points place ≡ Some known → P (Point place) known.client
  pub detectors : (place : ℕ) (known : KnownDetectorState) → slice_get ixl.detectors place ≡ Some known → P (Detector place) known.client

-- The client of a controller stands by its counts, and awaits the states of as many objects as the controller tells of.
pub record ClientStandsAt (site : Site) (node : Node) (client : ClientState) : Type 0 where
  pub stands : ClientStandsByCounts client
  pub objects : IsToldAt site node (length client.peer.objects)

-- All ends of the links of a station stand by their counts.
pub record AllStandByCounts (site : Site) (world : WorldState) : Type 0 where
  pub clients : EachClient (ClientStandsAt site) world.interlocking.ixl
  pub signals : (place : ℕ) (controller : ClockedControllerState SignalState) → slice_get world.signals place ≡ Some controller → HostStandsByCounts signal_behaviour 1 controller.host
  pub points : (place : ℕ) (controller : ClockedControllerState PointState) → slice_get world.points place ≡ Some controller → HostStandsByCounts point_behaviour 1 controller.host
  pub detectors : (place : ℕ) (controller : ClockedControllerState (List Section)) (entry : DetectorEntry) → slice_get world.detectors place ≡ Some controller → slice_get site.detectors place ≡ Some entry
      → HostStandsByCounts detection_behaviour (length entry.sections) controller.host

-- While the link of a controller is open, these items are what its stage tells.
abbrev pub HasSaidAt : {Object : Type 0} → Behaviour Object → ClockedControllerState Object → List (List ℕ) → Type 0
HasSaidAt does controller items = is_open controller.host.link.phase ≡ true → HostHasSaid does (item_of controller.host) controller.host.version controller.host.stage items

-- While the link of a controller is open, what it has given there in its connection is what its stage tells.
pub record AllHaveSaid (site : Site) (world : WorldState) (network : Links) : Type 0 where
  pub signals : (place : ℕ) (controller : ClockedControllerState SignalState) → slice_get world.signals place ≡ Some controller → HasSaidAt signal_behaviour controller (network.ends place).server.given
  pub points : (place : ℕ) (controller : ClockedControllerState PointState) → slice_get world.points place ≡ Some controller → HasSaidAt point_behaviour controller (network.ends (point_link site place)).server.given
  pub detectors : (place : ℕ) (controller : ClockedControllerState (List Section)) → slice_get world.detectors place ≡ Some controller → HasSaidAt detection_behaviour controller (network.ends (detector_link site place)).server.given

-- the links of a station, and what its controllers have given there
pub record HaveSaid (site : Site) (world : WorldState) : Type 0 where
  pub has : HasLinks site world
  pub said : AllHaveSaid site world (links_in has)
