-- What the interlocking knows of sections, and what their detectors have told of them.
use Rattle.std.specs.Prelude.{◌≡◌, ◌≢◌, ℕ, ◌==◌, ◌<◌, Bool, true, false, List, [], ◌∷◌, ◌++◌, ◌≤◌, length, Option, Some, None, slice_get, if◌then◌else◌}
use Rattle.std.specs.FinSet.{contains}
use Rattle.simulator_spec.specs.layout.Entries.{Site}
use Rattle.simulator_spec.specs.rasta_core.Clock.{settled}
use Rattle.simulator_spec.specs.rasta_core.Ends.{reading_of}
use Rattle.simulator_spec.specs.rasta_core.Links.{Links}
use Rattle.simulator_spec.specs.rasta_core.Parameters.{window_size}
use Rattle.simulator_spec.specs.rasta_core.State.{is_open, is_up}
use Rattle.simulator_spec.specs.sci_telegram.declared.message.Occupancy.{Occupancy}
use Rattle.simulator_spec.specs.sci_telegram.declared.message.Occupancy.TheVariants.{Clear, Occupied}
use Rattle.simulator_spec.specs.object_host.Host.{HostState, is_completed}
use Rattle.simulator_spec.specs.tds_ctl.declared.section.Section.{Section}
use Rattle.simulator_spec.specs.ixl_client.Client.{PeerState, is_ready}
use Rattle.simulator_spec.specs.ixl_client.Made.{told_by_all}
use Rattle.simulator_spec.specs.ixl_client.declared.indication.Indication.{Indication}
use Rattle.simulator_spec.specs.ixl_spec.Due.{At, IsClear, IsOccupied}
use Rattle.simulator_spec.specs.ixl_spec.State.{IxlState, KnownDetectorState}
use Rattle.simulator_spec.specs.ixl_spec.Step.{is_told_occupied}
use Rattle.simulator_spec.specs.ixl_spec.Table.{Table}
use Rattle.simulator_spec.specs.simulator_event.declared.event.Event.{Event}
use Rattle.simulator_spec.specs.simulator_event.declared.event.Event.TheVariants as event
use Rattle.simulator_spec.specs.Nodes.{Detector, detector_link, node_at}
use Rattle.simulator_spec.specs.State.{ClockedControllerState, WorldState}
use Rattle.simulator_spec.specs.Flow.{Flowing}
use Rattle.simulator_link_laws.specs.HasLinks.{HasLinks, links_in}
use Rattle.simulator_recovery.specs.HandedOver.{HasSpokenAlone}
use Rattle.simulator_recovery.specs.Rounds.{good_rounds}

-- ---- what reports tell

abbrev pub is_occupied : Occupancy → Bool
is_occupied Clear = false
is_occupied Occupied = true

-- Whether the section at a place is told as occupied by the last of these indications that is of it; where none is, as it was told before.
abbrev pub told_behind : ℕ → Option Bool → List Indication → Option Bool
told_behind place before [] = before
told_behind place before (first ∷ others) = told_behind place (if place == first.place then Some (is_told_occupied first.state) else before) others

-- So it is told by items that a detector has given to this client, if one of them tells of it.
abbrev pub told_in : PeerState → ℕ → List (List ℕ) → Option Bool
told_in peer place items = told_behind place None (told_by_all peer items)

abbrev pub is_told : Option Bool → Bool
is_told None = false
is_told (Some occupied) = occupied

-- ---- what is known

-- While its link is up, the client of a detector holds those sections for occupied of which the last report tells so, of those that it has
-- taken in the connection. Once it is ready, and up at this reading, each of its sections was told.
pub record KnowsByReports (now : ℕ) (known : KnownDetectorState) (taken : List (List ℕ)) : Type 0 where
  pub last : is_up known.client.link.phase ≡ true → (place : ℕ) → contains known.occupied place ≡ is_told (told_in known.client.peer place taken)
  pub each : is_ready known.client.stage ≡ true → is_up (settled now known.client.link).phase ≡ true → (place : ℕ) → place < length known.client.peer.objects → (occupied : Bool) × (told_in known.client.peer place taken ≡ Some occupied)

-- Once the initialisation of its connection is completed, what a detector has told last of a section is the section as it is, unless it
-- still owes its report.
pub record TellsAsTheyAre (peer : PeerState) (host : HostState (List Section)) (given : List (List ℕ)) : Type 0 where
  pub told : is_open host.link.phase ≡ true → is_completed host.stage ≡ true → (place : ℕ) (section : Section) → slice_get host.object place ≡ Some section → section.owes ≡ false
      → told_in peer place given ≡ Some (is_occupied section.occupancy)

-- All detectors of a station, with what was given and taken at their ends of the links.
pub record AllReport (site : Site) (world : WorldState) (network : Links) : Type 0 where
  pub clients : (place : ℕ) (known : KnownDetectorState) → slice_get world.interlocking.ixl.detectors place ≡ Some known → KnowsByReports (reading_of world.interlocking.clock) known (network.ends (detector_link site place)).client.taken
  pub detectors : (place : ℕ) (known : KnownDetectorState) (controller : ClockedControllerState (List Section)) → slice_get world.interlocking.ixl.detectors place ≡ Some known → slice_get world.detectors place ≡ Some controller
      → TellsAsTheyAre known.client.peer controller.host (network.ends (detector_link site place)).server.given

-- the links of a station, and what its detectors have told there
pub record HaveReported (site : Site) (world : WorldState) : Type 0 where
  pub has : HasLinks site world
  pub reports : AllReport site world (links_in has)

-- ---- how sections are

-- a fact of a section as its detector has it
abbrev pub SectionIs : Table → WorldState → ℕ → (Section → Type 0) → Type 0
SectionIs table world section holds = At table.reporters section (λ reporter. At world.detectors reporter.0 (λ controller. At controller.host.object reporter.1 holds))

-- its detector owes no report of it
abbrev pub OwesNone : Table → WorldState → ℕ → Type 0
OwesNone table world section = SectionIs table world section (λ one. one.owes ≡ false)

abbrev pub IsKnownAs : Table → IxlState → ℕ → Occupancy → Type 0
IsKnownAs table ixl section Clear = IsClear table ixl section
IsKnownAs table ixl section Occupied = IsOccupied table ixl section

-- The interlocking knows a section as its detector has it.
abbrev pub IsKnownAsItIs : Table → WorldState → ℕ → Type 0
IsKnownAsItIs table world section = SectionIs table world section (λ one. IsKnownAs table world.interlocking.ixl section one.occupancy)

-- Each detector has its sections as they are in the field.
pub record SensesAsTheyAre (table : Table) (world : WorldState) : Type 0 where
  pub sensed : (section : ℕ) (reporter : ℕ × ℕ) (controller : ClockedControllerState (List Section)) (one : Section) → slice_get table.reporters section ≡ Some reporter → slice_get world.detectors reporter.0 ≡ Some controller
      → slice_get controller.host.object reporter.1 ≡ Some one → slice_get world.occupancies section ≡ Some one.occupancy

-- The interlocking knows a section as it is in the field.
abbrev pub IsKnownAsInTheField : Table → WorldState → ℕ → Type 0
IsKnownAsInTheField table world section = At world.occupancies section (IsKnownAs table world.interlocking.ixl section)

-- An event that tells nothing of a section's occupancy, and doesn't make its detector anew.
abbrev pub LeavesSection : Site → Table → ℕ → Event → Type 0
LeavesSection site table section (event.Occupy other occupancy) = other.0 ≢ section
LeavesSection site table section (event.Restart node clock first) = (reporter : ℕ × ℕ) → slice_get table.reporters section ≡ Some reporter → node_at site node.0 ≢ Some (Detector reporter.0)
LeavesSection site table section _ = Unit {0}

-- the link of the detector that reports a section
abbrev pub ReportsOn : Site → Table → ℕ → ℕ → Type 0
ReportsOn site table section link = At table.reporters section (λ reporter. link ≡ detector_link site reporter.0)

-- The window of the link of its detector has room.
abbrev pub HasRoomToReport : Table → WorldState → ℕ → Type 0
HasRoomToReport table world section = At table.reporters section (λ reporter. At world.detectors reporter.0 (λ controller. length controller.host.link.waiting < window_size))

-- ---- how a detector's window gets room

-- Somewhere in these good rounds, after so many of them, stand two in which the interlocking gives nothing on a link, and says something in
-- the second.
pub record SpeaksAloneIn (link : ℕ) (between : List Event) (least : ℕ) (rounds : List (List Event)) (flowing : Flowing) : Type 0 where
  pub front : List (List Event)
  pub one : List Event
  pub two : List Event
  pub rest : List (List Event)
  pub are : rounds ≡ ((front ++ one ∷ []) ++ two ∷ []) ++ rest
  pub far : least ≤ length front
  pub spoken : HasSpokenAlone link (good_rounds (between ∷ front) flowing).state.run (good_rounds (between ∷ (front ++ one ∷ [])) flowing).state.run (good_rounds (between ∷ ((front ++ one ∷ []) ++ two ∷ [])) flowing).state.run

-- ---- how long a section takes

-- so many good rounds after its last change a section is known as it is in the field: 320 ms
abbrev pub section_rounds : ℕ
section_rounds = 32
