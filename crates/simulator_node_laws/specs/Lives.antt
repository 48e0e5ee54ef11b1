-- The life of a node: how it was made, what its clock reads, and all that came to it since, with the reading at which it
-- came. It follows from the events alone, whatever any node or the network does.
use Rattle.std.specs.Prelude.{◌≡◌, ℕ, suc, ◌+◌, ◌*◌, ◌==◌, Bool, true, false, if◌then◌else◌, List, [], ◌∷◌, ◌++◌, map, Option, Some, None, slice_get, slice_set, slice_index_or}
use Rattle.std.specs.List.{zip}
use Rattle.simulator_spec.specs.sci_telegram.declared.message.Occupancy.{Occupancy}
use Rattle.simulator_spec.specs.sci_telegram.declared.message.Occupancy.TheVariants as occupancies
use Rattle.simulator_spec.specs.sci_telegram.declared.message.Position.{Position}
use Rattle.simulator_spec.specs.sci_telegram.declared.message.Position.TheVariants as positions
use Rattle.simulator_spec.specs.layout.declared.entries.Point.{Point as PointEntry}
use Rattle.simulator_spec.specs.layout.declared.entries.Signal.{Signal as SignalEntry}
use Rattle.simulator_spec.specs.layout.declared.ids.SectionId.{SectionId}
use Rattle.simulator_spec.specs.layout.Entries.{DetectorEntry, Site}
use Rattle.simulator_spec.specs.rasta_core.Ends.{reading_of}
use Rattle.simulator_spec.specs.object_host.Behaviour.{Behaviour}
use Rattle.simulator_spec.specs.object_host.Host.{HostState}
use Rattle.simulator_spec.specs.object_host.Step.{host_step}
use Rattle.simulator_spec.specs.object_host.declared.input.Input.{Input}
use Rattle.simulator_spec.specs.object_host.declared.input.Input.TheVariants as inputs
use Rattle.simulator_spec.specs.object_host.declared.sense.Sense.TheVariants as sense
use Rattle.simulator_spec.specs.signal_ctl.Signal.{signal_behaviour}
use Rattle.simulator_spec.specs.point_ctl.Controlled.{point_behaviour}
use Rattle.simulator_spec.specs.tds_ctl.Controlled.{detection_behaviour}
use Rattle.simulator_spec.specs.tds_ctl.Sections as sections
use Rattle.simulator_spec.specs.tds_ctl.declared.section.Section.{Section}
use Rattle.simulator_spec.specs.ixl_spec.StepSoFar.{begun_with, empty_outbox}
use Rattle.simulator_spec.specs.ixl_spec.State.{IxlState}
use Rattle.simulator_spec.specs.ixl_spec.Step as ixl
use Rattle.simulator_spec.specs.ixl_spec.Table.{Table}
use Rattle.simulator_spec.specs.simulator_event.declared.event.Event.{Event}
use Rattle.simulator_spec.specs.simulator_event.declared.event.Event.TheVariants as event
use Rattle.simulator_spec.specs.First.{Beginning, Outset, at_zero, host_of, new_ixl, new_point, new_signal}
use Rattle.simulator_spec.specs.Nodes.{Node, Interlocking, Signal, Point, Detector, detector_link, key_of, node_at, point_link}
use Rattle.simulator_spec.specs.State.{ClockedControllerState, WorldState}
use Rattle.simulator_node_laws.specs.Told.{Told, ToInterlocking, ToSignal, ToPoint, ToDetector, told}

-- ---- one node by itself

-- a controller after all that came to it, each with the reading of its clock
unfoldable pub host_after : {Object : Type 0} → Behaviour Object → List (ℕ × Input) → HostState Object → HostState Object
host_after does [] host = host
host_after does (one ∷ others) host = host_after does others (host_step does one.0 one.1 host).host

-- and so an interlocking
unfoldable pub ixl_after : Site → Table → List (ℕ × ixl.Input) → IxlState → IxlState
ixl_after site table [] state = state
ixl_after site table (one ∷ others) state =
    ixl_after site table others (ixl.stepped one.0 table (key_of site) one.1 (begun_with state empty_outbox)).ixl

-- ---- lives

pub record Life (Contacts Coming : Type 0) : Type 0 where
  -- with which clock and first number it was made, and how its contacts were then
  pub begins : Beginning
  pub sensed : Contacts
  -- its exact clock, in microseconds, and its contacts as they are
  pub clock : ℕ
  pub contacts : Contacts
  -- what came to it, oldest first, each with the reading of its clock, in milliseconds
  pub came : List (ℕ × Coming)

-- One node: its place among all clocks, what of that which is told comes to it, whether it is the one that is made anew, and
-- how its contacts are once something has come to it.
pub record Who (Contacts Coming : Type 0) : Type 0 where
  pub number : ℕ
  pub hearing : Told → Option Coming
  pub is : Option Node → Bool
  pub contact : Coming → Contacts → Contacts

module _ {Contacts Coming : Type 0} where
  abbrev pub born : Beginning → Contacts → Life Contacts Coming
  born begins contacts = record { begins = begins; sensed = contacts; clock = begins.clock * 1000; contacts = contacts; came = [] }

  abbrev pub hears : (Coming → Contacts → Contacts) → Option Coming → Life Contacts Coming → Life Contacts Coming
  hears contact None life = life
  hears contact (Some input) life = record life { contacts = contact input life.contacts; came = life.came ++ (reading_of life.clock, input) ∷ [] }

  abbrev pub anew_where : Bool → Beginning → Life Contacts Coming → Life Contacts Coming
  anew_where true begins life = born begins life.contacts
  anew_where false begins life = life

  -- what an event changes of a life before anything comes to the node: its clock goes on, or it is made anew
  abbrev pub turned : Site → Who Contacts Coming → Event → Life Contacts Coming → Life Contacts Coming
  turned site who (event.Time elapsed clocks) life = record life { clock = life.clock + slice_index_or clocks who.number 0 }
  turned site who (event.Restart node clock first) life = anew_where (who.is (node_at site node.0)) (record { clock = clock; first = first }) life
  turned site who _ life = life

  abbrev pub life_after : Site → Table → Who Contacts Coming → Event → Life Contacts Coming → Life Contacts Coming
  life_after site table who happening life = hears who.contact (who.hearing (told site table happening)) (turned site who happening life)

  -- after a list of events
  abbrev pub life_in : Site → Table → Who Contacts Coming → List Event → Life Contacts Coming → Life Contacts Coming
  life_in site table who [] life = life
  life_in site table who (first ∷ others) life = life_in site table who others (life_after site table who first life)

-- where a point stands when the station is started
abbrev pub position_in : Outset → ℕ → Position
position_in outset place = slice_index_or outset.positions place positions.NoEndPosition

-- how the sections of a detector are, in its own order, where those of the station are so
abbrev pub own_occupancies : List Occupancy → List SectionId → List Occupancy
own_occupancies occupied own = map (λ section. slice_index_or occupied section.0 occupancies.Clear) own

-- those of an entry, if it is there
abbrev pub occupancies_at : List Occupancy → Option DetectorEntry → List Occupancy
occupancies_at occupied None = []
occupancies_at occupied (Some entry) = own_occupancies occupied entry.sections

-- and when the station is started
abbrev pub sections_in : Site → Outset → ℕ → List Occupancy
sections_in site outset place = occupancies_at outset.occupancies (slice_get site.detectors place)

-- the life of a node from then on
abbrev pub first_life : {Contacts Coming : Type 0} → Contacts → Life Contacts Coming
first_life contacts = born at_zero contacts

-- ---- the nodes of a station

abbrev pub only : {A : Type 0} → ℕ → ℕ → A → Option A
only place at input = if at == place then Some input else None

abbrev pub interlocking_hears : Told → Option ixl.Input
interlocking_hears (ToInterlocking input) = Some input
interlocking_hears _ = None

abbrev pub is_interlocking : Option Node → Bool
is_interlocking (Some Interlocking) = true
is_interlocking _ = false

abbrev pub the_interlocking : Who (Unit {0}) ixl.Input
the_interlocking = record { number = 0; hearing = interlocking_hears; is = is_interlocking; contact = λ input contacts. contacts }

abbrev pub signal_hears : ℕ → Told → Option Input
signal_hears place (ToSignal at input) = only place at input
signal_hears place _ = None

abbrev pub is_signal : ℕ → Option Node → Bool
is_signal place (Some (Signal at)) = at == place
is_signal place _ = false

abbrev pub signal_at : ℕ → Who (Unit {0}) Input
signal_at place = record { number = suc place; hearing = signal_hears place; is = is_signal place; contact = λ input contacts. contacts }

abbrev pub point_hears : ℕ → Told → Option Input
point_hears place (ToPoint at input) = only place at input
point_hears place _ = None

abbrev pub is_point : ℕ → Option Node → Bool
is_point place (Some (Point at)) = at == place
is_point place _ = false

-- where a point stands: what its contacts told last
abbrev pub position_after : Input → Position → Position
position_after (inputs.Sense (sense.Position position)) old = position
position_after _ old = old

abbrev pub point_at : Site → ℕ → Who Position Input
point_at site place = record { number = suc (point_link site place); hearing = point_hears place; is = is_point place; contact = position_after }

abbrev pub detector_hears : ℕ → Told → Option Input
detector_hears place (ToDetector at input) = only place at input
detector_hears place _ = None

abbrev pub is_detector : ℕ → Option Node → Bool
is_detector place (Some (Detector at)) = at == place
is_detector place _ = false

-- which of its own sections are occupied, in its own order: what their contacts told last
abbrev pub occupied_after : Input → List Occupancy → List Occupancy
occupied_after (inputs.Sense (sense.Section section occupancy)) old = slice_set old section occupancy
occupied_after _ old = old

abbrev pub detector_at : Site → ℕ → Who (List Occupancy) Input
detector_at site place = record { number = suc (detector_link site place); hearing = detector_hears place; is = is_detector place; contact = occupied_after }

-- the names of a detector's own sections
abbrev pub own_names : Site → List SectionId → List (List ℕ)
own_names site own = map (λ section. slice_index_or site.sections section.0 []) own

-- a detector that senses its own sections so, in its own order
abbrev pub detector_sensing : Site → Beginning → List Occupancy → DetectorEntry → HostState (List Section)
detector_sensing site begins sensed entry =
    host_of detection_behaviour site begins entry.name entry.id (map sections.made (zip (own_names site entry.sections) sensed))

-- ---- a world's node is what it has lived

pub record LivesAsInterlocking (site : Site) (table : Table) (world : WorldState) (life : Life (Unit {0}) ixl.Input) : Type 0 where
  pub state : world.interlocking.ixl ≡ ixl_after site table life.came (new_ixl site table life.begins)
  pub clock : world.interlocking.clock ≡ life.clock

-- A controller of a list is there, and is what came of its first state by what came to it.
pub record LivesAt {Object Contacts : Type 0} (does : Behaviour Object) (new : Beginning → Contacts → HostState Object) (servers : List (ClockedControllerState Object)) (place : ℕ)
    (life : Life Contacts Input) : Type 0 where
  pub server : ClockedControllerState Object
  pub there : slice_get servers place ≡ Some server
  pub state : server.host ≡ host_after does life.came (new life.begins life.sensed)
  pub clock : server.clock ≡ life.clock

abbrev pub LivesAsSignal : Site → SignalEntry → WorldState → ℕ → Life (Unit {0}) Input → Type 0
LivesAsSignal site entry world place life = LivesAt signal_behaviour (λ begins sensed. new_signal site begins entry) world.signals place life

pub record LivesAsPoint (site : Site) (entry : PointEntry) (world : WorldState) (place : ℕ) (life : Life Position Input) : Type 0 where
  pub lives : LivesAt point_behaviour (λ begins position. new_point site begins position entry) world.points place life
  pub stands : slice_get world.positions place ≡ Some life.contacts

-- A detector knows of its own sections alone.
pub record LivesAsDetector (site : Site) (entry : DetectorEntry) (world : WorldState) (place : ℕ) (life : Life (List Occupancy) Input) : Type 0 where
  pub lives : LivesAt detection_behaviour (λ begins sensed. detector_sensing site begins sensed entry) world.detectors place life
  pub occupied : life.contacts ≡ own_occupancies world.occupancies entry.sections
