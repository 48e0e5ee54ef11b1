-- The controllers as kinds of node. Their steps are those of a world's controllers.
use Rattle.std.specs.Prelude.{ℕ, Bool, true, false, List, [], ◌∷◌, ◌==◌, map, Option, Some, None, slice_get, slice_set, Result, Ok, Err}
use Rattle.std.specs.List.{position}
use Rattle.node_drive.specs.replay_words.Cut.{words}
use Rattle.node_drive.specs.replay_words.declared.fault.Fault.{Fault}
use Rattle.node_drive.specs.replay_words.declared.fault.Fault.TheVariants.{Name, Words}
use Rattle.simulator_spec.specs.layout.Entries.{Site}
use Rattle.simulator_spec.specs.layout.declared.ids.SectionId.{SectionId}
use Rattle.simulator_spec.specs.sci_telegram.declared.message.Aspect.{Aspect}
use Rattle.simulator_spec.specs.sci_telegram.declared.message.Aspect.TheVariants as aspects
use Rattle.simulator_spec.specs.sci_telegram.declared.message.Occupancy.{Occupancy}
use Rattle.simulator_spec.specs.sci_telegram.declared.message.Occupancy.TheVariants as occupancies
use Rattle.simulator_spec.specs.sci_telegram.declared.message.Position.{Position}
use Rattle.simulator_spec.specs.sci_telegram.declared.message.Position.TheVariants as positions
use Rattle.simulator_spec.specs.rasta_core.Outbox.{spellings}
use Rattle.simulator_spec.specs.object_host.Behaviour.{Behaviour}
use Rattle.simulator_spec.specs.object_host.Host.{HostState}
use Rattle.simulator_spec.specs.object_host.Step.{host_step}
use Rattle.simulator_spec.specs.object_host.declared.input.Input.{Input}
use Rattle.simulator_spec.specs.object_host.declared.input.Input.TheVariants as inputs
use Rattle.simulator_spec.specs.object_host.declared.sense.Sense.TheVariants as sense
use Rattle.simulator_spec.specs.signal_ctl.Lamp.{Lamp}
use Rattle.simulator_spec.specs.signal_ctl.Signal.{SignalState, signal_behaviour}
use Rattle.simulator_spec.specs.point_ctl.Controlled.{point_behaviour}
use Rattle.simulator_spec.specs.point_ctl.Drive.{PointState, drive_of}
use Rattle.simulator_spec.specs.point_ctl.declared.drive.Drive.{Drive as DriveUnderWay}
use Rattle.simulator_spec.specs.tds_ctl.Controlled.{detection_behaviour}
use Rattle.simulator_spec.specs.tds_ctl.declared.section.Section.{Section as SectionState}
use Rattle.simulator_spec.specs.Happens.{coming}
use Rattle.node_drive.specs.node_lines.Reports.{report_said}
use Rattle.node_drive.specs.node_lines.declared.order.Order.{Order}
use Rattle.node_drive.specs.node_lines.declared.order.Order.TheVariants.{ShowStop, ShowProceed, ShowSlow, DriveNone, Drive}
use Rattle.node_drive.specs.node_lines.declared.report.FieldReport.{FieldReport}
use Rattle.node_drive.specs.node_lines.declared.report.FieldReport.TheVariants as reports
use Rattle.node_drive.specs.Kinds.{Kind, Meaning, InForce, Comes, Faulty}
use Rattle.node_drive.specs.Waiting.{Addressed}

-- ---- what the equipment has to do

abbrev pub order_of : Aspect → ℕ → Order
order_of aspects.Stop until = ShowStop
order_of aspects.Proceed until = ShowProceed until
order_of aspects.Slow until = ShowSlow until

-- the line of a lamp: its aspect, and the moment from which it is stop
abbrev pub lamp_order : Lamp → Order
lamp_order lamp = order_of lamp.indicated lamp.until

-- and that of a point
abbrev pub drive_order : Option DriveUnderWay → Order
drive_order None = DriveNone
drive_order (Some drive) = Drive drive.side drive.until

-- ---- what a line of the equipment tells

abbrev pub is_same_position : Position → Position → Bool
is_same_position positions.Left positions.Left = true
is_same_position positions.Right positions.Right = true
is_same_position positions.NoEndPosition positions.NoEndPosition = true
is_same_position _ _ = false

abbrev pub is_same_occupancy : Occupancy → Occupancy → Bool
is_same_occupancy occupancies.Clear occupancies.Clear = true
is_same_occupancy occupancies.Occupied occupancies.Occupied = true
is_same_occupancy _ _ = false

-- what a contact told last and tells again comes to nobody
abbrev pub unless_again : Bool → Input → Meaning Input
unless_again true input = Comes [] []
unless_again false input = Comes [] (input ∷ [])

-- a signal has no contacts
abbrev pub told_to_signal : Result FieldReport Fault → Meaning Input
told_to_signal (Ok (reports.Done number)) = InForce number
told_to_signal (Ok (reports.Section section occupancy)) = Faulty Name
told_to_signal (Ok (reports.Point position)) = Faulty Words
told_to_signal (Err fault) = Faulty fault

abbrev pub told_to_point : Position → Result FieldReport Fault → Meaning Input
told_to_point last (Ok (reports.Done number)) = InForce number
told_to_point last (Ok (reports.Section section occupancy)) = Faulty Name
told_to_point last (Ok (reports.Point position)) = unless_again (is_same_position last position) (inputs.Sense (sense.Position position))
told_to_point last (Err fault) = Faulty fault

-- the place of a section among a detector's own
abbrev pub own_place : List SectionId → SectionId → Option ℕ
own_place own section = position (λ (one : SectionId). one.0 == section.0) own

abbrev pub stands_so : Occupancy → Option Occupancy → Bool
stands_so occupancy None = false
stands_so occupancy (Some last) = is_same_occupancy last occupancy

abbrev pub told_of_section : List Occupancy → Occupancy → Option ℕ → Meaning Input
told_of_section last occupancy None = Faulty Name
told_of_section last occupancy (Some place) = unless_again (stands_so occupancy (slice_get last place)) (inputs.Sense (sense.Section place occupancy))

abbrev pub told_to_detector : List SectionId → List Occupancy → Result FieldReport Fault → Meaning Input
told_to_detector own last (Ok (reports.Done number)) = InForce number
told_to_detector own last (Ok (reports.Section section occupancy)) = told_of_section last occupancy (own_place own section)
told_to_detector own last (Ok (reports.Point position)) = Faulty Words
told_to_detector own last (Err fault) = Faulty fault

-- ---- contacts

-- where a point lies: what its contacts told last
abbrev pub position_after : Input → Position → Position
position_after (inputs.Sense (sense.Position position)) old = position
position_after _ old = old

-- which of its own sections are occupied, in the detector's own order: what their contacts told last
abbrev pub occupied_after : Input → List Occupancy → List Occupancy
occupied_after (inputs.Sense (sense.Section section occupancy)) old = slice_set old section occupancy
occupied_after _ old = old

-- ---- the kinds

-- a controller in a station of this layout, and what its contacts told last
pub record Controller (Object Contacts : Type 0) : Type 0 where
  pub site : Site
  pub host : HostState Object
  pub contacts : Contacts

-- all datagrams of a controller go to the interlocking, which is node 0
abbrev pub to_interlocking : List (List ℕ) → List Addressed
to_interlocking datagrams = map (λ (bytes : List ℕ). (record { 0 = 0 }, bytes)) datagrams

-- by the step of a world's controller, by what its equipment has to do, what a line tells it, and how its contacts are once something
-- has come
abbrev pub controller : {Object Contacts : Type 0} → Behaviour Object → (Object → Option Order) → (Site → List ℕ → Contacts → Meaning Input) → (Input → Contacts → Contacts)
    → Kind (Controller Object Contacts) Input
controller does order meaning contact = record {
  after = λ now input c. record c { host = (host_step does now input c.host).host; contacts = contact input c.contacts };
  hands = λ now input c. to_interlocking (spellings c.host.link.identity.key (host_step does now input c.host).pdus);
  keeps = λ now input c. None;
  says = λ now input c. [];
  tick = inputs.Tick;
  datagram = coming;
  is_partner = λ node. node.0 == 0;
  order = λ c. order c.host.object;
  meaning = λ now text c. meaning c.site text c.contacts;
  stands = λ now c. [];
  is_done = λ c. false;
}

abbrev pub signal_kind : Kind (Controller SignalState (Unit {0})) Input
signal_kind = controller signal_behaviour (λ signal. Some (lamp_order signal.lamp)) (λ site text contacts. told_to_signal (report_said site (words text))) (λ input contacts. contacts)

abbrev pub point_kind : Kind (Controller PointState Position) Input
point_kind = controller point_behaviour (λ point. Some (drive_order (drive_of point))) (λ site text last. told_to_point last (report_said site (words text))) position_after

-- a detector's own sections, and how each was told last
pub record OwnSections : Type 0 where
  pub own : List SectionId
  pub last : List Occupancy

abbrev pub sections_after : Input → OwnSections → OwnSections
sections_after input sections = record sections { last = occupied_after input sections.last }

abbrev pub detector_kind : Kind (Controller (List SectionState) OwnSections) Input
detector_kind = controller detection_behaviour (λ sections. None) (λ site text sections. told_to_detector sections.own sections.last (report_said site (words text))) sections_after
