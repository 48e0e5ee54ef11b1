-- What the processes of a station's nodes show, drive and hold.
use Rattle.std.specs.Prelude.{◌≡◌, ℕ, List, [], Option, Some, None, slice_get}
use Rattle.node_kinds.specs.simulator_spec.layout.Entries.{DetectorEntry, Site}
use Rattle.node_kinds.specs.simulator_spec.layout.declared.entries.Point.{Point as PointEntry}
use Rattle.node_kinds.specs.simulator_spec.layout.declared.entries.Signal.{Signal as SignalEntry}
use Rattle.node_kinds.specs.simulator_spec.sci_telegram.declared.message.Aspect.{Aspect}
use Rattle.node_kinds.specs.simulator_spec.sci_telegram.declared.message.Aspect.TheVariants as aspects
use Rattle.node_kinds.specs.simulator_spec.sci_telegram.declared.message.Position.{Position}
use Rattle.node_kinds.specs.simulator_spec.sci_telegram.declared.message.Side.{Side}
use Rattle.node_kinds.specs.simulator_spec.rasta_core.Ends.{reading_of}
use Rattle.node_kinds.specs.simulator_spec.signal_ctl.Signal.{SignalState}
use Rattle.node_kinds.specs.simulator_spec.point_ctl.Drive.{PointState}
use Rattle.node_kinds.specs.simulator_spec.tds_ctl.declared.section.Section.{Section as SectionState}
use Rattle.node_kinds.specs.simulator_spec.ixl_spec.Table.{Table}
use Rattle.node_kinds.specs.simulator_spec.simulator_event.declared.event.Event.{Event}
use Rattle.node_kinds.specs.simulator_spec.First.{Outset, new_ixl, new_point, new_signal}
use Rattle.node_kinds.specs.simulator_spec.Interlocking.{held_of}
use Rattle.node_kinds.specs.simulator_spec.simulator_event.declared.snapshot.Snapshot.{Snapshot}
use Rattle.simulator_node_laws.specs.Lives.{detector_sensing, first_life}
use Rattle.simulator_node_laws.specs.Said.{detector_life}
use Rattle.simulator_node_laws.specs.Shown.{AreAll, frozen_in, interlocking_life, point_life, signal_life}
use Rattle.node_kinds.specs.node_drive.node_lines.Orders.{aspect_ordered, side_ordered}
use Rattle.node_kinds.specs.node_drive.node_lines.declared.order.Order.{Order}
use Rattle.node_kinds.specs.node_drive.Kinds.{Kind}
use Rattle.node_kinds.specs.node_drive.Lives.{came}
use Rattle.node_kinds.specs.node_drive.Rounds.{Coming, Standing, all_come}
use Rattle.node_kinds.specs.Controllers.{Controller, OwnSections, detector_kind, point_kind, signal_kind}
use Rattle.node_kinds.specs.Interlockings.{InterlockingNode, interlocking_kind}

-- ---- one process

-- How a process stood when it had made its node, and what came since, each with its reading.
pub record Process (State : Type 0) : Type 0 where
  pub first : Standing State
  pub comings : List (ℕ × Coming)

-- how it stands then
abbrev pub now_stands : {State Input : Type 0} → Kind State Input → Process State → Standing State
now_stands kind process = (all_come kind process.comings process.first).1

-- It lived so: what came to its node is what came to the node of this life. Its equipment was told last to do what a new node of
-- its kind has it do, which is nothing where it has none that does something.
pub record Lived {State Input : Type 0} (kind : Kind State Input) (inputs : List (ℕ × Input)) (process : Process State) : Type 0 where
  pub told : process.first.course.order ≡ kind.order process.first.state
  pub came_is : came kind process.comings process.first ≡ inputs

-- what equipment shows, or to where it drives, at a reading by the last order that it was told
abbrev pub shown_by : Option Order → ℕ → Aspect
shown_by None now = aspects.Stop
shown_by (Some order) now = aspect_ordered order now

abbrev pub driven_by : Option Order → ℕ → Option Side
driven_by None now = None
driven_by (Some order) now = side_ordered order now

-- ---- those of a station

pub record Processes : Type 0 where
  pub station : Process InterlockingNode
  -- by the place of the signal, of the point, or of the detector
  pub signal : ℕ → Process (Controller SignalState (Unit {0}))
  pub point : ℕ → Process (Controller PointState Position)
  pub detector : ℕ → Process (Controller (List SectionState) OwnSections)

-- Each lived as its node does in these events, since that was made last.
pub record AreOf (site : Site) (table : Table) (outset : Outset) (events : List Event) (processes : Processes) : Type 0 where
  pub station_site : processes.station.first.state.site ≡ site
  pub station_table : processes.station.first.state.table ≡ table
  pub station_made : processes.station.first.state.ixl ≡ new_ixl site table (interlocking_life site table events).begins
  pub station_lived : Lived interlocking_kind (interlocking_life site table events).came processes.station
  pub signal_made : (place : ℕ) (entry : SignalEntry) → slice_get site.signals place ≡ Some entry
      → (processes.signal place).first.state.host ≡ new_signal site (signal_life site table events place).begins entry
  pub signal_lived : (place : ℕ) (entry : SignalEntry) → slice_get site.signals place ≡ Some entry
      → Lived signal_kind (signal_life site table events place).came (processes.signal place)
  pub point_made : (place : ℕ) (entry : PointEntry) → slice_get site.points place ≡ Some entry
      → (processes.point place).first.state.host ≡ new_point site (point_life site table outset events place).begins (point_life site table outset events place).sensed entry
  pub point_lived : (place : ℕ) (entry : PointEntry) → slice_get site.points place ≡ Some entry
      → Lived point_kind (point_life site table outset events place).came (processes.point place)
  pub detector_made : (place : ℕ) (entry : DetectorEntry) → slice_get site.detectors place ≡ Some entry
      → (processes.detector place).first.state.host ≡ detector_sensing site (detector_life site table outset events place).begins (detector_life site table outset events place).sensed entry
  pub detector_lived : (place : ℕ) (entry : DetectorEntry) → slice_get site.detectors place ≡ Some entry
      → Lived detector_kind (detector_life site table outset events place).came (processes.detector place)

-- ---- what is seen

-- A snapshot is what the equipment of each process shows or drives by the last order that it was told, what the interlocking's
-- process holds, and where the points stand.
pub record IsOfProcesses (site : Site) (table : Table) (outset : Outset) (events : List Event) (processes : Processes) (seen : Snapshot) : Type 0 where
  pub shows : AreAll site.signals seen.shows.items
      (λ place entry. record { 0 = shown_by (now_stands signal_kind (processes.signal place)).course.order (reading_of (signal_life site table events place).clock) })
  pub driven : AreAll site.points seen.driven.items
      (λ place entry. driven_by (now_stands point_kind (processes.point place)).course.order (reading_of (point_life site table outset events place).clock))
  pub position : AreAll site.points seen.position.items (λ place entry. record { 0 = (point_life site table outset events place).contacts })
  pub held : seen.held.items ≡ held_of table (record { ixl = (now_stands interlocking_kind processes.station).state.ixl; clock = (interlocking_life site table events).clock; connections = [] })
      (frozen_in site table events (first_life tt) [])
