-- How a station is made: the first world of a layout, and a node that is made anew.
use Rattle.std.specs.Prelude.{◌≡◌, ℕ, false, List, [], length, map, Option, None, slice_index_or}
use Rattle.std.specs.List.{zip}
use Rattle.ixl_spec.specs.sci_telegram.declared.message.Occupancy.{Occupancy}
use Rattle.ixl_spec.specs.sci_telegram.declared.message.Occupancy.TheVariants as occupancies
use Rattle.ixl_spec.specs.sci_telegram.declared.message.Position.{Position}
use Rattle.ixl_spec.specs.sci_telegram.declared.message.Position.TheVariants as positions
use Rattle.ixl_spec.specs.rasta_core.Names.{identity_of}
use Rattle.ixl_spec.specs.rasta_core.identity.Role.TheVariants as role
use Rattle.ixl_spec.specs.layout.declared.entries.Point.{Point}
use Rattle.ixl_spec.specs.layout.declared.entries.Signal.{Signal}
use Rattle.ixl_spec.specs.layout.declared.ids.SectionId.{SectionId}
use Rattle.ixl_spec.specs.layout.Entries.{DetectorEntry, Site}
use Rattle.ixl_spec.specs.control_table.Table.{telegram_version}
use Rattle.object_host.specs.Host.{HostState}
use Rattle.object_host.specs.Hosted.{new_host}
use Rattle.object_host.specs.Behaviour.{Behaviour}
use Rattle.signal_ctl.specs.Lamp.{new_lamp}
use Rattle.signal_ctl.specs.Signal.{SignalState, signal_behaviour}
use Rattle.point_ctl.specs.Controlled.{point_behaviour}
use Rattle.point_ctl.specs.Drive.{PointState, made}
use Rattle.tds_ctl.specs.Controlled.{detection_behaviour}
use Rattle.tds_ctl.specs.Sections as sections
use Rattle.tds_ctl.specs.declared.section.Section.{Section}
use Rattle.ixl_spec.specs.Table.{Table}
pub use Rattle.ixl_spec.specs.First.{Beginning, client_of, new_detector_of, new_known_signal_of, new_route_of, new_known_point_of}
unfoldable pub use Rattle.ixl_spec.specs.First.{new_ixl}
use Rattle.simulator_spec.specs.Nodes.{names_of, partners}
use Rattle.simulator_spec.specs.State.{ClockedControllerState, ClockedInterlockingState, WorldState}

-- ---- object controllers

-- the host of an object under a name and an identity
abbrev pub host_of : {Object : Type 0} → Behaviour Object → Site → Beginning → List ℕ → ℕ → Object → HostState Object
host_of does site begins name id object =
    new_host does (identity_of role.Server (names_of site id)) name site.station.name begins.first begins.clock object (telegram_version site)

-- a signal that was told nothing yet
abbrev pub new_signal : Site → Beginning → Signal → HostState SignalState
new_signal site begins signal = host_of signal_behaviour site begins signal.name signal.id (record { lamp = new_lamp; owes = false })

-- a point that is sensed where it stands
abbrev pub new_point : Site → Beginning → Position → Point → HostState PointState
new_point site begins position point = host_of point_behaviour site begins point.name point.id (made position)

-- a section's name, and whether it is occupied
abbrev pub named_section : Site → List Occupancy → SectionId → List ℕ × Occupancy
named_section site occupied section = (slice_index_or site.sections section.0 [], slice_index_or occupied section.0 occupancies.Clear)

-- a detector that senses its sections as they are
abbrev pub new_detector : Site → Beginning → List Occupancy → DetectorEntry → HostState (List Section)
new_detector site begins occupied detector =
    host_of detection_behaviour site begins detector.name detector.id (map (λ section. sections.made (named_section site occupied section)) detector.sections)

-- ---- the first world

abbrev pub at_zero : Beginning
at_zero = record { clock = 0; first = 0 }

-- nothing was begun on a link
abbrev pub no_connection : ℕ → Option ℕ
no_connection id = None

-- a controller in no connection yet
abbrev pub first_controller : {Object : Type 0} → HostState Object → ClockedControllerState Object
first_controller host = record { host = host; clock = 0; connection = None; left = 0 }

-- How a station lies when it is started: where each point stands, and which sections are occupied.
pub record Outset : Type 0 where
  pub positions : List Position
  pub occupancies : List Occupancy

-- Each point of the layout has its position, and each section its occupancy.
pub record IsOutsetOf (site : Site) (outset : Outset) : Type 0 where
  pub positions : length outset.positions ≡ length site.points
  pub occupancies : length outset.occupancies ≡ length site.sections

-- the controller of a point, which senses it where it stands
abbrev pub point_standing : Site → Point × Position → ClockedControllerState PointState
point_standing site both = first_controller (new_point site at_zero both.1 both.0)

-- the interlocking, in no connection yet
abbrev pub first_interlocking : Site → Table → ClockedInterlockingState
first_interlocking site table = record { ixl = new_ixl site table at_zero; clock = 0; connections = map no_connection (partners site) }

-- A station as it lies: all clocks and first sequence numbers are 0, and nothing was sent.
unfoldable pub world_at : Site → Table → Outset → WorldState
world_at site table outset = record {
  time = 0;
  interlocking = first_interlocking site table;
  signals = map (λ signal. first_controller (new_signal site at_zero signal)) site.signals;
  points = map (point_standing site) (zip site.points outset.positions);
  detectors = map (λ detector. first_controller (new_detector site at_zero outset.occupancies detector)) site.detectors;
  positions = outset.positions;
  occupancies = outset.occupancies;
  sent = [];
  frozen = [];
}

-- every point stands left, and every section is clear
abbrev pub at_rest : Site → Outset
at_rest site = record { positions = map (λ point. positions.Left) site.points; occupancies = map (λ (name : List ℕ). occupancies.Clear) site.sections }

-- the world that begins so
unfoldable pub first_world : Site → Table → WorldState
first_world site table = world_at site table (at_rest site)
