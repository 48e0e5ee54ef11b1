-- How each node of a station runs: as a process of `station node`, by the record of it, or in a program's own loop, by its calls.
use Rattle.std.specs.Prelude.{◌≡◌, ℕ, Bool, true, false, List, [], ◌∷◌, ◌++◌, Option, Some, None, slice_get}
use Rattle.std.specs.List.{list_all}
use Rattle.node_kinds.specs.simulator_spec.layout.Entries.{DetectorEntry, Site}
use Rattle.node_kinds.specs.simulator_spec.layout.declared.entries.Point.{Point as PointEntry}
use Rattle.node_kinds.specs.simulator_spec.layout.declared.entries.Signal.{Signal as SignalEntry}
use Rattle.node_kinds.specs.simulator_spec.object_host.Behaviour.{Behaviour}
use Rattle.node_kinds.specs.simulator_spec.object_host.Host.{HostState}
use Rattle.node_kinds.specs.simulator_spec.object_host.declared.input.Input.{Input as HostInput}
use Rattle.node_kinds.specs.simulator_spec.object_host.declared.input.Input.TheVariants as inputs
use Rattle.node_kinds.specs.simulator_spec.signal_ctl.Signal.{SignalState, signal_behaviour}
use Rattle.node_kinds.specs.simulator_spec.point_ctl.Controlled.{point_behaviour}
use Rattle.node_kinds.specs.simulator_spec.point_ctl.Drive.{PointState, drive_of}
use Rattle.node_kinds.specs.simulator_spec.tds_ctl.Controlled.{detection_behaviour}
use Rattle.node_kinds.specs.simulator_spec.ixl_spec.Step as ixl
use Rattle.node_kinds.specs.simulator_spec.ixl_spec.Table.{Table}
use Rattle.node_kinds.specs.simulator_spec.simulator_event.declared.event.Event.{Event}
use Rattle.node_kinds.specs.simulator_spec.First.{Outset, at_zero}
use Rattle.node_kinds.specs.node_drive.Calls.{Told}
use Rattle.node_kinds.specs.node_drive.Kinds.{Kind}
use Rattle.node_kinds.specs.node_drive.Lives.{came, state_after}
use Rattle.node_kinds.specs.node_drive.node_lines.declared.order.Order.{Order}
use Rattle.node_kinds.specs.Controllers.{Controller, detector_kind, drive_order, lamp_order, point_kind, signal_kind}
use Rattle.node_kinds.specs.Interlockings.{interlocking_kind}
use Rattle.node_kinds.specs.Processes.{detector_made, interlocking_made, point_made, signal_made}
use Rattle.node_kinds.specs.declared.keeping.Keeping.{Keeping}
use Rattle.node_kinds.specs.simulator_spec.ixl_spec.closings.declared.auxiliary.AuxiliaryCounts.{AuxiliaryCounts}
use Rattle.embedded_host.specs.Calls as loop
use Rattle.embedded_host.specs.Embedded.{started}
use Rattle.embedded_host.specs.Inputs.{inputs_by}
use Rattle.embedded_host.specs.Orders.{up_to_done}
use Rattle.embedded_ixl.specs.Calls as ixl_loop
use Rattle.embedded_ixl.specs.Embedded as ixl_program
use Rattle.embedded_ixl.specs.Inputs as ixl_inputs
use Rattle.simulator_node_laws.specs.Lives.{Life, host_after}
use Rattle.simulator_node_laws.specs.Said.{detector_life}
use Rattle.simulator_node_laws.specs.Shown.{interlocking_life, point_life, signal_life}
use Rattle.node_safety.specs.Processes.{Process}
use Rattle.node_safety.specs.Records.{IsRecorded}

-- what a contact told
abbrev pub is_contact : HostInput → Bool
is_contact (inputs.Sense sense) = true
is_contact input = false

-- An order that stands while the node is up: none stands once it is known to be down.
abbrev pub while_up : {Input : Type 0} → List (ℕ × Input) → Option Order → Option Order
while_up [] order = order
while_up (one ∷ others) order = None

-- ---- a process, by its record

-- The node of this life was made by a process, at its first reading, with its first number and as its contacts had told. What came to
-- it is what its process recorded, up to here; and after that what its contacts told while it was down.
pub record IsOfRecord {State Input Contacts : Type 0} (kind : Kind State Input) (is_told : Input → Bool) (node : State) (life : Life Contacts Input) : Type 0 where
  pub process : Process State
  pub ended : Bool
  pub old : Told
  pub new : Told
  pub recorded : IsRecorded kind ended node life.begins.clock process old new
  pub so_far : List (ℕ × Input)
  pub later : List (ℕ × Input)
  pub while_down : List (ℕ × Input)
  pub process_is : came kind process.comings process.first ≡ so_far ++ later
  pub life_is : life.came ≡ so_far ++ while_down
  pub contacts_alone : list_all (λ (one : ℕ × Input). is_told one.1) while_down ≡ true

-- Or nobody has made it yet.
pub data IsNode {State Input Contacts : Type 0} (kind : Kind State Input) (is_told : Input → Bool) (node : State) (life : Life Contacts Input) : Type 0 where
  of_record : IsOfRecord kind is_told node life → IsNode kind is_told node life
  not_yet : life.begins ≡ at_zero → list_all (λ (one : ℕ × Input). is_told one.1) life.came ≡ true → IsNode kind is_told node life

-- The order that stands on its line: that of its state by what came so far. None stands before it is made.
abbrev pub line_of : {State Input Contacts : Type 0} {kind : Kind State Input} {is_told : Input → Bool} {node : State} {life : Life Contacts Input} → IsNode kind is_told node life → Option Order
line_of {kind = kind} (of_record is) = while_up is.while_down (kind.order (state_after kind is.so_far is.process.first.state))
line_of (not_yet begins contacts) = None

-- ---- a program, by its calls

-- A program started this controller at a reading, in its own loop, and made these calls. What came to the controller is what came by
-- the calls up to the last `done`, up to here; and after that what its contacts told while it was down.
pub record IsOfCalls {Object : Type 0} (does : Behaviour Object) (host : HostState Object) (begun : ℕ) (came : List (ℕ × HostInput)) : Type 0 where
  pub calls : List loop.Call
  pub so_far : List (ℕ × HostInput)
  pub later : List (ℕ × HostInput)
  pub while_down : List (ℕ × HostInput)
  pub calls_are : inputs_by does (up_to_done calls) (started host begun) ≡ so_far ++ later
  pub came_is : came ≡ so_far ++ while_down
  pub contacts_alone : list_all (λ (one : ℕ × HostInput). is_contact one.1) while_down ≡ true

-- its order: that of its object by what came so far
abbrev pub order_by : {Object : Type 0} {does : Behaviour Object} {host : HostState Object} {begun : ℕ} {came : List (ℕ × HostInput)} → (Object → Option Order) → IsOfCalls does host begun came → Option Order
order_by {does = does} {host = host} order is = while_up is.while_down (order (host_after does is.so_far host).object)

-- All that counts of the program's calls came, and it is up.
pub record IsWhole {Object : Type 0} {does : Behaviour Object} {host : HostState Object} {begun : ℕ} {came : List (ℕ × HostInput)} (is : IsOfCalls does host begun came) : Type 0 where
  pub none_later : is.later ≡ []
  pub is_up : is.while_down ≡ []

-- A program started an interlocking of this table at a reading, with this first number. It has no orders, so that all its calls count.
pub record IsOfIxlCalls (site : Site) (table : Table) (first begun : ℕ) (came : List (ℕ × ixl.Input)) : Type 0 where
  pub calls : List ixl_loop.Call
  pub later : List (ℕ × ixl.Input)
  pub calls_are : ixl_inputs.inputs_by calls (ixl_program.started (ixl_program.new_state (record { site = site; table = table }) first begun) begun) ≡ came ++ later

-- ---- one or the other

pub data IsController {Object Contacts Sensed : Type 0} (kind : Kind (Controller Object Contacts) HostInput) (does : Behaviour Object) (node : Controller Object Contacts) (life : Life Sensed HostInput) : Type 0 where
  by_record : IsNode kind is_contact node life → IsController kind does node life
  by_calls : IsOfCalls does node.host life.begins.clock life.came → IsController kind does node life

pub data IsInterlocking (site : Site) (table : Table) (life : Life (Unit {0}) ixl.Input) : Type 0 where
  -- whatever its process keeps of it in a file, and was counted before
  ixl_by_record : {keeping : Keeping} {counts : AuxiliaryCounts} → IsNode interlocking_kind (λ (input : ixl.Input). false) (interlocking_made site life.begins.first keeping counts table life.begins.clock) life → IsInterlocking site table life
  ixl_by_calls : IsOfIxlCalls site table life.begins.first life.begins.clock life.came → IsInterlocking site table life

-- the last order of a controller
abbrev pub order_on : {Object Contacts Sensed : Type 0} {kind : Kind (Controller Object Contacts) HostInput} {does : Behaviour Object} {node : Controller Object Contacts} {life : Life Sensed HostInput}
    → (Object → Option Order) → IsController kind does node life → Option Order
order_on order (by_record is) = line_of is
order_on order (by_calls is) = order_by order is

-- what a signal orders of its lamp, and a point of its motor
abbrev pub signal_order : SignalState → Option Order
signal_order signal = Some (lamp_order signal.lamp)

abbrev pub point_order : PointState → Option Order
point_order point = Some (drive_order (drive_of point))

-- ---- the nodes of a station, after these events

module _ (site : Site) (table : Table) (outset : Outset) (events : List Event) where
  abbrev pub StationIs : Type 0
  StationIs = IsInterlocking site table (interlocking_life site table events)

  abbrev pub SignalIs : ℕ → SignalEntry → Type 0
  SignalIs place entry = let life = signal_life site table events place in IsController signal_kind signal_behaviour (signal_made site life.begins.first entry life.sensed life.begins.clock) life

  abbrev pub PointIs : ℕ → PointEntry → Type 0
  PointIs place entry = let life = point_life site table outset events place in IsController point_kind point_behaviour (point_made site life.begins.first entry life.sensed life.begins.clock) life

  abbrev pub DetectorIs : ℕ → DetectorEntry → Type 0
  DetectorIs place entry =
      let life = detector_life site table outset events place in IsController detector_kind detection_behaviour (detector_made site life.begins.first entry life.sensed life.begins.clock) life

  pub record AreNodes : Type 0 where
    pub station : StationIs
    pub signal : (place : ℕ) (entry : SignalEntry) → slice_get site.signals place ≡ Some entry → SignalIs place entry
    pub point : (place : ℕ) (entry : PointEntry) → slice_get site.points place ≡ Some entry → PointIs place entry
    pub detector : (place : ℕ) (entry : DetectorEntry) → slice_get site.detectors place ≡ Some entry → DetectorIs place entry
