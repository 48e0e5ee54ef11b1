-- What processes show is what their nodes show.
use Rattle.std.proofs.Common.{◌≡◌, ◌∙◌, ℕ, List, [], Option, Some, IsSome, ap, refl, sym, slice_get}
use Rattle.node_kinds.specs.simulator_spec.layout.Entries.{Site}
use Rattle.node_kinds.specs.simulator_spec.layout.declared.entries.Point.{Point as PointEntry}
use Rattle.node_kinds.specs.simulator_spec.layout.declared.entries.Signal.{Signal as SignalEntry}
use Rattle.node_kinds.specs.simulator_spec.rasta_core.Ends.{reading_of}
use Rattle.node_kinds.specs.simulator_spec.object_host.Host.{HostState}
use Rattle.node_kinds.specs.simulator_spec.object_host.declared.input.Input.{Input}
use Rattle.node_kinds.specs.simulator_spec.signal_ctl.Lamp.{Lamp, aspect_shown}
use Rattle.node_kinds.specs.simulator_spec.signal_ctl.Signal.{SignalState, signal_behaviour}
use Rattle.node_kinds.specs.simulator_spec.point_ctl.Controlled.{point_behaviour}
use Rattle.node_kinds.specs.simulator_spec.point_ctl.Drive.{PointState, drive_of, drives, driven_by as drive_at}
use Rattle.node_kinds.specs.simulator_spec.point_ctl.declared.drive.Drive.{Drive}
use Rattle.node_kinds.specs.simulator_spec.ixl_spec.Step as ixl
use Rattle.node_kinds.specs.simulator_spec.ixl_spec.Table.{Table}
use Rattle.node_kinds.specs.simulator_spec.simulator_event.declared.event.Event.{Event}
use Rattle.node_kinds.specs.simulator_spec.First.{Outset, new_ixl, new_point, new_signal}
use Rattle.node_kinds.specs.simulator_spec.Interlocking.{held_of}
use Rattle.node_kinds.specs.simulator_spec.simulator_event.declared.snapshot.Snapshot.{Snapshot}
use Rattle.simulator_node_laws.specs.Lives.{first_life, host_after, ixl_after}
use Rattle.simulator_node_laws.specs.Said.{last_line, lines_after}
use Rattle.simulator_node_laws.specs.Shown.{AreAll, IsOfNodes, frozen_in, host_now, interlocking_life, point_life, signal_life}
use Rattle.node_kinds.specs.node_drive.node_lines.Orders.{aspect_ordered, side_ordered}
use Rattle.node_kinds.specs.node_drive.Kinds.{Kind}
use Rattle.node_kinds.specs.node_drive.Lives.{came, state_after}
use Rattle.node_kinds.specs.node_drive.Rounds.{Coming, Standing, all_come}
use Rattle.node_kinds.specs.Controllers.{Controller, drive_order, lamp_order, point_kind, signal_kind}
use Rattle.node_kinds.specs.Interlockings.{InterlockingNode, interlocking_kind}
use Rattle.node_safety.specs.Processes.{AreOf, IsOfProcesses, Lived, Process, Processes, driven_by, now_stands, shown_by}

-- the laws of the engine, for a kind
abbrev pub IsWhatCame : {State Input : Type 0} → Kind State Input → Type 0
IsWhatCame {State} kind = (comings : List (ℕ × Coming)) (standing : Standing State) → (all_come kind comings standing).1.state ≡ state_after kind (came kind comings standing) standing.state

abbrev OrderStands : {State Input : Type 0} → Kind State Input → Type 0
OrderStands {State} kind = ((state : State) → IsSome (kind.order state)) → (comings : List (ℕ × Coming)) (standing : Standing State) → standing.course.order ≡ kind.order standing.state
    → (all_come kind comings standing).1.course.order ≡ kind.order (all_come kind comings standing).1.state

-- and those of the kinds
abbrev pub HostLives : {Object Contacts : Type 0} → Kind (Controller Object Contacts) Input → (List (ℕ × Input) → HostState Object → HostState Object) → Type 0
HostLives {Object} {Contacts} kind after = (inputs : List (ℕ × Input)) (c : Controller Object Contacts) → (state_after kind inputs c).host ≡ after inputs c.host

-- a point drives by its last line, and so at first by the line of its state
abbrev pub LinesDrive : Type 0
LinesDrive = (came : List (ℕ × Input)) (host : HostState PointState) (now : ℕ)
    → drives now (host_after point_behaviour came host).object ≡ drive_at (last_line (drive_of host.object) (lines_after point_behaviour drive_of came host)) now

pub drive_line : LinesDrive → (host : HostState PointState) (now : ℕ) → drives now host.object ≡ drive_at (drive_of host.object) now
unfolding host_after
drive_line lines host now = lines [] host now

abbrev pub StationLives : Type 0
StationLives = (inputs : List (ℕ × ixl.Input)) (node : InterlockingNode) → (state_after interlocking_kind inputs node).ixl ≡ ixl_after node.site node.table inputs node.ixl

-- the state of a process is what came of a new node by what came to it
lived_state : {State Input : Type 0} (kind : Kind State Input) (inputs : List (ℕ × Input)) (process : Process State) → IsWhatCame kind → Lived kind inputs process
    → (now_stands kind process).state ≡ state_after kind inputs process.first.state
lived_state kind inputs process what lived = what process.comings process.first ∙ ap (λ came. state_after kind came process.first.state) lived.came_is

lived_order : {State Input : Type 0} (kind : Kind State Input) (inputs : List (ℕ × Input)) (process : Process State) → ((state : State) → IsSome (kind.order state)) → OrderStands kind → Lived kind inputs process
    → (now_stands kind process).course.order ≡ kind.order (now_stands kind process).state
lived_order kind inputs process some stands lived = stands some process.comings process.first lived.told

pub host_lived : {Object Contacts : Type 0} (kind : Kind (Controller Object Contacts) Input) (after : List (ℕ × Input) → HostState Object → HostState Object) (inputs : List (ℕ × Input)) (process : Process (Controller Object Contacts)) (made : HostState Object)
    → IsWhatCame kind → HostLives kind after → Lived kind inputs process → process.first.state.host ≡ made → (now_stands kind process).state.host ≡ after inputs made
host_lived kind after inputs process made what lives lived new =
    ap (λ (c : Controller _ _). c.host) (lived_state kind inputs process what lived) ∙ lives inputs process.first.state ∙ ap (after inputs) new

-- the interlocking
pub ixl_is : IsWhatCame interlocking_kind → StationLives → (site : Site) (table : Table) (outset : Outset) (events : List Event) (processes : Processes) → AreOf site table outset events processes
    → (now_stands interlocking_kind processes.station).state.ixl ≡ ixl_after site table (interlocking_life site table events).came (new_ixl site table (interlocking_life site table events).begins)
ixl_is station_what station_lives site table outset events processes are =
    let life = interlocking_life site table events in
    let node = processes.station.first.state in
    ap (λ (n : InterlockingNode). n.ixl) (lived_state interlocking_kind life.came processes.station station_what are.station_lived)
    ∙ station_lives life.came node
    ∙ (λ i. ixl_after (are.station_site i) (are.station_table i) life.came (are.station_made i))

-- what is seen of each is the same
all_alike : {Entry Seen : Type 0} (entries : List Entry) (seen : List Seen) (one other : ℕ → Entry → Seen)
    → ((place : ℕ) (entry : Entry) → slice_get entries place ≡ Some entry → one place entry ≡ other place entry) → AreAll entries seen one → AreAll entries seen other
all_alike entries seen one other alike all = (all.0, λ place entry there. all.1 place entry there ∙ ap Some (alike place entry there))

module _ (signal_what : IsWhatCame signal_kind) (signal_stands : OrderStands signal_kind) (point_what : IsWhatCame point_kind) (point_stands : OrderStands point_kind) (station_what : IsWhatCame interlocking_kind)
    (signal_lives : HostLives signal_kind (host_after signal_behaviour)) (point_lives : HostLives point_kind (host_after point_behaviour)) (station_lives : StationLives)
    (lamps : (lamp : Lamp) (now : ℕ) → aspect_ordered (lamp_order lamp) now ≡ aspect_shown lamp now)
    (motors : (drive : Option Drive) (now : ℕ) → side_ordered (drive_order drive) now ≡ drive_at drive now) (lines : LinesDrive)
    (site : Site) (table : Table) (outset : Outset) (events : List Event) (processes : Processes) (are : AreOf site table outset events processes) where
  -- a lamp
  aspect_is : (place : ℕ) (entry : SignalEntry) (now : ℕ) → slice_get site.signals place ≡ Some entry
      → shown_by (now_stands signal_kind (processes.signal place)).course.order now
      ≡ aspect_shown (host_now signal_behaviour (λ begins sensed. new_signal site begins entry) (signal_life site table events place)).object.lamp now
  aspect_is place entry now there =
      let process = processes.signal place in
      let life = signal_life site table events place in
      let order = lived_order signal_kind life.came process (λ state. refl) signal_stands (are.signal_lived place entry there) in
      let host = host_lived signal_kind (host_after signal_behaviour) life.came process (new_signal site life.begins entry) signal_what signal_lives (are.signal_lived place entry there) (are.signal_made place entry there) in
      ap (λ (o : Option _). shown_by o now) order
      ∙ lamps (now_stands signal_kind process).state.host.object.lamp now
      ∙ ap (λ (h : HostState SignalState). aspect_shown h.object.lamp now) host

  -- a motor
  side_is : (place : ℕ) (entry : PointEntry) (now : ℕ) → slice_get site.points place ≡ Some entry
      → driven_by (now_stands point_kind (processes.point place)).course.order now
      ≡ drives now (host_now point_behaviour (λ begins position. new_point site begins position entry) (point_life site table outset events place)).object
  side_is place entry now there =
      let process = processes.point place in
      let life = point_life site table outset events place in
      let order = lived_order point_kind life.came process (λ state. refl) point_stands (are.point_lived place entry there) in
      let host = host_lived point_kind (host_after point_behaviour) life.came process (new_point site life.begins life.sensed entry) point_what point_lives (are.point_lived place entry there) (are.point_made place entry there) in
      ap (λ (o : Option _). driven_by o now) order
      ∙ motors (drive_of (now_stands point_kind process).state.host.object) now
      ∙ sym (drive_line lines (now_stands point_kind process).state.host now)
      ∙ ap (λ (h : HostState PointState). drives now h.object) host

  pub seen_by_orders : (seen : Snapshot) → IsOfProcesses site table outset events processes seen → IsOfNodes site table outset events seen
  seen_by_orders seen is = record {
    shows = all_alike site.signals seen.shows.items _ _ (λ place entry there. ap (λ aspect. record { 0 = aspect }) (aspect_is place entry (reading_of (signal_life site table events place).clock) there)) is.shows;
    held = is.held ∙ ap (λ ixl. held_of table (record { ixl = ixl; clock = (interlocking_life site table events).clock; connections = [] }) (frozen_in site table events (first_life tt) [])) (ixl_is station_what station_lives site table outset events processes are);
    position = is.position;
    driven = all_alike site.points seen.driven.items _ _ (λ place entry there. side_is place entry (reading_of (point_life site table outset events place).clock) there) is.driven;
  }
