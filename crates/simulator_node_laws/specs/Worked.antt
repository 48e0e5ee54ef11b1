-- Wrong definitions, each with a small run in which what it tells isn't so.
use Rattle.std.specs.Prelude.{◌≡◌, ℕ, zero, suc, List, [], ◌∷◌, ◌++◌, codes, map, None, is_none, if◌then◌else◌}
use Rattle.simulator_spec.specs.sci_telegram.declared.message.Aspect.{Aspect}
use Rattle.simulator_spec.specs.sci_telegram.declared.message.Aspect.TheVariants as aspects
use Rattle.simulator_spec.specs.sci_telegram.declared.message.Occupancy.{Occupancy}
use Rattle.simulator_spec.specs.sci_telegram.declared.message.Occupancy.TheVariants.{Clear, Occupied}
use Rattle.simulator_spec.specs.sci_telegram.declared.message.Position.TheVariants as positions
use Rattle.simulator_spec.specs.layout.declared.entries.Point.{Point as PointEntry}
use Rattle.simulator_spec.specs.layout.declared.entries.Signal.{Signal as SignalEntry}
use Rattle.simulator_spec.specs.layout.declared.port.Port.{Port}
use Rattle.simulator_spec.specs.layout.Entries.{DetectorEntry, Site}
use Rattle.simulator_spec.specs.rasta_core.Ends.{reading_of}
use Rattle.simulator_spec.specs.rasta_core.Links.{OnLink}
use Rattle.simulator_spec.specs.object_host.Behaviour.{Behaviour}
use Rattle.simulator_spec.specs.object_host.Host.{HostState}
use Rattle.simulator_spec.specs.object_host.Step.{host_step}
use Rattle.simulator_spec.specs.object_host.declared.input.Input.{Input}
use Rattle.simulator_spec.specs.object_host.declared.input.Input.TheVariants as inputs
use Rattle.simulator_spec.specs.signal_ctl.Lamp.{Lamp, aspect_shown}
use Rattle.simulator_spec.specs.signal_ctl.Signal.{SignalState, signal_behaviour}
use Rattle.simulator_spec.specs.tds_ctl.History.{occupancies}
use Rattle.simulator_spec.specs.tds_ctl.declared.section.Section.{Section}
use Rattle.simulator_spec.specs.ixl_spec.Table.{Table}
use Rattle.simulator_spec.specs.ixl_spec.declared.command.Command.TheVariants as commands
use Rattle.simulator_spec.specs.simulator_event.declared.event.Event.{Event}
use Rattle.simulator_spec.specs.simulator_event.declared.event.Event.TheVariants as event
use Rattle.simulator_spec.specs.simulator_event.declared.snapshot.Held.{Held}
use Rattle.simulator_spec.specs.First.{Outset, at_zero, new_signal, world_at}
use Rattle.simulator_spec.specs.Happens.{happens}
use Rattle.simulator_spec.specs.Refusals.{refusal}
use Rattle.simulator_spec.specs.Run.{CanHappen, after_all}
use Rattle.simulator_spec.specs.Seen.{shown_by}
use Rattle.simulator_spec.specs.State.{ClockedControllerState, WorldState}
use Rattle.simulator_spec.specs.Interlocking.{held_of}
use Rattle.simulator_node_laws.specs.Contacts.{detector_now}
use Rattle.simulator_node_laws.specs.Lives.{Life, Who, detector_at, first_life, life_in, signal_at}
use Rattle.simulator_node_laws.specs.Readings.{last_reading}
use Rattle.simulator_node_laws.specs.Said.{lamp_line, last_line, lines_after}
use Rattle.simulator_node_laws.specs.Split.{around, stepped}
use Rattle.simulator_node_laws.specs.Told.{Told, Nobody, told}

-- ---- a small station

abbrev pub the_point : PointEntry
the_point = record { name = codes "P"; id = 12; section = record { 0 = 0 } }

abbrev pub the_detector : DetectorEntry
the_detector = record { name = codes "D"; id = 13; sections = (record { 0 = 0 }) ∷ [] }

abbrev pub the_signal : Port → SignalEntry
the_signal at = record { name = codes "S"; id = 11; at = at }

-- a signal at some port, a point, and a detector that reports one section
abbrev pub small : Port → Site
small at = record {
  station = record { name = codes "ST"; id = 1; key = None };
  sections = codes "G" ∷ [];
  tracks = [];
  points = the_point ∷ [];
  borders = [];
  joints = [];
  signals = the_signal at ∷ [];
  detectors = the_detector ∷ [];
  routes = [];
}

-- one route, which leads over that section
abbrev pub small_table : Table
small_table = record {
  rows = (record { entry = 0; aspect = aspects.Proceed; sections = 0 ∷ []; needs = []; approach = []; extra = [] }) ∷ [];
  point_sections = 0 ∷ [];
  reporters = (0, 0) ∷ [];
  detectors = (0 ∷ []) ∷ [];
}

-- the point lies at left, and the section is clear
abbrev pub small_outset : Outset
small_outset = record { positions = positions.Left ∷ []; occupancies = Clear ∷ [] }

abbrev pub begun : Port → WorldState
begun at = world_at (small at) small_table small_outset

abbrev pub after : Port → List Event → WorldState
after at events = after_all (small at) small_table events (begun at)

-- ---- a node that lives by the clock of another

-- the signal's clock runs 1 microsecond ahead in 1000
abbrev pub runs_ahead : List Event
runs_ahead = event.Time 1000 (1000 ∷ 1001 ∷ 1000 ∷ 1000 ∷ []) ∷ []

-- the signal lives by the clock of the interlocking
abbrev pub by_another_clock : Who (Unit {0}) Input
by_another_clock = record (signal_at 0) { number = 0 }

pub record AnotherClock (at : Port) : Type 0 where
  pub allowed : CanHappen (small at) small_table runs_ahead (begun at)
  pub is_so : map (λ (server : ClockedControllerState SignalState). server.clock) (after at runs_ahead).signals ≡ 1001 ∷ []
  pub right : (life_in (small at) small_table (signal_at 0) runs_ahead (first_life tt)).clock ≡ 1001
  pub wrong : (life_in (small at) small_table by_another_clock runs_ahead (first_life tt)).clock ≡ 1000

-- ---- a run in which the signal comes up, and its route has authority

-- one route from the signal, which leads over no section and requires no point: so its runs are short
abbrev pub short_table : Table
short_table = record small_table { rows = (record { entry = 0; aspect = aspects.Proceed; sections = []; needs = []; approach = []; extra = [] }) ∷ [] }

abbrev pub short_begun : Port → WorldState
short_begun at = world_at (small at) short_table small_outset

abbrev pub short_after : Port → List Event → WorldState
short_after at events = after_all (small at) short_table events (short_begun at)

-- what comes next: an event, or the datagram of a place among those that were sent, to the node of a number
pub data Move : Type 0 where
  Happens : Event → Move
  Comes : ℕ → ℕ → Move

abbrev pub bytes_at : ℕ → List OnLink → List ℕ
bytes_at place [] = []
bytes_at zero (first ∷ later) = first.datagram.bytes
bytes_at (suc place) (first ∷ later) = bytes_at place later

abbrev pub event_of : Move → WorldState → Event
event_of (Happens happening) world = happening
event_of (Comes node place) world = event.Deliver (record { 0 = node }) (bytes_at place world.sent)

-- the events of these moves, one after another; what can't happen is left out
abbrev pub events_of : Port → List Move → WorldState → List Event
events_of at [] world = []
events_of at (first ∷ others) world =
    if is_none (refusal (small at) (event_of first world) world)
    then event_of first world ∷ events_of at others (happens (small at) short_table (event_of first world) world)
    else events_of at others world

-- After 6000 ms the interlocking asks for its connections. That of the signal comes up, the version is answered, the
-- initialisation asked for and told. Then the interlocking is told to resume, and the route is requested: it has authority.
abbrev pub to_authority : List Move
to_authority =
    Happens (event.Time 6000000 (6000000 ∷ 6000000 ∷ 6000000 ∷ 6000000 ∷ [])) ∷ Happens (event.Tick (record { 0 = 0 }))
    ∷ Comes 1 0 ∷ Comes 0 3 ∷ Comes 1 4 ∷ Comes 1 5 ∷ Comes 0 6 ∷ Comes 1 7 ∷ Comes 0 8 ∷ Comes 0 9 ∷ Comes 0 10
    ∷ Happens (event.Request commands.Resume) ∷ Happens (event.Request (commands.Request (record { 0 = 0 }))) ∷ []

-- ---- no frozen rows

-- then the interlocking is made anew
abbrev pub to_another : List Move
to_another = to_authority ++ Happens (event.Restart (record { 0 = 0 }) 6000 0) ∷ []

unfoldable pub with_authority : Port → List Event
with_authority at = events_of at to_authority (short_begun at)

unfoldable pub with_another : Port → List Event
with_another at = events_of at to_another (short_begun at)

abbrev pub the_pair : Held
the_pair = record { signal = record { 0 = 0 }; route = record { 0 = 0 } }

-- The wrong world has a new interlocking, and the frozen rows of the world before.
pub record NoFrozenRows (at : Port) : Type 0 where
  pub allowed : CanHappen (small at) short_table (with_another at) (short_begun at)
  pub before : held_of short_table (short_after at (with_authority at)).interlocking (short_after at (with_authority at)).frozen ≡ the_pair ∷ []
  pub right : held_of short_table (short_after at (with_another at)).interlocking (short_after at (with_another at)).frozen ≡ the_pair ∷ []
  pub wrong : held_of short_table (short_after at (with_another at)).interlocking (short_after at (with_authority at)).frozen ≡ []

-- ---- a contact that tells nobody

abbrev pub told_without_contacts : Site → Table → Event → Told
told_without_contacts site table (event.Occupy section occupancy) = Nobody
told_without_contacts site table happening = told site table happening

abbrev pub is_occupied : Event
is_occupied = event.Occupy (record { 0 = 0 }) Occupied

-- what the detectors sense of their sections
abbrev pub sensed_in : WorldState → List (List Occupancy)
sensed_in world = map (λ (server : ClockedControllerState (List Section)). occupancies server.host.object) world.detectors

abbrev pub split_by : (Site → Table → Event → Told) → Port → WorldState
split_by tells at = stepped (small at) small_table 0 (tells (small at) small_table is_occupied) (around (small at) small_table is_occupied (begun at))

pub record TellsNobody (at : Port) : Type 0 where
  pub allowed : refusal (small at) is_occupied (begun at) ≡ None
  pub is_so : sensed_in (happens (small at) small_table is_occupied (begun at)) ≡ (Occupied ∷ []) ∷ []
  pub right : sensed_in (split_by told at) ≡ (Occupied ∷ []) ∷ []
  pub wrong : sensed_in (split_by told_without_contacts at) ≡ (Clear ∷ []) ∷ []

-- ---- contacts that never change

-- the section is occupied, and then the detector is made anew
abbrev pub occupied_and_anew : List Event
occupied_and_anew = is_occupied ∷ event.Restart (record { 0 = 3 }) 0 0 ∷ []

abbrev pub of_old_contacts : Port → Who (List Occupancy) Input
of_old_contacts at = record (detector_at (small at) 0) { contact = λ input old. old }

-- what the detector senses that lives so
abbrev pub sensed_by_life : Port → Who (List Occupancy) Input → List Occupancy
sensed_by_life at who = occupancies (detector_now (small at) the_detector (life_in (small at) small_table who occupied_and_anew (first_life (Clear ∷ [])))).object

pub record OldContacts (at : Port) : Type 0 where
  pub allowed : CanHappen (small at) small_table occupied_and_anew (begun at)
  pub is_so : sensed_in (after at occupied_and_anew) ≡ (Occupied ∷ []) ∷ []
  pub right : sensed_by_life at (detector_at (small at) 0) ≡ Occupied ∷ []
  pub wrong : sensed_by_life at (of_old_contacts at) ≡ Clear ∷ []

-- ---- what came before the node was made anew

-- the signal is called as its clock reads 5 ms
abbrev pub called_late : List Event
called_late = event.Time 5000 (5000 ∷ 5000 ∷ 5000 ∷ 5000 ∷ []) ∷ event.Tick (record { 0 = 1 }) ∷ []

-- and made anew with a clock of 0 ms
abbrev pub signal_anew : List Event
signal_anew = event.Restart (record { 0 = 1 }) 0 0 ∷ []

abbrev pub signal_life_in : Port → List Event → Life (Unit {0}) Input
signal_life_in at events = life_in (small at) small_table (signal_at 0) events (first_life tt)

-- a life that goes on over a beginning
abbrev pub with_what_came : Life (Unit {0}) Input → Life (Unit {0}) Input → Life (Unit {0}) Input
with_what_came before life = record life { came = before.came ++ life.came }

-- The readings of the wrong life begin above the clock of the node.
pub record KeepsWhatCame (at : Port) : Type 0 where
  pub allowed : CanHappen (small at) small_table (called_late ++ signal_anew) (begun at)
  pub reads : reading_of (signal_life_in at (called_late ++ signal_anew)).clock ≡ 0
  pub right : (signal_life_in at (called_late ++ signal_anew)).came ≡ []
  pub wrong : last_reading 0 (with_what_came (signal_life_in at called_late) (signal_life_in at (called_late ++ signal_anew))).came ≡ 5

-- ---- a line that isn't told

-- After the authority proceed comes to the signal. The route is cancelled, the signal is ticked, and stop comes to it.
abbrev pub to_stop : List Move
to_stop = to_authority ++ Comes 1 11 ∷ Happens (event.Request (commands.Cancel (record { 0 = 0 }))) ∷ Happens (event.Tick (record { 0 = 1 })) ∷ Comes 1 13 ∷ []

unfoldable pub with_stop : Port → List Event
with_stop at = events_of at to_stop (short_begun at)

-- a line after a tick alone
abbrev pub line_then : {Line : Type 0} → Input → Line → List Line → List Line
line_then inputs.Tick line others = line ∷ others
line_then _ line others = others

abbrev pub lines_of_ticks : {Object Line : Type 0} → Behaviour Object → (Object → Line) → List (ℕ × Input) → HostState Object → List Line
lines_of_ticks does line [] host = []
lines_of_ticks does line (one ∷ others) host =
    let next = (host_step does one.0 one.1 host).host
    in line_then one.1 (line next.object) (lines_of_ticks does line others next)

-- the signal at its beginning, and all that came to it
abbrev pub signal_begun : Port → HostState SignalState
signal_begun at = new_signal (small at) at_zero (the_signal at)

abbrev pub came_to_it : Port → List (ℕ × Input)
came_to_it at = (life_in (small at) short_table (signal_at 0) (with_stop at) (first_life tt)).came

-- what the signal shows at 6000 ms that goes by its last line
abbrev pub shown_by_line : Port → List Lamp → Aspect
shown_by_line at lines = aspect_shown (last_line (lamp_line (signal_begun at).object) lines) 6000

pub record LineNotTold (at : Port) : Type 0 where
  pub allowed : CanHappen (small at) short_table (with_stop at) (short_begun at)
  pub is_so : map shown_by (short_after at (with_stop at)).signals ≡ aspects.Stop ∷ []
  pub right : shown_by_line at (lines_after signal_behaviour lamp_line (came_to_it at) (signal_begun at)) ≡ aspects.Stop
  pub wrong : shown_by_line at (lines_of_ticks signal_behaviour lamp_line (came_to_it at) (signal_begun at)) ≡ aspects.Proceed
