-- What nodes hand out by their lives alone, and the lines by which a signal tells its lamp.
use Rattle.std.specs.Prelude.{◌≡◌, ◌≤◌, ◌+◌, ℕ, Bool, true, false, List, [], ◌∷◌, ◌++◌, map, Option, Some, None, slice_get}
use Rattle.simulator_spec.specs.sci_telegram.declared.message.Occupancy.{Occupancy}
use Rattle.simulator_spec.specs.layout.declared.entries.Point.{Point as PointEntry}
use Rattle.simulator_spec.specs.layout.declared.entries.Signal.{Signal as SignalEntry}
use Rattle.simulator_spec.specs.layout.Entries.{DetectorEntry, Site}
use Rattle.simulator_spec.specs.rasta_core.Bag.{lifetime}
use Rattle.simulator_spec.specs.rasta_core.Ends.{reading_of}
use Rattle.simulator_spec.specs.rasta_core.Outbox.{spellings}
use Rattle.simulator_spec.specs.object_host.Behaviour.{Behaviour}
use Rattle.simulator_spec.specs.object_host.Host.{HostState}
use Rattle.simulator_spec.specs.object_host.Step.{host_step}
use Rattle.simulator_spec.specs.object_host.declared.input.Input.{Input}
use Rattle.simulator_spec.specs.signal_ctl.Lamp.{Lamp}
use Rattle.simulator_spec.specs.signal_ctl.Signal.{SignalState, signal_behaviour}
use Rattle.simulator_spec.specs.point_ctl.Controlled.{point_behaviour}
use Rattle.simulator_spec.specs.tds_ctl.Controlled.{detection_behaviour}
use Rattle.simulator_spec.specs.ixl_spec.Table.{Table}
use Rattle.simulator_spec.specs.simulator_event.declared.event.Event.{Event}
use Rattle.simulator_spec.specs.simulator_event.declared.event.Event.TheVariants as event
use Rattle.simulator_spec.specs.First.{Beginning, Outset, new_point, new_signal}
use Rattle.simulator_spec.specs.Interlocking.{interlocking_step}
use Rattle.simulator_node_laws.specs.Lives.{Life, detector_at, detector_sensing, first_life, life_in, sections_in}
use Rattle.simulator_node_laws.specs.Shown.{host_now, interlocking_life, interlocking_now, point_life, signal_life}
use Rattle.simulator_node_laws.specs.Told.{Told, Nobody, ToInterlocking, ToSignal, ToPoint, ToDetector, told}

abbrev pub detector_life : Site → Table → Outset → List Event → ℕ → Life (List Occupancy) Input
detector_life site table outset events place = life_in site table (detector_at site place) events (first_life (sections_in site outset place))

-- what a controller hands out by its life when it is told this
abbrev pub says : {Object Contacts Entry : Type 0} → Behaviour Object → (Entry → Beginning → Contacts → HostState Object) → Input → Life Contacts Input → Option Entry → List (List ℕ)
says does new input life None = []
says does new input life (Some entry) =
    let host = host_now does (new entry) life
    in spellings host.link.identity.key (host_step does (reading_of life.clock) input host).pdus

-- what the node that is told something after these events hands out
abbrev pub said_to : Site → Table → Outset → List Event → Told → List (List ℕ)
said_to site table outset events Nobody = []
said_to site table outset events (ToInterlocking input) = (interlocking_step site table input (interlocking_now site table (interlocking_life site table events))).outbox.datagrams
said_to site table outset events (ToSignal place input) =
    says signal_behaviour (λ (entry : SignalEntry) begins sensed. new_signal site begins entry) input (signal_life site table events place) (slice_get site.signals place)
said_to site table outset events (ToPoint place input) =
    says point_behaviour (λ (entry : PointEntry) begins position. new_point site begins position entry) input (point_life site table outset events place) (slice_get site.points place)
said_to site table outset events (ToDetector place input) =
    says detection_behaviour (λ (entry : DetectorEntry) begins sensed. detector_sensing site begins sensed entry) input (detector_life site table outset events place) (slice_get site.detectors place)

-- all that the nodes handed out in these events, where others came before
abbrev pub said_in : Site → Table → Outset → List Event → List Event → List (List ℕ)
said_in site table outset before [] = []
said_in site table outset before (first ∷ others) = said_to site table outset before (told site table first) ++ said_in site table outset (before ++ first ∷ []) others

-- ---- when it left

-- A datagram as it left a node: at which true time, in microseconds, and what the clock of the node read in the step that
-- handed it out, in milliseconds.
pub record Departure : Type 0 where
  pub bytes : List ℕ
  pub time : ℕ
  pub reading : ℕ

-- true time: it goes on by what the events of time tell
abbrev pub time_after : Event → ℕ → ℕ
time_after (event.Time elapsed clocks) time = time + elapsed
time_after _ time = time

-- and so in a list of events
abbrev pub time_in : List Event → ℕ → ℕ
time_in [] time = time
time_in (first ∷ others) time = time_in others (time_after first time)

-- what the clock of the node reads that is told something after these events
abbrev pub reading_at : Site → Table → Outset → List Event → Told → ℕ
reading_at site table outset events Nobody = 0
reading_at site table outset events (ToInterlocking input) = reading_of (interlocking_life site table events).clock
reading_at site table outset events (ToSignal place input) = reading_of (signal_life site table events place).clock
reading_at site table outset events (ToPoint place input) = reading_of (point_life site table outset events place).clock
reading_at site table outset events (ToDetector place input) = reading_of (detector_life site table outset events place).clock

-- what leaves the node that is told something after these events
abbrev pub leaves : Site → Table → Outset → List Event → Told → List Departure
leaves site table outset events what =
    map (λ bytes. record { bytes = bytes; time = time_in events 0; reading = reading_at site table outset events what }) (said_to site table outset events what)

-- all that left the nodes in these events, where others came before
abbrev pub departures_in : Site → Table → Outset → List Event → List Event → List Departure
departures_in site table outset before [] = []
departures_in site table outset before (first ∷ others) = leaves site table outset before (told site table first) ++ departures_in site table outset (before ++ first ∷ []) others

-- Nothing is lost in these events. In a history a datagram that is lost is one that never comes.
abbrev pub is_loss : Event → Bool
is_loss (event.Lose bytes) = true
is_loss _ = false

abbrev pub NoneLost : List Event → Type 0
NoneLost [] = Unit {0}
NoneLost (first ∷ others) = (is_loss first ≡ false) × NoneLost others

-- These bytes left a node after this list of events, at most 2000 ms of true time ago.
pub record LeftInTime (site : Site) (table : Table) (outset : Outset) (events : List Event) (bytes : List ℕ) : Type 0 where
  pub place : ℕ
  pub departure : Departure
  pub left : slice_get (departures_in site table outset [] events) place ≡ Some departure
  pub same : departure.bytes ≡ bytes
  pub in_time : time_in events 0 ≤ departure.time + lifetime

-- ---- lines to the field

-- a line after each step of a controller: what its equipment goes by
abbrev pub lines_after : {Object Line : Type 0} → Behaviour Object → (Object → Line) → List (ℕ × Input) → HostState Object → List Line
lines_after does line [] host = []
lines_after does line (one ∷ others) host =
    let next = (host_step does one.0 one.1 host).host
    in line next.object ∷ lines_after does line others next

-- the last line, or that which stood before
abbrev pub last_line : {Line : Type 0} → Line → List Line → Line
last_line line [] = line
last_line line (next ∷ others) = last_line next others

-- the line of a signal: its aspect, and the moment from which it is stop
abbrev pub lamp_line : SignalState → Lamp
lamp_line signal = signal.lamp
