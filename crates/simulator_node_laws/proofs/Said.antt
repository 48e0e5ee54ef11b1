-- What is sent is what the nodes hand out by their lives.
use Rattle.std.proofs.Common.{◌≡◌, ℕ, List, [], ◌∷◌, ◌++◌, length, map, Option, Some, None, slice_get, refl, sym, ap, ◌∙◌}
use Rattle.simulator_spec.specs.layout.declared.entries.Point.{Point as PointEntry}
use Rattle.simulator_spec.specs.layout.declared.entries.Signal.{Signal as SignalEntry}
use Rattle.simulator_spec.specs.layout.Entries.{DetectorEntry, Site}
use Rattle.simulator_spec.specs.layout.Station.{IsStation}
use Rattle.simulator_spec.specs.rasta_core.Ends.{reading_of}
use Rattle.simulator_spec.specs.rasta_core.Outbox.{spellings}
use Rattle.simulator_spec.specs.object_host.Behaviour.{Behaviour}
use Rattle.simulator_spec.specs.object_host.Host.{HostState}
use Rattle.simulator_spec.specs.object_host.Step.{host_step}
use Rattle.simulator_spec.specs.object_host.declared.input.Input.{Input}
use Rattle.simulator_spec.specs.signal_ctl.Lamp.{aspect_shown}
use Rattle.simulator_spec.specs.signal_ctl.Signal.{SignalState, signal_behaviour}
use Rattle.simulator_spec.specs.point_ctl.Controlled.{point_behaviour}
use Rattle.simulator_spec.specs.point_ctl.Drive.{PointState, drive_of, driven_by, drives}
use Rattle.simulator_spec.specs.tds_ctl.Controlled.{detection_behaviour}
use Rattle.simulator_spec.specs.ixl_spec.StepSoFar.{begun_with, empty_outbox}
use Rattle.simulator_spec.specs.ixl_spec.Step as ixl
use Rattle.simulator_spec.specs.ixl_spec.Table.{Table}
use Rattle.simulator_spec.specs.simulator_event.declared.event.Event.{Event}
use Rattle.simulator_spec.specs.First.{Beginning, IsOutsetOf, Outset, new_point, new_signal, world_at}
use Rattle.simulator_spec.specs.Happens.{happens}
use Rattle.simulator_spec.specs.Nodes.{key_of}
use Rattle.simulator_spec.specs.State.{ClockedControllerState, WorldState}
use Rattle.simulator_spec.specs.Run.{after_all}
use Rattle.ixl_table.specs.Table.{IsTableOf}
use Rattle.simulator_node_laws.specs.Lives.{Life, LivesAsInterlocking, LivesAt, detector_sensing, host_after}
use Rattle.simulator_node_laws.specs.Said.{Departure, departures_in, detector_life, lamp_line, last_line, leaves, lines_after, reading_at, said_in, said_to, says, time_in}
use Rattle.simulator_node_laws.specs.Shown.{host_now, interlocking_life, interlocking_now, point_life, signal_life}
use Rattle.simulator_node_laws.specs.Split.{bytes_of, handed_by, handed_out_by, sent_at}
use Rattle.simulator_node_laws.specs.Told.{Told, Nobody, ToInterlocking, ToSignal, ToPoint, ToDetector, told}
use Rattle.simulator_node_laws.proofs.Counts.{counts_all, first_counts}
use Rattle.simulator_node_laws.proofs.Lists.{joined_thrice, none_behind, none_there}
use Rattle.simulator_node_laws.proofs.Runs.{detectors_are, points_are, signals_are, station_is}
use Rattle.simulator_node_laws.proofs.Sent.{each_grows, network_grows, time_goes_on}

says_by_life : {Object Contacts Entry : Type 0} (does : Behaviour Object) (new : Entry → Beginning → Contacts → HostState Object) (input : Input) (entries : List Entry) (servers : List (ClockedControllerState Object)) (place : ℕ) (life : Life Contacts Input)
    → length servers ≡ length entries → ((entry : Entry) → slice_get entries place ≡ Some entry → LivesAt does (new entry) servers place life)
    → handed_by does input (slice_get servers place) ≡ says does new input life (slice_get entries place)
says_by_life {Object} {Contacts} {Entry} does new input entries servers place life long lives = cases (slice_get entries place) refl where
  of_server : (entry : Entry) → LivesAt does (new entry) servers place life → handed_by does input (slice_get servers place) ≡ says does new input life (Some entry)
  of_server entry one = ap (handed_by does input) one.there
      ∙ ap (λ h. spellings h.link.identity.key (host_step does (reading_of one.server.clock) input h).pdus) one.state
      ∙ ap (λ n. spellings (host_now does (new entry) life).link.identity.key (host_step does (reading_of n) input (host_now does (new entry) life)).pdus) one.clock

  cases : (found : Option Entry) → slice_get entries place ≡ found → handed_by does input (slice_get servers place) ≡ says does new input life found
  cases None is = ap (handed_by does input) (none_there servers entries place long is)
  cases (Some entry) is = of_server entry (lives entry is)

-- ---- when it left

bytes_joined : (a b : List Departure) → map (λ (one : Departure). one.bytes) (a ++ b) ≡ map (λ (one : Departure). one.bytes) a ++ map (λ (one : Departure). one.bytes) b
bytes_joined [] b = refl
bytes_joined (first ∷ others) b = ap (λ l. first.bytes ∷ l) (bytes_joined others b)

bytes_left : (time reading : ℕ) (datagrams : List (List ℕ)) → map (λ (one : Departure). one.bytes) (map (λ bytes. record { bytes = bytes; time = time; reading = reading }) datagrams) ≡ datagrams
bytes_left time reading [] = refl
bytes_left time reading (first ∷ others) = ap (λ l. first ∷ l) (bytes_left time reading others)

pub all_that_left : (site : Site) (table : Table) (outset : Outset) (before events : List Event)
    → map (λ (one : Departure). one.bytes) (departures_in site table outset before events) ≡ said_in site table outset before events
all_that_left site table outset before [] = refl
all_that_left site table outset before (first ∷ others) =
    bytes_joined (leaves site table outset before (told site table first)) (departures_in site table outset (before ++ first ∷ []) others)
    ∙ ap (λ l. l ++ map (λ (one : Departure). one.bytes) (departures_in site table outset (before ++ first ∷ []) others))
    (bytes_left (time_in before 0) (reading_at site table outset before (told site table first)) (said_to site table outset before (told site table first)))
    ∙ ap (λ l. said_to site table outset before (told site table first) ++ l) (all_that_left site table outset (before ++ first ∷ []) others)

abbrev pub timed : Departure → List ℕ × ℕ
timed one = (one.bytes, one.time)

timed_joined : (a b : List Departure) → map timed (a ++ b) ≡ map timed a ++ map timed b
timed_joined [] b = refl
timed_joined (first ∷ others) b = ap (λ l. timed first ∷ l) (timed_joined others b)

timed_left : (time reading : ℕ) (datagrams : List (List ℕ)) → map timed (map (λ bytes. record { bytes = bytes; time = time; reading = reading }) datagrams) ≡ map (λ bytes. (bytes, time)) datagrams
timed_left time reading [] = refl
timed_left time reading (first ∷ others) = ap (λ l. (first, time) ∷ l) (timed_left time reading others)

-- ---- of a whole list of events

module _ (site : Site) (table : Table) (outset : Outset) (lies : IsOutsetOf site outset) (station : IsStation site) (is_table : IsTableOf site table) where
  abbrev world_after : List Event → WorldState
  world_after events = after_all site table events (world_at site table outset)

  station_says : (input : ixl.Input) (events : List Event) (world : WorldState) → LivesAsInterlocking site table world (interlocking_life site table events)
      → handed_out_by site table (ToInterlocking input) world ≡ said_to site table outset events (ToInterlocking input)
  station_says input events world lives =
      ap (λ i. (ixl.stepped (reading_of world.interlocking.clock) table (key_of site) input (begun_with i empty_outbox)).outbox.datagrams) lives.state
      ∙ ap (λ n. (ixl.stepped (reading_of n) table (key_of site) input (begun_with (interlocking_now site table (interlocking_life site table events)).ixl empty_outbox)).outbox.datagrams) lives.clock

  pub is_said : (events : List Event) (what : Told) → handed_out_by site table what (world_after events) ≡ said_to site table outset events what
  is_said events Nobody = refl
  is_said events (ToInterlocking input) = station_says input events (world_after events) (station_is site table outset lies events)
  is_said events (ToSignal place input) = says_by_life signal_behaviour (λ (entry : SignalEntry) begins sensed. new_signal site begins entry) input site.signals (world_after events).signals place (signal_life site table events place)
      (counts_all site table events (world_at site table outset) (first_counts site table outset lies)).signals (λ entry is. signals_are site table outset lies events place entry is)
  is_said events (ToPoint place input) = says_by_life point_behaviour (λ (entry : PointEntry) begins position. new_point site begins position entry) input site.points (world_after events).points place (point_life site table outset events place)
      (counts_all site table events (world_at site table outset) (first_counts site table outset lies)).points (λ entry is. (points_are site table outset lies events place entry is).lives)
  is_said events (ToDetector place input) = says_by_life detection_behaviour (λ (entry : DetectorEntry) begins sensed. detector_sensing site begins sensed entry) input site.detectors (world_after events).detectors place (detector_life site table outset events place)
      (counts_all site table events (world_at site table outset) (first_counts site table outset lies)).detectors (λ entry is. (detectors_are site table outset lies station is_table events place entry is).lives)

  goes_on : (events : List Event) (one : Event) (world : WorldState) → after_all site table (events ++ one ∷ []) world ≡ happens site table one (after_all site table events world)
  goes_on [] one world = refl
  goes_on (first ∷ others) one world = goes_on others one (happens site table first world)

  all_said : (before events : List Event) → bytes_of (after_all site table events (world_after before)).sent ≡ bytes_of (world_after before).sent ++ said_in site table outset before events
  all_said before [] = sym (none_behind (bytes_of (world_after before).sent))
  all_said before (first ∷ others) =
      ap (λ (w : WorldState). bytes_of (after_all site table others w).sent) (sym (goes_on before first (world_at site table outset)))
      ∙ all_said (before ++ first ∷ []) others
      ∙ ap (λ (w : WorldState). bytes_of w.sent ++ said_in site table outset (before ++ first ∷ []) others) (goes_on before first (world_at site table outset))
      ∙ ap (λ l. l ++ said_in site table outset (before ++ first ∷ []) others) (network_grows site table first (world_after before))
      ∙ ap (λ l. (bytes_of (world_after before).sent ++ l) ++ said_in site table outset (before ++ first ∷ []) others) (is_said before (told site table first))
      ∙ joined_thrice (bytes_of (world_after before).sent) (said_to site table outset before (told site table first)) (said_in site table outset (before ++ first ∷ []) others)

  none_first : bytes_of (world_at site table outset).sent ≡ []
  unfolding world_at
  none_first = refl

  pub all_is_said : (events : List Event) → bytes_of (world_after events).sent ≡ said_in site table outset [] events
  all_is_said events = all_said [] events ∙ ap (λ l. l ++ said_in site table outset [] events) none_first

  -- when it left

  starts_at_zero : (world_at site table outset).time ≡ 0
  unfolding world_at
  starts_at_zero = refl

  pub time_behind : (events : List Event) → (world_after events).time ≡ time_in events 0
  time_behind events = time_goes_on site table events (world_at site table outset) ∙ ap (time_in events) starts_at_zero

  -- what the step of an event sends is what leaves its node
  one_left : (before : List Event) (first : Event)
      → map (λ bytes. (bytes, (world_after before).time)) (handed_out_by site table (told site table first) (world_after before)) ≡ map timed (leaves site table outset before (told site table first))
  one_left before first =
      ap (λ time. map (λ bytes. (bytes, time)) (handed_out_by site table (told site table first) (world_after before))) (time_behind before)
      ∙ ap (map (λ bytes. (bytes, time_in before 0))) (is_said before (told site table first))
      ∙ sym (timed_left (time_in before 0) (reading_at site table outset before (told site table first)) (said_to site table outset before (told site table first)))

  all_left : (before events : List Event) → sent_at (after_all site table events (world_after before)).sent ≡ sent_at (world_after before).sent ++ map timed (departures_in site table outset before events)
  all_left before [] = sym (none_behind (sent_at (world_after before).sent))
  all_left before (first ∷ others) =
      ap (λ (w : WorldState). sent_at (after_all site table others w).sent) (sym (goes_on before first (world_at site table outset)))
      ∙ all_left (before ++ first ∷ []) others
      ∙ ap (λ (w : WorldState). sent_at w.sent ++ map timed (departures_in site table outset (before ++ first ∷ []) others)) (goes_on before first (world_at site table outset))
      ∙ ap (λ l. l ++ map timed (departures_in site table outset (before ++ first ∷ []) others)) (each_grows (λ bytes time. (bytes, time)) site table first (world_after before))
      ∙ ap (λ l. (sent_at (world_after before).sent ++ l) ++ map timed (departures_in site table outset (before ++ first ∷ []) others)) (one_left before first)
      ∙ joined_thrice (sent_at (world_after before).sent) (map timed (leaves site table outset before (told site table first))) (map timed (departures_in site table outset (before ++ first ∷ []) others))
      ∙ ap (λ l. sent_at (world_after before).sent ++ l) (sym (timed_joined (leaves site table outset before (told site table first)) (departures_in site table outset (before ++ first ∷ []) others)))

  none_sent_first : sent_at (world_at site table outset).sent ≡ []
  unfolding world_at
  none_sent_first = refl

  pub all_times : (events : List Event) → sent_at (world_after events).sent ≡ map timed (departures_in site table outset [] events)
  all_times events = all_left [] events ∙ ap (λ l. l ++ map timed (departures_in site table outset [] events)) none_sent_first

-- ---- lines to the field

by_last_line : {Object Line : Type 0} (does : Behaviour Object) (line : Object → Line) (came : List (ℕ × Input)) (host : HostState Object)
    → line (host_after does came host).object ≡ last_line (line host.object) (lines_after does line came host)
unfolding host_after
by_last_line does line [] host = refl
by_last_line does line (one ∷ others) host = by_last_line does line others (host_step does one.0 one.1 host).host

pub shown_by_lines : (came : List (ℕ × Input)) (host : HostState SignalState) (now : ℕ)
    → aspect_shown (host_after signal_behaviour came host).object.lamp now ≡ aspect_shown (last_line (lamp_line host.object) (lines_after signal_behaviour lamp_line came host)) now
shown_by_lines came host now = ap (λ lamp. aspect_shown lamp now) (by_last_line signal_behaviour lamp_line came host)

pub driven_by_lines : (says : (point : PointState) (now : ℕ) → drives now point ≡ driven_by (drive_of point) now) (came : List (ℕ × Input)) (host : HostState PointState) (now : ℕ)
    → drives now (host_after point_behaviour came host).object ≡ driven_by (last_line (drive_of host.object) (lines_after point_behaviour drive_of came host)) now
driven_by_lines says came host now = says (host_after point_behaviour came host).object now ∙ ap (λ line. driven_by line now) (by_last_line point_behaviour drive_of came host)
