-- What a driven station does one after another, and what comes of it.
use Rattle.std.specs.Prelude.{◌≡◌, ◌≤◌, ◌-◌, ℕ, List, [], ◌∷◌, ◌++◌, length, map, drop, take, codes, Option, Some, None}
use Rattle.std.specs.Io.KnownBytes.{Appends}
use Rattle.control_table.specs.layout.Entries.{Site}
use Rattle.simulator_event.specs.declared.event.Event.{Event}
use Rattle.simulator_event.specs.layout.declared.ids.NodeId.{NodeId}
pub use Rattle.simulator_event.specs.Station.{Applies, Behaviour}
use Rattle.replay_lines.specs.Written.{event_line}
use Rattle.replay_lines.specs.Answers.{answer_text}
use Rattle.station_drive.specs.Told.{Call, Sends, Asks, Heard, Carried}

-- A node is asked for, and hears something; or an event is applied.
pub data Doing : Type 0 where
  Asking : (node : NodeId) (heard : Heard) → Doing
  Applying : (event : Event) → Doing

-- ---- an event

-- the line of an event with its answer; an event without a line leaves none
abbrev pub recorded_line : Option (List ℕ) → List ℕ → List ℕ
recorded_line None answer = []
recorded_line (Some line) answer = line ++ (codes " = " ++ (answer ++ codes "\n"))

-- ---- what comes of doings

-- an engine, as far as it is known: the layout of its station, how the station is, what the network tells, and the text of the record
pub record EngineState (State Net : Type 0) : Type 0 where
  pub site : Site
  pub state : State
  pub net : Net
  pub text : Option (List ℕ)

module _ {State : Type 0} (does : Behaviour State) where
  abbrev pub after_doing : State → Doing → State
  after_doing state (Asking node heard) = state
  after_doing state (Applying event) = does.after state event

  -- the station after doings
  abbrev pub state_after : State → List Doing → State
  state_after state [] = state
  state_after state (doing ∷ doings) = state_after (after_doing state doing) doings

  -- the datagrams that an event adds
  abbrev pub added : State → Event → List (NodeId × List ℕ)
  added state event = drop (length (does.sent state)) (does.sent (does.after state event))

  -- the calls of the network: each event sends the datagrams that it adds
  abbrev pub calls_of_doing : State → Doing → List Call
  calls_of_doing state (Asking node heard) = Asks node heard ∷ []
  calls_of_doing state (Applying event) = map (λ one. Sends one.0 one.1) (added state event)

  abbrev pub calls_of : State → List Doing → List Call
  calls_of state [] = []
  calls_of state (doing ∷ doings) = calls_of_doing state doing ++ calls_of (after_doing state doing) doings

  -- the record: each event that has a line, with its answer
  abbrev pub line_of_doing : Site → State → Doing → List ℕ
  line_of_doing site state (Asking node heard) = []
  line_of_doing site state (Applying event) = recorded_line (event_line site event) (answer_text site (does.answer state event))

  abbrev pub text_of : Site → State → List Doing → List ℕ
  text_of site state [] = []
  text_of site state (doing ∷ doings) = line_of_doing site state doing ++ text_of site (after_doing state doing) doings

  -- An engine did these: its station, and what its network and its record tell, are as they come of it.
  pub record Performs {Net : Type 0} (carries : Net → Call → Net → Type 0) (doings : List Doing) (old new : EngineState State Net) : Type 0 where
    pub same_site : new.site ≡ old.site
    pub state_is : new.state ≡ state_after old.state doings
    pub called : Carried carries old.net new.net (calls_of old.state doings)
    pub written : Appends old.text new.text (text_of old.site old.state doings)

  -- An engine did a beginning of these, and then it gave up: the first `count` were done, and nothing after them. The station, and what
  -- the network tells, are as they come of it. The record has the lines of all that was done, of the last perhaps only a beginning.
  pub record Stops {Net : Type 0} (carries : Net → Call → Net → Type 0) (doings : List Doing) (old new : EngineState State Net) : Type 0 where
    pub same_site : new.site ≡ old.site
    pub count : ℕ
    pub within : count ≤ length doings
    pub state_is : new.state ≡ state_after old.state (take count doings)
    pub called : Carried carries old.net new.net (calls_of old.state (take count doings))
    pub taken : ℕ
    pub written : Appends old.text new.text (take taken (text_of old.site old.state (take count doings)))
    pub lines : length (text_of old.site old.state (take (count - 1) doings)) ≤ taken
