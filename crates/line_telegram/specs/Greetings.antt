-- The version check with which a connection of a line begins.
use Rattle.std.specs.Prelude.{◌≡◌, ℕ, Bool, true, false, ◌&&◌, ◌==◌, if◌then◌else◌, Option, Some, None, ◌⊎◌}
use Rattle.line_laws.specs.declared.words.Side.{Side}
use Rattle.line_laws.specs.declared.words.Side.TheVariants.{First, Second}
use Rattle.sci_telegram.specs.declared.message.Agreement.{Agreement}
use Rattle.sci_telegram.specs.declared.message.Agreement.TheVariants.{NoMatch, Match}
use Rattle.line_telegram.specs.declared.message.LineMessage.{LineMessage}
use Rattle.line_telegram.specs.declared.message.LineMessage.TheVariants.{VersionCheck, VersionAnswer, Line}
use Rattle.line_telegram.specs.declared.greeting.Stage.{Stage}
use Rattle.line_telegram.specs.declared.greeting.Stage.TheVariants.{Outside, AwaitsCheck, AwaitsAnswer, Agreed, Differs}
use Rattle.line_telegram.specs.declared.greeting.Heard.{Heard}
use Rattle.line_telegram.specs.declared.greeting.Heard.TheVariants.{Taken, Answered, Matched, Differed, Violated}

pub record GreetingState : Type 0 where
  pub side : Side
  pub version : ℕ
  pub stage : Stage

-- ---- the link comes up, or isn't up

pub record Greeted : Type 0 where
  pub state : GreetingState
  pub says : Option LineMessage

abbrev pub silent : GreetingState → Greeted
silent state = record { state = state; says = None }

-- the first end tells its version, the second waits for it
abbrev pub come_up : Side → GreetingState → Greeted
come_up First state = record { state = record state { stage = AwaitsAnswer }; says = Some (VersionCheck state.version) }
come_up Second state = silent (record state { stage = AwaitsCheck })

abbrev pub greeted_at : Stage → GreetingState → Greeted
greeted_at Outside state = come_up state.side state
greeted_at AwaitsCheck state = silent state
greeted_at AwaitsAnswer state = silent state
greeted_at Agreed state = silent state
greeted_at Differs state = silent state

abbrev pub greeted : Bool → GreetingState → Greeted
greeted true state = greeted_at state.stage state
greeted false state = silent (record state { stage = Outside })

-- ---- a message comes

pub record Hearing : Type 0 where
  pub state : GreetingState
  pub heard : Heard

-- the second end is told a version, and answers
abbrev pub checked : ℕ → GreetingState → Hearing
checked version state =
    if version == state.version
    then record { state = record state { stage = Agreed }; heard = Answered (VersionAnswer Match state.version) }
    else record { state = record state { stage = Differs }; heard = Answered (VersionAnswer NoMatch state.version) }

abbrev pub is_match : Agreement → Bool
is_match NoMatch = false
is_match Match = true

-- the first end is told the answer
abbrev pub told : Agreement → ℕ → GreetingState → Hearing
told agreement version state =
    if is_match agreement && version == state.version
    then record { state = record state { stage = Agreed }; heard = Matched }
    else record { state = record state { stage = Differs }; heard = Differed }

-- it comes out of the order
abbrev pub violated : GreetingState → Hearing
violated state = record { state = state; heard = Violated }

-- anything at each stage
abbrev pub hearing_at : Stage → LineMessage → GreetingState → Hearing
hearing_at AwaitsCheck (VersionCheck version) state = checked version state
hearing_at AwaitsAnswer (VersionAnswer agreement version) state = told agreement version state
hearing_at Agreed (Line item) state = record { state = state; heard = Taken item }
hearing_at stage message state = violated state

abbrev pub hearing : LineMessage → GreetingState → Hearing
hearing message state = hearing_at state.stage message state

-- ---- what it is for

-- a message tells this version, as a check or as an answer that agrees
abbrev pub TellsVersion : ℕ → LineMessage → Type 0
TellsVersion version message = (message ≡ VersionCheck version) ⊎ (message ≡ VersionAnswer Match version)

-- the end of a new connection
abbrev pub new_greeting : Side → ℕ → GreetingState
new_greeting side version = record { side = side; version = version; stage = Outside }

-- what the first end is when its link came up, and the second when it has heard the first's version
abbrev pub first_waiting : ℕ → GreetingState
first_waiting version = (greeted true (new_greeting First version)).state

abbrev pub second_told : (own other : ℕ) → Hearing
second_told own other = hearing (VersionCheck other) (greeted true (new_greeting Second own)).state
