-- The numbers that calls from C answer with, and what a call from C does by the rules of a loop.
use Rattle.std.specs.Prelude.{ℕ, nat_lt, Option, Some, None, Result, Ok, Err, if◌then◌else◌}
use Rattle.embedded_ixl.specs.Calls.{Call, Obeys, Takes, after_call, answer_to}
use Rattle.embedded_ixl.specs.Embedded.{EmbeddedIxlState}
use Rattle.embedded_ixl.specs.declared.call_refusal.CallRefusal.{CallRefusal}
use Rattle.embedded_ixl.specs.declared.call_refusal.CallRefusal.TheVariants.{ClockFell, TooSoon, TooOld}
use Rattle.embedded_ixl.specs.ixl_state.ixl_spec.declared.command.Command.{Command}
use Rattle.interlocking_c.specs.declared.answers.TheConstants.{OK, NOT_STARTED, ROOM, CLOCK, SOON, OLD, VALUE, LONGEST}

-- the number of an answer
abbrev pub number_of : Result Unit CallRefusal → ℕ
number_of (Ok done) = OK
number_of (Err ClockFell) = CLOCK
number_of (Err TooSoon) = SOON
number_of (Err TooOld) = OLD

-- to a call of an interlocking; one that isn't there wasn't started
abbrev pub answer_in : Call → Option EmbeddedIxlState → ℕ
answer_in call None = NOT_STARTED
answer_in call (Some it) = number_of (answer_to call it)

-- to a command, whose numbers may be those of none
abbrev pub answer_to_command : ℕ → Option Command → Option EmbeddedIxlState → ℕ
answer_to_command now command None = NOT_STARTED
answer_to_command now None (Some it) = VALUE
answer_to_command now (Some command) (Some it) = number_of (answer_to (Obeys now command) it)

abbrev pub after_command : ℕ → Option Command → EmbeddedIxlState → EmbeddedIxlState
after_command now None it = it
after_command now (Some command) it = after_call (Obeys now command) it

-- to a question that is answered wherever there is one
abbrev pub answer_where_there : Option EmbeddedIxlState → ℕ
answer_where_there None = NOT_STARTED
answer_where_there (Some it) = OK

-- to the question for the next datagram, with so much room for it: there has to be room for any
abbrev pub answer_to_next : ℕ → ℕ → EmbeddedIxlState → ℕ
answer_to_next room now it = if nat_lt room LONGEST then ROOM else number_of (answer_to (Takes now) it)

abbrev pub answer_to_next_in : ℕ → ℕ → Option EmbeddedIxlState → ℕ
answer_to_next_in room now None = NOT_STARTED
answer_to_next_in room now (Some it) = answer_to_next room now it

abbrev pub after_next : ℕ → ℕ → EmbeddedIxlState → EmbeddedIxlState
after_next room now it = if nat_lt room LONGEST then it else after_call (Takes now) it
