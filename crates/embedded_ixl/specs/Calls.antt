-- The calls of a program's loop, one after another.
use Rattle.std.specs.Prelude.{ℕ, List, [], ◌∷◌, Option, None, Result, is_ok, if◌then◌else◌}
use Rattle.ixl_state.specs.ixl_spec.Step as step
use Rattle.ixl_state.specs.ixl_spec.Step.{Input}
use Rattle.ixl_state.specs.ixl_spec.declared.command.Command.{Command}
use Rattle.embedded_ixl.specs.Embedded.{EmbeddedIxlState, after_leaving, answer_to_bytes, answer_to_next, answer_to_reading, found_empty, leaving, stepped}
use Rattle.embedded_ixl.specs.declared.call_refusal.CallRefusal.{CallRefusal}

-- a call with what it brings; the numbers are readings of the interlocking's clock
pub data Call : Type 0 where
  -- these bytes came, and then the clock was read
  Hears : ℕ → List ℕ → Call
  Ticks : ℕ → Call
  -- the operator wants something, and then the clock was read
  Obeys : ℕ → Command → Call
  -- the clock was read, and then a receive found nothing
  FindsEmpty : ℕ → Call
  -- the next datagram is asked for
  Takes : ℕ → Call

-- what comes to the interlocking by a call that is accepted, with its reading
abbrev pub input_by : Call → List (ℕ × Input)
input_by (Hears now bytes) = (now, step.Datagram bytes) ∷ []
input_by (Ticks now) = (now, step.Tick) ∷ []
input_by (Obeys now command) = (now, step.Commands command) ∷ []
input_by _ = []

abbrev pub answer_to : Call → EmbeddedIxlState → Result Unit CallRefusal
answer_to (Hears now bytes) it = answer_to_bytes now it
answer_to (Ticks now) it = answer_to_reading now it
answer_to (Obeys now command) it = answer_to_reading now it
answer_to (FindsEmpty before) it = answer_to_reading before it
answer_to (Takes now) it = answer_to_next now it

abbrev pub after_accepted : Call → EmbeddedIxlState → EmbeddedIxlState
after_accepted (Hears now bytes) it = stepped now (step.Datagram bytes) it
after_accepted (Ticks now) it = stepped now step.Tick it
after_accepted (Obeys now command) it = stepped now (step.Commands command) it
after_accepted (FindsEmpty before) it = found_empty before it
after_accepted (Takes now) it = after_leaving now it

-- a call that is refused changes nothing
abbrev pub after_call : Call → EmbeddedIxlState → EmbeddedIxlState
after_call call it = if is_ok (answer_to call it) then after_accepted call it else it

unfoldable pub after_calls : List Call → EmbeddedIxlState → EmbeddedIxlState
after_calls [] it = it
after_calls (first ∷ others) it = after_calls others (after_call first it)

-- the datagram that leaves by a call
abbrev pub leaves_by : Call → EmbeddedIxlState → Option (List ℕ)
leaves_by (Takes now) it = if is_ok (answer_to_next now it) then leaving now it else None
leaves_by _ it = None
