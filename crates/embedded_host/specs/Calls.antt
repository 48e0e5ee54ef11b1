-- The calls of a program's loop, one after another.
use Rattle.std.specs.Prelude.{ℕ, List, [], ◌∷◌, Option, None, Result, Ok, is_ok, if◌then◌else◌}
use Rattle.object_host.specs.Behaviour.{Behaviour}
use Rattle.object_host.specs.declared.input.Input.{Input}
use Rattle.object_host.specs.declared.input.Input.TheVariants as inputs
use Rattle.object_host.specs.declared.sense.Sense.{Sense}
use Rattle.embedded_host.specs.Embedded.{EmbeddedState, after_leaving, answer_to_bytes, answer_to_next, answer_to_reading, found_empty, leaving, put_in_force, read_at, stepped}
use Rattle.embedded_host.specs.declared.refusal.Refusal.{Refusal}

-- a call with what it brings; the numbers are readings of the controller's clock
pub data Call : Type 0 where
  -- these bytes came, and then the clock was read
  Hears : ℕ → List ℕ → Call
  Ticks : ℕ → Call
  -- a contact has changed, and then the clock was read
  Senses : ℕ → Sense → Call
  -- the clock was read, and then a receive found nothing
  FindsEmpty : ℕ → Call
  -- what the equipment has to do is asked for
  AsksOrder : ℕ → Call
  -- the equipment does what the last step orders
  Done : Call
  -- the next datagram is asked for
  Takes : ℕ → Call

-- bytes as a host is lent them
abbrev pub coming : List ℕ → Input
coming bytes = inputs.Datagram (record { ref_ptr = (0, 0); now = bytes })

-- what comes to the controller by a call that is accepted, with its reading
abbrev pub input_by : Call → List (ℕ × Input)
input_by (Hears now bytes) = (now, coming bytes) ∷ []
input_by (Ticks now) = (now, inputs.Tick) ∷ []
input_by (Senses now sense) = (now, inputs.Sense sense) ∷ []
input_by _ = []

module _ {Object : Type 0} where
  abbrev pub answer_to : Call → EmbeddedState Object → Result Unit Refusal
  answer_to (Hears now bytes) it = answer_to_bytes now it
  answer_to (Ticks now) it = answer_to_reading now it
  answer_to (Senses now sense) it = answer_to_reading now it
  answer_to (FindsEmpty before) it = answer_to_reading before it
  answer_to (AsksOrder now) it = answer_to_reading now it
  answer_to Done it = Ok tt
  answer_to (Takes now) it = answer_to_next now it

  abbrev pub after_accepted : Behaviour Object → Call → EmbeddedState Object → EmbeddedState Object
  after_accepted does (Hears now bytes) it = stepped does now (coming bytes) it
  after_accepted does (Ticks now) it = stepped does now inputs.Tick it
  after_accepted does (Senses now sense) it = stepped does now (inputs.Sense sense) it
  after_accepted does (FindsEmpty before) it = found_empty before it
  after_accepted does (AsksOrder now) it = read_at now it
  after_accepted does Done it = put_in_force it
  after_accepted does (Takes now) it = after_leaving now it

  -- a call that is refused changes nothing
  abbrev pub after_call : Behaviour Object → Call → EmbeddedState Object → EmbeddedState Object
  after_call does call it = if is_ok (answer_to call it) then after_accepted does call it else it

  unfoldable pub after_calls : Behaviour Object → List Call → EmbeddedState Object → EmbeddedState Object
  after_calls does [] it = it
  after_calls does (first ∷ others) it = after_calls does others (after_call does first it)

  -- the datagram that leaves by a call
  abbrev pub leaves_by : Call → EmbeddedState Object → Option (List ℕ)
  leaves_by (Takes now) it = if is_ok (answer_to_next now it) then leaving now it else None
  leaves_by _ it = None
