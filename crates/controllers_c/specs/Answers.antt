-- The numbers that calls from C answer with, and what a call from C does by the rules of a loop.
use Rattle.std.specs.Prelude.{ℕ, nat_lt, Option, Some, None, Result, Ok, Err, if◌then◌else◌}
use Rattle.embedded_host.specs.Calls.{Call, Senses, Takes, after_call, answer_to}
use Rattle.embedded_host.specs.Embedded.{EmbeddedState}
use Rattle.embedded_host.specs.declared.refusal.Refusal.{Refusal}
use Rattle.embedded_host.specs.declared.refusal.Refusal.TheVariants.{ClockFell, TooSoon, TooOld, NotInForce}
use Rattle.object_host.specs.Behaviour.{Behaviour}
use Rattle.object_host.specs.declared.sense.Sense.{Sense}
use Rattle.controllers_c.specs.declared.answers.TheConstants.{OK, NOT_STARTED, ROOM, CLOCK, SOON, OLD, NOT_DONE, LONGEST}

-- the number of an answer
abbrev pub number_of : Result Unit Refusal → ℕ
number_of (Ok done) = OK
number_of (Err ClockFell) = CLOCK
number_of (Err TooSoon) = SOON
number_of (Err TooOld) = OLD
number_of (Err NotInForce) = NOT_DONE

module _ {Object : Type 0} where
  -- to a call of a controller; one that isn't there wasn't started
  abbrev pub answer_in : Call → Option (EmbeddedState Object) → ℕ
  answer_in call None = NOT_STARTED
  answer_in call (Some it) = number_of (answer_to call it)

  -- to a question that is answered wherever there is one
  abbrev pub answer_where_there : Option (EmbeddedState Object) → ℕ
  answer_where_there None = NOT_STARTED
  answer_where_there (Some it) = OK

  -- to a contact that has changed, as C tells it: no sense where its numbers stand for none, and then the answer is this one
  abbrev pub answer_to_contact : ℕ → ℕ → Option Sense → Option (EmbeddedState Object) → ℕ
  answer_to_contact why now sense None = NOT_STARTED
  answer_to_contact why now None (Some it) = why
  answer_to_contact why now (Some sense) (Some it) = number_of (answer_to (Senses now sense) it)

  abbrev pub after_contact : Behaviour Object → ℕ → Option Sense → EmbeddedState Object → EmbeddedState Object
  after_contact does now None it = it
  after_contact does now (Some sense) it = after_call does (Senses now sense) it

  -- to the question for the next datagram, with so much room for it: there has to be room for any
  abbrev pub answer_to_next : ℕ → ℕ → EmbeddedState Object → ℕ
  answer_to_next room now it = if nat_lt room LONGEST then ROOM else number_of (answer_to (Takes now) it)

  abbrev pub answer_to_next_in : ℕ → ℕ → Option (EmbeddedState Object) → ℕ
  answer_to_next_in room now None = NOT_STARTED
  answer_to_next_in room now (Some it) = answer_to_next room now it

  abbrev pub after_next : Behaviour Object → ℕ → ℕ → EmbeddedState Object → EmbeddedState Object
  after_next does room now it = if nat_lt room LONGEST then it else after_call does (Takes now) it
