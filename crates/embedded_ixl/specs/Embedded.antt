-- An interlocking inside a program's own loop, and what each call does to it.
use Rattle.std.specs.Prelude.{ℕ, ◌+◌, ◌==◌, suc, nat_le, nat_lt, Bool, true, false, List, drop, Option, Some, None, Result, Ok, Err, if◌then◌else◌, slice_get, unwrap_or}
use Rattle.std.specs.List.{position}
use Rattle.std.specs.Option.{option_map}
use Rattle.ixl_state.specs.First.{key_of, new_ixl}
use Rattle.ixl_state.specs.State.{StateView}
use Rattle.ixl_state.specs.ixl_spec.Step.{Input, Refused, Reply, reply}
use Rattle.ixl_state.specs.ixl_spec.StepSoFar.{empty_outbox}
use Rattle.ixl_state.specs.ixl_spec.declared.command.Refusal.{Refusal}
use Rattle.ixl_state.specs.ixl_table.Table.{SitedTable}
use Rattle.ixl_state.specs.layout.Entries.{Site}
use Rattle.ixl_state.specs.layout.Nodes.{links, partners}
use Rattle.ixl_state.specs.rasta_core.Outbox.{OutboxState}
use Rattle.ixl_state.specs.rasta_pdu.Header.{receiver_of}
use Rattle.ixl.specs.Interlocking.{InterlockingState, step_of}
use Rattle.embedded_host.specs.declared.budget.TheConstants.{LONGEST_IN_SOCKET, LONGEST_WAIT, QUIET_AT_FIRST}
use Rattle.embedded_ixl.specs.declared.call_refusal.CallRefusal.{CallRefusal}
use Rattle.embedded_ixl.specs.declared.call_refusal.CallRefusal.TheVariants.{ClockFell, TooSoon, TooOld}

pub record EmbeddedIxlState : Type 0 where
  -- the interlocking, with what its last step handed out and nobody took yet
  pub interlocking : InterlockingState
  -- the reading of its start
  pub begun : ℕ
  -- the reading of its last step, and of its start where it has made none
  pub since : ℕ
  -- the last reading that a call brought
  pub latest : ℕ
  -- the reading before the last receive that found nothing
  pub empty : Option ℕ

-- an interlocking that starts at this reading
abbrev pub started : StateView → ℕ → EmbeddedIxlState
started state now = record {
  interlocking = record { state = state; outbox = empty_outbox };
  begun = now;
  since = now;
  latest = now;
  empty = None;
}

-- One that was just made of its table: no route is set, and every link is in no connection.
abbrev pub new_state : SitedTable → ℕ → ℕ → StateView
new_state sited first now = record { sited = sited; ixl = new_ixl sited.site sited.table (record { clock = now; first = first }) }

-- What comes now can't have waited for longer than 400 ms: nothing waited at a reading that is no longer ago.
abbrev pub is_recent : ℕ → Option ℕ → Bool
is_recent now None = false
is_recent now (Some empty) = nat_le now (empty + LONGEST_IN_SOCKET)

-- an outbox whose oldest datagram is taken out, or as it is
abbrev pub without_oldest : Bool → OutboxState → OutboxState
without_oldest true outbox = record outbox { datagrams = drop 1 outbox.datagrams }
without_oldest false outbox = outbox

-- The number of the node that a datagram names as its receiver, one past the last where there is none. The interlocking is 0, and
-- the controllers follow.
abbrev pub receiver_in : Site → List ℕ → ℕ
receiver_in site bytes = suc (unwrap_or (position (λ id. id == receiver_of bytes) (partners site)) (links site))

-- ---- what is looked at before a call is accepted

-- the clock has fallen since the last reading
abbrev pub has_fallen : ℕ → EmbeddedIxlState → Bool
has_fallen now it = nat_lt now it.latest

-- an earlier life of it may not be over for everyone
abbrev pub is_quiet : ℕ → EmbeddedIxlState → Bool
is_quiet now it = nat_lt now (it.begun + QUIET_AT_FIRST)

-- ---- the answers, each the first of these that holds

-- to a call that only brings a reading
abbrev pub answer_to_reading : ℕ → EmbeddedIxlState → Result Unit CallRefusal
answer_to_reading now it = if has_fallen now it then Err ClockFell else Ok tt

-- to bytes that came
abbrev pub answer_to_bytes : ℕ → EmbeddedIxlState → Result Unit CallRefusal
answer_to_bytes now it =
    if has_fallen now it then Err ClockFell
    else if is_quiet now it then Err TooSoon
    else if is_recent now it.empty then Ok tt
    else Err TooOld

-- to the question for the next datagram
abbrev pub answer_to_next : ℕ → EmbeddedIxlState → Result Unit CallRefusal
answer_to_next now it =
    if has_fallen now it then Err ClockFell
    else if is_quiet now it then Err TooSoon
    else Ok tt

-- ---- what an accepted call does

-- A step: what the one before handed out is forgotten.
abbrev pub stepped : ℕ → Input → EmbeddedIxlState → EmbeddedIxlState
stepped now input it = record it {
  interlocking = record {
    state = record it.interlocking.state { ixl = (step_of now input it.interlocking.state).ixl };
    outbox = (step_of now input it.interlocking.state).outbox;
  };
  since = now;
  latest = now;
}

-- what the interlocking answers to the input of a step
abbrev pub reply_to : ℕ → Input → EmbeddedIxlState → Reply
reply_to now input it = reply now it.interlocking.state.sited.table (key_of it.interlocking.state.sited.site) input it.interlocking.state.ixl

-- why the interlocking refuses a command, if it does
abbrev pub cause_in : Reply → Option Refusal
cause_in (Refused cause) = Some cause
cause_in _ = None

-- a reading, and nothing else
abbrev pub read_at : ℕ → EmbeddedIxlState → EmbeddedIxlState
read_at now it = record it { latest = now }

-- a receive that found nothing, after this reading
abbrev pub found_empty : ℕ → EmbeddedIxlState → EmbeddedIxlState
found_empty before it = record it { latest = before; empty = Some before }

-- the datagrams of the last step may still leave
abbrev pub is_fresh : ℕ → EmbeddedIxlState → Bool
is_fresh now it = nat_lt now (it.since + LONGEST_WAIT)

-- the oldest leaves, unless it waited for 500 ms: then it is dropped with all others, since no later reading is earlier
abbrev pub leaving : ℕ → EmbeddedIxlState → Option (List ℕ)
leaving now it = if is_fresh now it then slice_get it.interlocking.outbox.datagrams 0 else None

abbrev pub after_leaving : ℕ → EmbeddedIxlState → EmbeddedIxlState
after_leaving now it = record it { interlocking = record it.interlocking { outbox = without_oldest (is_fresh now it) it.interlocking.outbox }; latest = now }

-- with the number of its receiver
abbrev pub addressed : Site → List ℕ → ℕ × List ℕ
addressed site bytes = (receiver_in site bytes, bytes)

abbrev pub leaving_to : ℕ → EmbeddedIxlState → Option (ℕ × List ℕ)
leaving_to now it = option_map (addressed it.interlocking.state.sited.site) (leaving now it)
