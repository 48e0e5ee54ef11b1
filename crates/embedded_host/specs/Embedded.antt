-- A controller inside a program's own loop, and what each call does to it.
use Rattle.std.specs.Prelude.{ℕ, ◌+◌, nat_le, nat_lt, Bool, true, false, List, drop, Option, Some, None, Result, Ok, Err, if◌then◌else◌, slice_get}
use Rattle.rasta_core.specs.Outbox.{OutboxState, posted}
use Rattle.object_host.specs.Behaviour.{Behaviour}
use Rattle.object_host.specs.Host.{HostState}
use Rattle.object_host.specs.Hosted.{HostedState, empty_outbox}
use Rattle.object_host.specs.Step.{host_step}
use Rattle.object_host.specs.declared.input.Input.{Input}
use Rattle.embedded_host.specs.declared.budget.TheConstants.{LONGEST_IN_SOCKET, LONGEST_WAIT, QUIET_AT_FIRST}
use Rattle.embedded_host.specs.declared.refusal.Refusal.{Refusal}
use Rattle.embedded_host.specs.declared.refusal.Refusal.TheVariants.{ClockFell, TooSoon, TooOld, NotInForce}

pub record EmbeddedState (Object : Type 0) : Type 0 where
  -- the controller, with what its last step handed out and nobody took yet
  pub hosted : HostedState Object
  -- the reading of its start
  pub begun : ℕ
  -- the reading of its last step, and of its start where it has made none
  pub since : ℕ
  -- the last reading that a call brought
  pub latest : ℕ
  -- whether the order of the last step was put in force
  pub in_force : Bool
  -- the reading before the last receive that found nothing
  pub empty : Option ℕ

-- a controller that starts at this reading
abbrev pub started : {Object : Type 0} → HostState Object → ℕ → EmbeddedState Object
started host now = record {
  hosted = record { host = host; outbox = empty_outbox };
  begun = now;
  since = now;
  latest = now;
  in_force = false;
  empty = None;
}

-- What comes now can't have waited for longer than 400 ms: nothing waited at a reading that is no longer ago.
abbrev pub is_recent : ℕ → Option ℕ → Bool
is_recent now None = false
is_recent now (Some empty) = nat_le now (empty + LONGEST_IN_SOCKET)

-- an outbox whose oldest datagram is taken out, or as it is
abbrev pub without_oldest : Bool → OutboxState → OutboxState
without_oldest true outbox = record outbox { datagrams = drop 1 outbox.datagrams }
without_oldest false outbox = outbox

module _ {Object : Type 0} where
  -- ---- what is looked at before a call is accepted

  -- the clock has fallen since the last reading
  abbrev pub has_fallen : ℕ → EmbeddedState Object → Bool
  has_fallen now it = nat_lt now it.latest

  -- an earlier life of it may not be over for everyone
  abbrev pub is_quiet : ℕ → EmbeddedState Object → Bool
  is_quiet now it = nat_lt now (it.begun + QUIET_AT_FIRST)

  -- ---- the answers, each the first of these that holds

  -- to a call that only brings a reading
  abbrev pub answer_to_reading : ℕ → EmbeddedState Object → Result Unit Refusal
  answer_to_reading now it = if has_fallen now it then Err ClockFell else Ok tt

  -- to bytes that came
  abbrev pub answer_to_bytes : ℕ → EmbeddedState Object → Result Unit Refusal
  answer_to_bytes now it =
      if has_fallen now it then Err ClockFell
      else if is_quiet now it then Err TooSoon
      else if is_recent now it.empty then Ok tt
      else Err TooOld

  -- to the question for the next datagram
  abbrev pub answer_to_next : ℕ → EmbeddedState Object → Result Unit Refusal
  answer_to_next now it =
      if has_fallen now it then Err ClockFell
      else if is_quiet now it then Err TooSoon
      else if it.in_force then Ok tt
      else Err NotInForce

  -- ---- what an accepted call does

  -- A step: what the one before handed out is forgotten, and its order isn't in force yet.
  abbrev pub stepped : Behaviour Object → ℕ → Input → EmbeddedState Object → EmbeddedState Object
  stepped does now input it = record it {
    hosted = record {
      host = (host_step does now input it.hosted.host).host;
      outbox = posted it.hosted.host.link.identity.key (host_step does now input it.hosted.host).pdus empty_outbox;
    };
    since = now;
    latest = now;
    in_force = false;
  }

  -- a reading, and nothing else
  abbrev pub read_at : ℕ → EmbeddedState Object → EmbeddedState Object
  read_at now it = record it { latest = now }

  -- a receive that found nothing, after this reading
  abbrev pub found_empty : ℕ → EmbeddedState Object → EmbeddedState Object
  found_empty before it = record it { latest = before; empty = Some before }

  -- the order of the last step is in force
  abbrev pub put_in_force : EmbeddedState Object → EmbeddedState Object
  put_in_force it = record it { in_force = true }

  -- the datagrams of the last step may still leave
  abbrev pub is_fresh : ℕ → EmbeddedState Object → Bool
  is_fresh now it = nat_lt now (it.since + LONGEST_WAIT)

  -- the oldest leaves, unless it waited for 500 ms: then it is dropped with all others, since no later reading is earlier
  abbrev pub leaving : ℕ → EmbeddedState Object → Option (List ℕ)
  leaving now it = if is_fresh now it then slice_get it.hosted.outbox.datagrams 0 else None

  abbrev pub after_leaving : ℕ → EmbeddedState Object → EmbeddedState Object
  after_leaving now it = record it { hosted = record it.hosted { outbox = without_oldest (is_fresh now it) it.hosted.outbox }; latest = now }
