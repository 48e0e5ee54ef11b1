-- What can happen to a line, and what can't.
use Rattle.std.specs.Prelude.{ℕ, ◌+◌, ◌*◌, nat_le, ◌&&◌, ◌||◌, not, Bool, true, List, is_some}
use Rattle.std.specs.List.{list_any}
use Rattle.std.specs.Str.{bytes_eq}
use Rattle.line_host.specs.declared.input.Input.{Input}
use Rattle.line_host.specs.declared.input.Input.TheVariants as inputs
use Rattle.line_laws.specs.End.{Seen}
use Rattle.line_laws.specs.declared.words.Side.{Side}
use Rattle.line_world.specs.declared.ending.Ending.{Ending}
use Rattle.line_world.specs.declared.names.LineNames.{LineNames}
use Rattle.line_world.specs.State.{EndRun, Flying, LineRun, end_at}
use Rattle.rasta_core.specs.time.TheConstants.{CLOCK_LIMIT}
use Rattle.rasta_pdu.specs.SafetyCode.{intact}

-- Why an end looks.
pub data Occasion : Type 0 where
  -- it is called by its timer
  Tick : Occasion
  -- the network delivers bytes to it: a datagram that was sent, or damaged ones
  Delivers : (bytes : List ℕ) → Occasion
  -- a contact of its part has changed, or how its station drives the lock, or what its operator wishes
  Look : Occasion

-- as a process is called
abbrev pub occasion_of : Input → Occasion
occasion_of inputs.Tick = Tick
occasion_of (inputs.Datagram bytes) = Delivers bytes.now
occasion_of inputs.Look = Look

pub data LineEvent : Type 0 where
  -- an end looks, sees this, and ends its look so
  Looks : Side → Occasion → Seen → Ending → LineEvent
  -- a contact of its part has changed while no process of it runs: whether one is occupied now
  Misses : Side → (busy : Bool) → LineEvent
  -- true time goes on, and the clocks of both ends, in microseconds
  Passes : (elapsed of_first of_second : ℕ) → LineEvent
  -- the network loses the oldest datagram of these bytes
  Loses : (bytes : List ℕ) → LineEvent
  -- an end is made anew from its file, with a clock in milliseconds and the number of its first PDU
  Restarts : Side → (clock first : ℕ) → LineEvent

-- ---- what can happen

abbrev pub is_copy : List ℕ → Flying → Bool
is_copy bytes one = bytes_eq one.bytes bytes

-- a datagram of these bytes may still be delivered
abbrev pub is_flying : List ℕ → List Flying → Bool
is_flying bytes flying = list_any (is_copy bytes) flying

-- Bytes that are intact were sent, and are at most 2000 ms old.
abbrev pub may_deliver : LineNames → List ℕ → LineRun → Bool
may_deliver names bytes run = is_flying bytes run.flying || not (intact names.key bytes)

abbrev pub may_look : LineNames → Occasion → LineRun → Bool
may_look names Tick run = true
may_look names (Delivers bytes) run = may_deliver names bytes run
may_look names Look run = true

-- A clock that goes on by so much in a true time keeps within one part in a thousand of it.
abbrev pub keeps_time : (elapsed of_clock : ℕ) → Bool
keeps_time elapsed of_clock = nat_le (999 * elapsed) (1000 * of_clock) && nat_le (1000 * of_clock) (1001 * elapsed)

-- no clock passes the limit
abbrev pub are_within : (of_first of_second : ℕ) → LineRun → Bool
are_within of_first of_second run = nat_le (run.first.clock + of_first) CLOCK_LIMIT && nat_le (run.second.clock + of_second) CLOCK_LIMIT

abbrev pub may_pass : (elapsed of_first of_second : ℕ) → LineRun → Bool
may_pass elapsed of_first of_second run = keeps_time elapsed of_first && keeps_time elapsed of_second && are_within of_first of_second run

abbrev pub is_at_work : EndRun → Bool
is_at_work end = is_some end.process

abbrev pub may_happen : LineNames → LineEvent → LineRun → Bool
may_happen names (Looks side occasion seen ending) run = is_at_work (end_at side run) && may_look names occasion run
may_happen names (Misses side busy) run = not (is_at_work (end_at side run))
may_happen names (Passes elapsed of_first of_second) run = may_pass elapsed of_first of_second run
may_happen names (Loses bytes) run = is_flying bytes run.flying
may_happen names (Restarts side clock first) run = nat_le (clock * 1000) CLOCK_LIMIT
