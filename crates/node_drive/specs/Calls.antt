-- What the process of a node calls outside, one after another, with what was answered.
use Rattle.std.specs.Prelude.{◌≡◌, ◌≤◌, ℕ, Bool, List, [], ◌∷◌, ◌++◌, Option, Some, None, string_bytes}
use Rattle.node_lines.specs.replay_words.declared.fault.Fault.{Fault}
use Rattle.node_lines.specs.simulator_event.layout.declared.ids.NodeId.{NodeId}
use Rattle.node_drive.specs.declared.outside.NextLine.{NextLine}
use Rattle.node_drive.specs.declared.outside.NextLine.TheVariants as next
use Rattle.node_drive.specs.declared.outside.NextDatagram.{NextDatagram}
use Rattle.node_drive.specs.declared.outside.NextDatagram.TheVariants as next_datagram
use Rattle.node_drive.specs.declared.outside.Origin.{Origin}
use Rattle.node_drive.specs.declared.outside.ToKeep.{ToKeep}

-- what was answered to the question for a line: its text without the line feed, none yet, or none any more
pub data LineHeard : Type 0 where
  Text : (text : List ℕ) → LineHeard
  Nothing : LineHeard
  Closed : LineHeard

abbrev pub line_heard : NextLine → LineHeard
line_heard (next.Text text) = Text (string_bytes text)
line_heard next.Nothing = Nothing
line_heard next.Closed = Closed

-- a datagram, and where it came from
abbrev pub Arrival : Type 0
Arrival = Origin × List ℕ

-- what was answered to the question for a datagram: one, that none waits that came 90 ms ago or more, or nothing, since the call failed
pub data DatagramHeard : Type 0 where
  Came : (arrival : Arrival) → DatagramHeard
  Empty : DatagramHeard
  Failed : DatagramHeard

abbrev pub datagram_heard : NextDatagram → DatagramHeard
datagram_heard (next_datagram.Came arrived) = Came (arrived.origin, arrived.bytes.items)
datagram_heard next_datagram.Empty = Empty
datagram_heard next_datagram.Failed = Failed

pub data Call : Type 0 where
  -- it waits until the next round is due
  Rests : Call
  Reads : (reading : ℕ) → Call
  -- whether somebody began to listen since the last question
  AsksListener : (began : Bool) → Call
  AsksLine : (heard : LineHeard) → Call
  AsksDatagram : (heard : DatagramHeard) → Call
  -- so many datagrams that waited were thrown away, and then none was seen to wait that came 90 ms ago or more, or it wasn't known
  ThrowsAway : (count : ℕ) (empty : Bool) → Call
  -- a line is written and handed on; or a beginning of it at most was written
  Writes : (text : List ℕ) → Call
  BreaksOff : (text : List ℕ) → Call
  Sends : (to : NodeId) (bytes : List ℕ) → Call
  -- a faulty line is told on standard error, by its number
  Complains : (line : ℕ) (fault : Fault) → Call
  -- all this was to be kept in a file for a process that begins later; and whether it is there
  Keeps : (all : ToKeep) (kept : Bool) → Call

-- The list of what was told grows by these. Who told nothing goes on to tell nothing, and who told may stop telling.
abbrev pub Grows : {A : Type 0} → Option (List A) → Option (List A) → List A → Type 0
Grows old None more = Unit {0}
Grows None (Some after) more = ⊥
Grows (Some before) (Some after) more = after ≡ before ++ more

-- What is outside tells: the calls so far, where it tells them, and what the clock read last.
pub record Told : Type 0 where
  pub calls : Option (List Call)
  pub latest : ℕ

-- The readings of these calls don't fall, from one on; the last of them is the latest.
abbrev pub Rises : ℕ → List Call → ℕ → Type 0
Rises from [] latest = latest ≡ from
Rises from (Reads reading ∷ calls) latest = (from ≤ reading) × Rises reading calls latest
Rises from (call ∷ calls) latest = Rises from calls latest

-- These were called, and no others.
pub record Calls (old new : Told) (calls : List Call) : Type 0 where
  pub grows : Grows old.calls new.calls calls
  pub rises : Rises old.latest calls new.latest

-- Of what is after a cut nothing was called, but that a line may have been broken off there.
pub data IsBroken : List Call → List Call → Type 0 where
  between : {behind : List Call} → IsBroken behind []
  within : {text : List ℕ} {behind : List Call} → IsBroken (Writes text ∷ behind) (BreaksOff text ∷ [])

-- Some calls are others up to a cut.
pub record IsCut (whole calls : List Call) : Type 0 where
  pub front : List Call
  pub behind : List Call
  pub whole_is : whole ≡ front ++ behind
  pub last : List Call
  pub broken : IsBroken behind last
  pub calls_are : calls ≡ front ++ last

-- A beginning of these was called, and nothing after it.
pub record CallsCut (old new : Told) (whole : List Call) : Type 0 where
  pub calls : List Call
  pub cut : IsCut whole calls
  pub called : Calls old new calls
