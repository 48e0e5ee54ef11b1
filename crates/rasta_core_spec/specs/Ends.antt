-- Two ends of a link, their clocks, and what was sent between them. The ends see none of this but their own
-- clock, in whole milliseconds.
use Rattle.std.specs.Prelude.{ℕ, ◌+◌, ◌*◌, ◌/◌, ◌&&◌, ◌||◌, not, Bool, true, false, List, [], ◌∷◌, ◌++◌, length, map, Option, Some, None, is_some, is_ok, if◌then◌else◌}
use Rattle.rasta_core_link.specs.State.{LinkState, is_open}
use Rattle.rasta_core_link.specs.Clock.{settled}
use Rattle.rasta_core_link.specs.Calls.{created, opens, opening, ticking, closing_by, answer_to_send, sending_item, receiving}
use Rattle.rasta_core_link.specs.declared.identity.Role.{Role}
use Rattle.rasta_core_link.specs.declared.reason.Reason.{Reason}
use Rattle.rasta_core_link.specs.declared.verdict.Verdict.{Verdict}
use Rattle.rasta_core_link.specs.declared.verdict.Verdict.TheVariants as verdict
use Rattle.rasta_pdu.specs.declared.pdu.Pdu.{Pdu}

-- One datagram that was sent, with the true time of its sending in microseconds, and the connection that its
-- sender was in. A connection has the number of the request that began it: how many datagrams were sent before.
pub record Sent : Type 0 where
  pub bytes : List ℕ
  pub at : ℕ
  pub sender : Role
  pub connection : ℕ
  pub is_lost : Bool

-- One end. Its link is settled at its clock: what the clock rules do is done.
pub record EndState : Type 0 where
  pub link : LinkState
  -- its exact clock, in microseconds
  pub clock : ℕ
  -- the last connection that it entered, and how many datagrams were sent when it last left one or restarted
  pub connection : Option ℕ
  pub left : ℕ
  -- the items that it accepted and that it handed out in this connection
  pub given : List (List ℕ)
  pub taken : List (List ℕ)

-- what an end reads of its clock: whole milliseconds
abbrev pub reading_of : ℕ → ℕ
reading_of clock = clock / 1000

-- a call of a link; of a datagram also the connection that it was sent in
pub data Call : Type 0 where
  Ticks : Call
  Opens : Call
  Closes : Reason → Call
  Sends : List ℕ → Call
  Receives : List ℕ → ℕ → Call

-- what a call does at an end: the link after it, the PDUs handed out, the connection that the end enters in it,
-- if any, and the items accepted and handed out
pub record Outcome : Type 0 where
  pub link : LinkState
  pub pdus : List Pdu
  pub enters : Option ℕ
  pub given : List (List ℕ)
  pub taken : List (List ℕ)

abbrev pub is_taken : Verdict → Bool
is_taken verdict.Taken = true
is_taken _ = false

-- an end outside that takes a PDU has entered the connection in which it was sent
abbrev pub entered_by : LinkState → Verdict → ℕ → Option ℕ
entered_by link what connection = if not (is_open link.phase) && is_taken what then Some connection else None

-- the outcome of a call when so many datagrams were sent in the whole run
unfoldable pub outcome : Call → ℕ → EndState → Outcome
outcome Ticks moment end =
    let step = ticking (reading_of end.clock) end.link
    in record { link = step.link; pdus = step.pdus; enters = None; given = []; taken = [] }
outcome Opens moment end =
    let step = opening (reading_of end.clock) end.link
    in record {
      link = step.link;
      pdus = step.pdus;
      enters = if opens (reading_of end.clock) end.link then Some moment else None;
      given = [];
      taken = [];
    }
outcome (Closes why) moment end =
    let step = closing_by (reading_of end.clock) why end.link
    in record { link = step.link; pdus = step.pdus; enters = None; given = []; taken = [] }
outcome (Sends item) moment end =
    let step = sending_item (reading_of end.clock) item end.link
    in record {
      link = step.link;
      pdus = step.pdus;
      enters = None;
      given = if is_ok (answer_to_send (reading_of end.clock) end.link) then item ∷ [] else [];
      taken = [];
    }
outcome (Receives bytes connection) moment end =
    let receipt = receiving (reading_of end.clock) bytes end.link
    in record {
      link = receipt.link;
      pdus = receipt.pdus;
      enters = entered_by end.link receipt.verdict connection;
      given = [];
      taken = receipt.items;
    }

-- the end has left its connection in a step from one link to another
abbrev pub leaves : LinkState → Option ℕ → LinkState → Bool
leaves old enters new = (is_open old.phase || is_some enters) && not (is_open new.phase)

abbrev pub newer : Option ℕ → Option ℕ → Option ℕ
newer None last = last
newer (Some entered) last = Some entered

-- the lists of the last connection: a new one begins with none
abbrev pub kept : Option ℕ → List (List ℕ) → List (List ℕ)
kept None items = items
kept (Some entered) items = []

-- an end after a call; the moment is how many datagrams were sent before it
unfoldable pub end_after : Outcome → ℕ → EndState → EndState
end_after made moment end = record end {
  link = made.link;
  connection = newer made.enters end.connection;
  left = if leaves end.link made.enters made.link then moment + length made.pdus else end.left;
  given = kept made.enters end.given ++ made.given;
  taken = kept made.enters end.taken ++ made.taken;
}

-- these bytes, as an end hands them out in the connection that it is in
abbrev pub handed_out : ℕ → Role → Option ℕ → List (List ℕ) → List Sent
handed_out time sender connection datagrams =
    map (λ bytes. record { bytes = bytes; at = time; sender = sender; connection = number connection; is_lost = false }) datagrams
  where
    number : Option ℕ → ℕ
    number None = 0
    number (Some entered) = entered

-- the clock of an end goes on: its link may close by time
unfoldable pub end_later : ℕ → ℕ → EndState → EndState
end_later elapsed moment end =
    let link = settled (reading_of (end.clock + elapsed)) end.link
    in record end {
      link = link;
      clock = end.clock + elapsed;
      left = if leaves end.link None link then moment else end.left;
    }

-- an end is made anew, with this clock in milliseconds; the lists of its last connection stay until its next one
unfoldable pub end_restarted : ℕ → ℕ → ℕ → EndState → EndState
end_restarted clock first_sequence_number moment end = record end {
  link = created end.link.identity first_sequence_number clock;
  clock = clock * 1000;
  left = moment;
}
