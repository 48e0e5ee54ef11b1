-- What an end hands out: its PDUs, with their numbers and stamps.
use Rattle.std.specs.Prelude.{ℕ, ◌+◌, ◌-◌, nat_le, ◌&&◌, Bool, true, false, List, [], ◌∷◌, ◌++◌, if◌then◌else◌}
use Rattle.rasta_core_link.specs.Parameters.{heartbeat_interval, connection_limit, stops_at_greatest}
use Rattle.rasta_core_link.specs.Sequence.{wire, before, stamp}
use Rattle.rasta_core_link.specs.State.{LinkState, is_open, is_up, is_asking}
use Rattle.rasta_core_link.specs.Clock.{settled}
use Rattle.rasta_core_link.specs.declared.phase.Phase.TheVariants as phase
use Rattle.rasta_core_link.specs.declared.reason.Reason.{Reason}
use Rattle.rasta_core_link.specs.declared.reason.Reason.TheVariants as reason
use Rattle.rasta_core_link.specs.declared.header.Header.{Header}
use Rattle.rasta_pdu.specs.declared.pdu.Pdu.{Pdu}
use Rattle.rasta_pdu.specs.declared.body.Body.{Body}
use Rattle.rasta_pdu.specs.declared.body.Body.TheVariants.{DisconnectionRequest, Heartbeat, Data}

-- what a part of a call does: the link after it, and the PDUs handed out
pub record Step : Type 0 where
  pub link : LinkState
  pub pdus : List Pdu

abbrev pub silent : LinkState → Step
silent link = record { link = link; pdus = [] }

-- one part after another
abbrev pub then_do : Step → (LinkState → Step) → Step
then_do first next = record { link = (next first.link).link; pdus = first.pdus ++ (next first.link).pdus }

-- an end that has taken nothing in its connection confirms 0
unfoldable pub header_of : LinkState → Header
header_of link = record {
  receiver = link.identity.partner;
  sender = link.identity.own;
  first_sequence_number = link.own_first;
  confirmed_sequence_number = if is_asking link then 0 else wire link.partner_first (before link.expected);
  confirmed_time_stamp = if is_asking link then 0 else link.partner_stamp;
  time_stamp = stamp link.clock;
}

-- the PDU of this count in the connection
unfoldable pub pdu_of : Header → ℕ → Body → Pdu
pdu_of header count body = record {
  receiver = header.receiver;
  sender = header.sender;
  sequence_number = wire header.first_sequence_number count;
  confirmed_sequence_number = header.confirmed_sequence_number;
  time_stamp = header.time_stamp;
  confirmed_time_stamp = header.confirmed_time_stamp;
  body = body;
}

-- the next PDU goes out
unfoldable pub sending : Body → LinkState → Step
sending body link = record {
  link = record link { sent = link.sent + 1; sent_at = link.clock };
  pdus = pdu_of (header_of link) link.sent body ∷ [];
}

abbrev pub reason_number : Reason → ℕ
reason_number reason.User = 0
reason_number reason.State = 1
reason_number reason.Sequence = 2
reason_number reason.Time = 3
reason_number reason.Version = 4
reason_number reason.Window = 5

-- whether a close for this reason is told to the partner
abbrev pub is_told : Reason → Bool
is_told reason.Time = false
is_told _ = true

abbrev pub closed : LinkState → LinkState
closed link = record link { phase = phase.Closed; closed_at = link.clock }

-- an open link closes, and tells its partner
unfoldable pub telling : Reason → LinkState → Step
telling why link =
    let told = sending (DisconnectionRequest 0 (reason_number why)) link
    in record { link = closed told.link; pdus = told.pdus }

unfoldable pub closing : Reason → LinkState → Step
closing why link = if is_told why then telling why link else silent (closed link)

-- how each call begins: the clock rules, and then the limit of PDUs in a connection
unfoldable pub limited : LinkState → Step
limited link = if is_open link.phase && nat_le connection_limit link.sent then telling reason.Sequence link else silent link

unfoldable pub entered : ℕ → LinkState → Step
entered now link = limited (settled now link)

-- a heartbeat, where the end is up and silent for so long
unfoldable pub beating : LinkState → Step
beating link =
    if is_up link.phase && nat_le heartbeat_interval (link.clock - link.sent_at) then sending Heartbeat link else silent link

-- a new item goes out, and waits under the count of its PDU
unfoldable pub giving : List ℕ → LinkState → Step
giving item link =
    let carried = sending (Data (item ∷ [])) link
    in let waiting_now = link.waiting ++ (record { tag = link.sent; item = item }) ∷ []
    in let counted = stops_at_greatest (link.given + 1)
    in record { link = record carried.link { waiting = waiting_now; given = counted }; pdus = carried.pdus }
