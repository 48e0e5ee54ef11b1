-- Nothing that an end sends falls after what it sent before: in a connection the numbers of its PDUs go on, and neither their stamps
-- nor what they confirm and return falls.
use Rattle.std.specs.Prelude.{◌≡◌, ℕ, ◌+◌, ◌-◌, ◌*◌, ◌≤◌, ◌<◌, true, false, List, [], ◌∷◌, Option, Some, Ok, if◌then◌else◌}
use Rattle.rasta_core_spec.specs.Bag.{lifetime}
use Rattle.rasta_core_spec.specs.Each.{Each}
use Rattle.rasta_core_spec.specs.Ends.{Sent, reading_of}
use Rattle.rasta_core_spec.specs.Names.{Names}
use Rattle.rasta_core_spec.specs.Run.{Ends}
use Rattle.rasta_core_spec.specs.Sequence.{stamp, wire}
use Rattle.rasta_core_spec.specs.State.{LinkState, is_asking}
use Rattle.rasta_core_spec.specs.identity.Role.{Role}
use Rattle.rasta_core_spec.specs.identity.Role.TheVariants as role
use Rattle.rasta_core_spec.specs.PduRead.{reading}
use Rattle.rasta_core_spec.specs.pdu.Pdu.{Pdu}
use Rattle.rasta_core.specs.Timely.{WasReadThen}
use Rattle.rasta_core_recovery.specs.Confirming.{AreIn}

-- Where the sender of a PDU stands as it has sent it: how many PDUs it has sent, what its clock reads, how many PDUs of its partner it
-- confirms after the first, and the reading of its partner's clock whose stamp it returns.
pub record Stand : Type 0 where
  pub sent : ℕ
  pub now : ℕ
  pub confirms : ℕ
  pub returns : ℕ

-- Where an end stood at a moment that is marked: how many PDUs it had sent, and what its clock read.
pub record Mark : Type 0 where
  pub sent : ℕ
  pub now : ℕ

-- both ends, at one moment
pub record Marks : Type 0 where
  pub client : Mark
  pub server : Mark

-- as they stand now
abbrev pub marks_of : Ends → Marks
marks_of ends = record {
  client = record { sent = ends.client.link.sent; now = ends.client.link.clock };
  server = record { sent = ends.server.link.sent; now = ends.server.link.clock };
}

abbrev pub unmarked : Marks
unmarked = record { client = record { sent = 0; now = 0 }; server = record { sent = 0; now = 0 } }

-- what is confirmed and what is returned belong together: where a PDU from after the marked moment is returned, so many are confirmed
abbrev pub IsPaired : Mark → ℕ → ℕ → Type 0
IsPaired mark confirms returns = confirms < mark.sent → returns ≤ mark.now

-- all items of an end that wait do so under its PDUs from this number on
abbrev pub WaitFrom : ℕ → LinkState → Type 0
WaitFrom number link = Each (λ held. number ≤ held.tag) link.waiting

-- one that hasn't fallen
abbrev pub NoneFalls : Stand → Stand → Type 0
NoneFalls one other = (one.sent ≤ other.sent) × (one.now ≤ other.now) × (one.confirms ≤ other.confirms) × (one.returns ≤ other.returns)

-- For each of these datagrams that is so of a stand, and from one to the next these stands don't fall.
abbrev pub Rises : (Sent → Stand → Type 0) → Stand → List Sent → Stand → Type 0
Rises Q low [] high = NoneFalls low high
Rises Q low (first ∷ later) high = (at : Stand) × NoneFalls low at × Q first at × Rises Q at later high

-- An end that speaks in a connection, at a moment: the numbers of the first PDUs of both, true time and the exact clocks of both, in
-- microseconds, which of its PDUs its partner expects, and the reading whose stamp its partner keeps of it.
pub record Speaker : Type 0 where
  pub who : Role
  pub connection : Option ℕ
  pub first : ℕ
  pub partner_first : ℕ
  pub time : ℕ
  pub clock : ℕ
  pub partner_clock : ℕ
  pub expected : ℕ
  pub kept : ℕ
  -- where it stood, and its partner, at the moment that is marked
  pub mark : Mark
  pub partner_mark : Mark

-- It sent this PDU where it stood so: with this number and this stamp, which its clock read then. All but its first PDU confirm and return
-- what its stand tells, and this was read lately then; and one that its partner may still take bears a stamp no older than the one that this keeps.
-- What it had sent by the marked moment bears no later stamp; and what it confirms and returns belong together.
pub record IsToldAt (speaker : Speaker) (sent_at : ℕ) (at : Stand) (pdu : Pdu) : Type 0 where
  pub some : 1 ≤ at.sent
  pub number : pdu.sequence_number ≡ wire speaker.first (at.sent - 1)
  pub stamped : pdu.time_stamp ≡ stamp at.now
  pub was_read : WasReadThen speaker.time speaker.clock at.now sent_at
  pub confirms : 2 ≤ at.sent → pdu.confirmed_sequence_number ≡ wire speaker.partner_first at.confirms
  pub returns : 2 ≤ at.sent → pdu.confirmed_time_stamp ≡ stamp at.returns
  pub recent : 2 ≤ at.sent → 1000 * speaker.partner_clock + 1001 * sent_at ≤ 1000000 * at.returns + 1001 * speaker.time + 3820000000
  pub fresh : speaker.expected < at.sent → speaker.kept ≤ at.now
  pub early : at.sent ≤ speaker.mark.sent → at.now ≤ speaker.mark.now
  pub paired : IsPaired speaker.partner_mark at.confirms at.returns

-- a datagram, if it is of this end in this connection, and may still be delivered
abbrev pub IsOf : Names → Speaker → Sent → Stand → Type 0
IsOf names speaker datagram at =
    datagram.sender ≡ speaker.who → speaker.connection ≡ Some datagram.connection → speaker.time ≤ datagram.at + lifetime → (pdu : Pdu) → reading names.key datagram.bytes ≡ Ok pdu
    → IsToldAt speaker datagram.at at pdu

-- how many PDUs of its partner an end confirms after the first
abbrev pub confirmed_by : LinkState → ℕ
confirmed_by link = if is_asking link then 0 else link.expected - 1

-- where an end stands now
abbrev pub stands : LinkState → ℕ → Stand
stands link kept = record { sent = link.sent; now = link.clock; confirms = confirmed_by link; returns = kept }

abbrev pub nothing_sent : Stand
nothing_sent = record { sent = 0; now = 0; confirms = 0; returns = 0 }

abbrev pub the_client_since : Marks → Ends → ℕ → Speaker
the_client_since marks ends kept = record {
  who = role.Client;
  connection = ends.client.connection;
  first = ends.client.link.own_first;
  partner_first = ends.client.link.partner_first;
  time = ends.time;
  clock = ends.client.clock;
  partner_clock = ends.server.clock;
  expected = ends.server.link.expected;
  kept = kept;
  mark = marks.client;
  partner_mark = marks.server;
}

abbrev pub the_client : Ends → ℕ → Speaker
the_client = the_client_since unmarked

abbrev pub the_server_since : Marks → Ends → ℕ → Speaker
the_server_since marks ends kept = record {
  who = role.Server;
  connection = ends.server.connection;
  first = ends.server.link.own_first;
  partner_first = ends.server.link.partner_first;
  time = ends.time;
  clock = ends.server.clock;
  partner_clock = ends.client.clock;
  expected = ends.client.link.expected;
  kept = kept;
  mark = marks.server;
  partner_mark = marks.client;
}

abbrev pub the_server : Ends → ℕ → Speaker
the_server = the_server_since unmarked

-- The reading whose stamp an end keeps of its partner is past, and was read lately: 2005 ms before the end knew its own stamp to be
-- returned, at most. The clocks are exact ones, in microseconds.
pub record Keeps (link : LinkState) (clock partner_clock kept : ℕ) : Type 0 where
  pub kept_is : link.partner_stamp ≡ stamp kept
  pub before : kept ≤ reading_of partner_clock
  pub lately : 1000 * partner_clock + 1003000 * link.own_stamp ≤ 1000000 * kept + 2005000000 + 1003 * clock

-- An end has sent no fewer PDUs than at its marked moment; it keeps of its partner what belongs to what it expects; and where its own stamp is
-- younger than that moment, what waits was sent since.
pub record IsMarked (mark partner_mark : Mark) (link : LinkState) (kept : ℕ) : Type 0 where
  pub before : mark.sent ≤ link.sent
  pub paired : IsPaired partner_mark (confirmed_by link) kept
  pub waits : mark.now < link.own_stamp → WaitFrom mark.sent link

-- What both ends of a connection have sent in it doesn't fall. A client that still asks keeps nothing.
pub record RisingSince (names : Names) (marks : Marks) (ends : Ends) : Type 0 where
  pub client_kept : ℕ
  pub server_kept : ℕ
  pub none_yet : is_asking ends.client.link ≡ true → client_kept ≡ 0
  pub client_keeps : is_asking ends.client.link ≡ false → Keeps ends.client.link ends.client.clock ends.server.clock client_kept
  pub server_keeps : Keeps ends.server.link ends.server.clock ends.client.clock server_kept
  pub of_client : Rises (IsOf names (the_client_since marks ends server_kept)) nothing_sent ends.sent (stands ends.client.link client_kept)
  pub of_server : Rises (IsOf names (the_server_since marks ends client_kept)) nothing_sent ends.sent (stands ends.server.link server_kept)
  pub client_marked : IsMarked marks.client marks.server ends.client.link client_kept
  pub server_marked : IsMarked marks.server marks.client ends.server.link server_kept

abbrev pub Rising : Names → Ends → Type 0
Rising names = RisingSince names unmarked

-- so it is while both are in it
abbrev pub NothingFallsSince : Names → Marks → Ends → Type 0
NothingFallsSince names marks ends = AreIn ends → RisingSince names marks ends

abbrev pub NothingFalls : Names → Ends → Type 0
NothingFalls names = NothingFallsSince names unmarked
