-- Who asks for a retransmission in a connection, and who answers. An end that misses a PDU asks its partner, and takes nothing in turn until
-- the answer comes. Asks and answers are counted by their numbers: how often the network copies them, or loses them, doesn't matter.
use Rattle.std.specs.Prelude.{◌≡◌, ℕ, ◌+◌, ◌≤◌, ◌<◌, ◌⊎◌, List, Some, Ok}
use Rattle.rasta_core_spec.specs.Ends.{Call, EndState, Receives, Sent}
use Rattle.rasta_core_spec.specs.Events.{Calls, Event, IsAmong}
use Rattle.rasta_core_spec.specs.Names.{Names}
use Rattle.rasta_core_spec.specs.PduRead.{reading}
use Rattle.rasta_core_spec.specs.Run.{Ends}
use Rattle.rasta_core_spec.specs.Sequence.{wire}
use Rattle.rasta_core_spec.specs.State.{LinkState}
use Rattle.rasta_core_spec.specs.identity.Role.{Role}
use Rattle.rasta_core_spec.specs.identity.Role.TheVariants as role
use Rattle.rasta_core_spec.specs.pdu.Pdu.{Pdu}
use Rattle.rasta_core_spec.specs.phase.Phase.TheVariants as phase
use Rattle.rasta_core_spec.specs.body.Body.TheVariants.{RetransmissionRequest, RetransmissionResponse}
use Rattle.rasta_core_recovery.specs.Confirming.{AreIn, reached_by}

-- two ends as one of them sees them: itself, its partner, and what both have sent
pub record View : Type 0 where
  pub who : Role
  pub own : EndState
  pub whom : Role
  pub partner : EndState
  pub sent : List Sent

abbrev pub of_client : Ends → View
of_client ends = record { who = role.Client; own = ends.client; whom = role.Server; partner = ends.server; sent = ends.sent }

abbrev pub of_server : Ends → View
of_server ends = record { who = role.Server; own = ends.server; whom = role.Client; partner = ends.client; sent = ends.sent }

-- the same, as the partner sees them
abbrev pub of_partner : View → View
of_partner view = record { who = view.whom; own = view.partner; whom = view.who; partner = view.own; sent = view.sent }

-- an end that waits for the answer
abbrev pub IsWaiting : LinkState → Type 0
IsWaiting link = link.phase ≡ phase.RetransmissionRequested

-- The end said this PDU in its connection, under this number: its first one there has the number 0.
pub record IsSaid (names : Names) (view : View) (number : ℕ) (pdu : Pdu) : Type 0 where
  pub datagram : Sent
  pub among : IsAmong datagram view.sent
  pub sender : datagram.sender ≡ view.who
  pub connection : view.own.connection ≡ Some datagram.connection
  pub read : reading names.key datagram.bytes ≡ Ok pdu
  pub numbered : pdu.sequence_number ≡ wire view.own.link.own_first number
  pub below : number < view.own.link.sent

-- it asked under this number
pub record IsAsk (names : Names) (view : View) (number : ℕ) : Type 0 where
  pub pdu : Pdu
  pub said : IsSaid names view number pdu
  pub asks : pdu.body ≡ RetransmissionRequest

-- it answered under this number
pub record IsAnswer (names : Names) (view : View) (number : ℕ) : Type 0 where
  pub pdu : Pdu
  pub said : IsSaid names view number pdu
  pub answers : pdu.body ≡ RetransmissionResponse

-- it answered the ask of this number of its partner, under that number: the answer confirms the ask
pub record IsAnswerTo (names : Names) (view : View) (asked number : ℕ) : Type 0 where
  pub answer : IsAnswer names view number
  pub ask : IsAsk names (of_partner view) asked
  pub confirms : answer.pdu.confirmed_sequence_number ≡ wire view.partner.link.own_first asked

-- an ask of the end that its partner hasn't passed yet
pub record AskComes (names : Names) (view : View) (number : ℕ) : Type 0 where
  pub ask : IsAsk names view number
  pub ahead : reached_by view.partner.link ≤ number

-- an answer of its partner that the end hasn't passed yet
pub record AnswerComes (names : Names) (view : View) (number : ℕ) : Type 0 where
  pub answer : IsAnswer names (of_partner view) number
  pub ahead : reached_by view.own.link ≤ number

-- An ask that its partner hasn't passed and an answer that the end hasn't passed are there only while it waits; and then both together are at
-- most one.
pub record AreFew (names : Names) (view : View) : Type 0 where
  pub ask_waits : (number : ℕ) → AskComes names view number → IsWaiting view.own.link
  pub answer_waits : (number : ℕ) → AnswerComes names view number → IsWaiting view.own.link
  pub one_ask : (one other : ℕ) → AskComes names view one → AskComes names view other → one ≡ other
  pub one_answer : (one other : ℕ) → AnswerComes names view one → AnswerComes names view other → one ≡ other
  pub not_both : (asked answered : ℕ) → AskComes names view asked → AnswerComes names view answered → ⊥

-- An end that waits asked last under this number: after that it has asked no more, and answered nothing. Its partner hasn't passed the ask
-- yet, or the answer is still to come. And the partner has said a PDU after the one that the end expects.
pub record HasAsked (names : Names) (view : View) : Type 0 where
  pub number : ℕ
  pub ask : IsAsk names view number
  pub asks_no_more : (other : ℕ) → IsAsk names view other → other ≤ number
  pub answers_no_more : (other : ℕ) → IsAnswer names view other → other < number
  pub comes : (reached_by view.partner.link ≤ number) ⊎ ((answered : ℕ) × AnswerComes names view answered)
  pub missed : reached_by view.own.link + 1 < view.partner.link.sent

-- Of an end: few asks of it are under way, it has asked where it waits, and each of its answers is one to an ask, which it had passed.
pub record AsksInTurn (names : Names) (view : View) : Type 0 where
  pub few : AreFew names view
  pub asked : IsWaiting view.own.link → HasAsked names view
  pub answers : (number : ℕ) → IsAnswer names view number → (asked : ℕ) × IsAnswerTo names view asked number
  pub passed : (asked number : ℕ) → IsAnswerTo names view asked number → asked < reached_by view.own.link
  -- under one number it said one PDU
  pub once : (number : ℕ) (one other : Pdu) → IsSaid names view number one → IsSaid names view number other → one ≡ other

-- Answers don't cross: of two, one of each end, one was said before the ask that the other answers.
abbrev pub DontCross : Names → View → Type 0
DontCross names view =
    (asked answered partner_asked partner_answered : ℕ) → IsAnswerTo names view asked answered → IsAnswerTo names (of_partner view) partner_asked partner_answered
    → (partner_answered < asked) ⊎ (answered < partner_asked)

pub record AskInTurn (names : Names) (ends : Ends) : Type 0 where
  pub client : AsksInTurn names (of_client ends)
  pub server : AsksInTurn names (of_server ends)
  pub apart : DontCross names (of_client ends)

-- so it is while both are in the connection
abbrev pub EndsAskInTurn : Names → Ends → Type 0
EndsAskInTurn names ends = AreIn ends → AskInTurn names ends

-- ---- a round

-- something comes to an end
abbrev pub IsReceived : Call → Type 0
IsReceived (Receives bytes connection) = Unit {0}
IsReceived _ = ⊥

abbrev pub IsComing : Event → Type 0
IsComing (Calls who call) = IsReceived call
IsComing _ = ⊥

-- Both ends wait, and each took last a PDU that the other has said since an earlier moment.
pub record BothWait (one other : Ends) : Type 0 where
  pub client : IsWaiting other.client.link
  pub server : IsWaiting other.server.link
  pub client_took : one.server.link.sent < reached_by other.client.link
  pub server_took : one.client.link.sent < reached_by other.server.link

-- an answer is still to come to one of them
abbrev pub AnAnswerComes : Names → Ends → Type 0
AnAnswerComes names ends = ((number : ℕ) × AnswerComes names (of_client ends) number) ⊎ ((number : ℕ) × AnswerComes names (of_server ends) number)
