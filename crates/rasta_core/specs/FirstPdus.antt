-- How a connection begins: the client's part before the server enters, and the server's part as it does.
use Rattle.std.specs.Prelude.{◌≡◌, ℕ, ◌^◌, ◌<◌, ◌≤◌, ◌+◌, true, List, [], ◌++◌, ◌⊎◌, false}
use Rattle.rasta_core_spec.specs.Parameters.{most_sent}
use Rattle.rasta_core_spec.specs.State.{LinkState, is_open, is_asking, is_client}
use Rattle.rasta_core_spec.specs.Clock.{state_at}
use Rattle.rasta_core_spec.specs.Establishment.{granting}
use Rattle.rasta_core_spec.specs.phase.State.TheVariants as state
use Rattle.rasta_core_spec.specs.Receipt.{Receipt, refusing, accepting}
use Rattle.rasta_core_spec.specs.verdict.Verdict.{Verdict}
use Rattle.rasta_core_spec.specs.verdict.Verdict.TheVariants as verdict
use Rattle.rasta_core_spec.specs.body.Opening.{Opening}
use Rattle.rasta_core.specs.EndFlow.{IsAt, EndFlow, sent}
use Rattle.rasta_core.specs.Order.{BeginsByResponse, IsSent, InOrder}
use Rattle.rasta_core.specs.LinkAndFlow.{Keeps, IsNew, IsInside, Plays}
use Rattle.rasta_core_spec.specs.pdu.Pdu.{Pdu}
use Rattle.rasta_core_spec.specs.body.Body.TheVariants.{ConnectionRequest, RetransmissionRequest, RetransmissionResponse}

-- The part of a client that has asked, and that the server hasn't entered yet: its request, perhaps with a closing.
-- It has taken the response already, which is the first PDU of the server and brings nothing.
pub record IsEarly (client : EndFlow) : Type 0 where
  pub first : client.first < 2 ^ 32
  pub some : 1 ≤ sent client
  pub room : sent client ≤ most_sent + 1
  pub given : client.given ≡ []
  pub taken : client.taken ≡ []
  pub waiting : client.waiting ≡ []
  pub reached : client.reached ≡ 1
  pub client_flow : BeginsByResponse client.flow → ⊥
  pub passed : (number : ℕ) → client.passed number ≡ 0
  pub expecting : (number : ℕ) → client.expecting number ≡ 1
  -- whatever the number of the server's first PDU will be
  pub each : (place : ℕ) (pdu : Pdu) → IsAt place pdu client.flow → (server_first : ℕ) → IsSent client server_first place pdu
  pub no_asking : (place : ℕ) (pdu : Pdu) → IsAt place pdu client.flow → pdu.body ≡ RetransmissionRequest → ⊥
  pub no_answer : (place : ℕ) (pdu : Pdu) → IsAt place pdu client.flow → pdu.body ≡ RetransmissionResponse → ⊥

-- how the link of a client is in its early part, or was until it left
pub data PlaysEarly (link : LinkState) (client : EndFlow) : Type 0 where
  asks : IsInside link client → is_asking link ≡ true → PlaysEarly link client
  gone : is_open link.phase ≡ false → Keeps link client ⊎ IsNew link → PlaysEarly link client

-- The client goes on alone: it has sent these PDUs more.
pub record EarlyGoesOn (old : EndFlow) (link : LinkState) (pdus : List Pdu) : Type 0 where
  pub part : EndFlow
  pub first : part.first ≡ old.first
  pub flow : part.flow ≡ old.flow ++ pdus
  pub early : IsEarly part
  pub plays : PlaysEarly link part

-- A client has begun a connection with these PDUs.
pub record Asks (link : LinkState) (pdus : List Pdu) : Type 0 where
  pub part : EndFlow
  pub flow : part.flow ≡ pdus
  pub early : IsEarly part
  pub plays : PlaysEarly link part

-- A server has entered the connection of this client with these PDUs.
pub record Grants (client : EndFlow) (link : LinkState) (pdus : List Pdu) : Type 0 where
  pub part : EndFlow
  pub first : part.first < 2 ^ 32
  pub flow : part.flow ≡ pdus
  pub given : part.given ≡ []
  pub taken : part.taken ≡ []
  pub order : InOrder part client
  pub plays : Plays link part client

-- What an end outside does with a PDU: it refuses it, or it is a server that is down and takes the request of its
-- partner.
pub data HearsOutside (pdu : Pdu) (link : LinkState) (receipt : Receipt) : Type 0 where
  refuses : (why : Verdict) → (why ≡ verdict.Taken → ⊥) → receipt ≡ refusing why link → HearsOutside pdu link receipt
  grants : (opening : Opening) → is_client link.identity.role ≡ false → pdu.body ≡ ConnectionRequest opening → state_at link.clock link ≡ state.Down → 1 ≤ link.clock
      → receipt ≡ accepting (granting pdu opening link) → HearsOutside pdu link receipt
