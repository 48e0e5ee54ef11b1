-- What holds at every moment between what one end gives in a connection and what the other takes.
use Rattle.std.specs.Prelude.{◌≡◌, ℕ, ◌+◌, ◌-◌, ◌^◌, ◌<◌, ◌≤◌, Bool, true, false, List, [], ◌∷◌, ◌++◌, length, take, ◌⊎◌}
use Rattle.rasta_core_spec.specs.Parameters.{window_size}
use Rattle.rasta_core_spec.specs.Sequence.{wire}
use Rattle.rasta_core_spec.specs.Establishment.{own_opening}
use Rattle.rasta_core_spec.specs.window.Unconfirmed.{Unconfirmed}
use Rattle.rasta_core.specs.EndFlow.{IsAt, EndFlow, sent, later, items_of}
use Rattle.rasta_core_spec.specs.pdu.Pdu.{Pdu}
use Rattle.rasta_core_spec.specs.body.Body.{Body}
use Rattle.rasta_core_spec.specs.body.Body.TheVariants.{ConnectionRequest, ConnectionResponse, RetransmissionRequest, RetransmissionResponse, DisconnectionRequest, Heartbeat, Data, RetransmittedData}

-- an end that expects the PDU of this number would miss nothing: what it has taken and what waits under this
-- PDU or a later one are all items given
abbrev pub IsLevel : EndFlow → ℕ → Type 0
IsLevel giver number = giver.passed number + later number giver.waiting ≡ length giver.given

-- one who takes the PDU of this number takes these items with it
abbrev pub Brings : EndFlow → ℕ → List (List ℕ) → Type 0
Brings giver number items =
    (giver.passed (number + 1) ≡ giver.passed number + length items)
    × (take (giver.passed (number + 1)) giver.given ≡ take (giver.passed number) giver.given ++ items)

-- an opening is the first PDU of its sender, and brings nothing
abbrev pub Opens : EndFlow → ℕ → Type 0
Opens giver number = (number ≡ 0) × (giver.passed 1 ≡ 0)

-- what the PDU of a number carries: items, nothing, or the promise to repeat some
abbrev pub Carries : EndFlow → ℕ → Body → Type 0
Carries giver number (ConnectionRequest opening) = Opens giver number × (opening ≡ own_opening)
Carries giver number (ConnectionResponse opening) = Opens giver number × (opening ≡ own_opening)
Carries giver number RetransmissionRequest = Brings giver number []
Carries giver number RetransmissionResponse = Unit {0}
Carries giver number (DisconnectionRequest detail reason) = Brings giver number []
Carries giver number Heartbeat = Brings giver number []
Carries giver number (Data items) = Brings giver number items
Carries giver number (RetransmittedData items) = Brings giver number items

abbrev pub IsRequest : Body → Type 0
IsRequest (ConnectionRequest opening) = Unit {0}
IsRequest body = ⊥

abbrev pub IsResponse : Body → Type 0
IsResponse (ConnectionResponse opening) = Unit {0}
IsResponse body = ⊥

abbrev pub IsClosing : Body → Type 0
IsClosing (DisconnectionRequest detail reason) = Unit {0}
IsClosing body = ⊥

-- a flow that a server began
abbrev pub BeginsByResponse : List Pdu → Type 0
BeginsByResponse flow = (pdu : Pdu) × IsAt 0 pdu flow × IsResponse pdu.body

-- a flow whose second PDU, if there is one, doesn't close
abbrev pub OpensOn : List Pdu → Type 0
OpensOn flow = (pdu : Pdu) → IsAt 1 pdu flow → IsClosing pdu.body → ⊥

-- a PDU of a client that has taken nothing: its request, and the closing right after it
abbrev pub IsUnanswered : List Pdu → ℕ → Body → Type 0
IsUnanswered flow place body = IsRequest body ⊎ ((place ≡ 1) × IsClosing body × (BeginsByResponse flow → ⊥))

-- What a PDU is to its sender: it has the next number, confirms all that the sender had taken then, carries what its
-- type says, and follows no closing.
pub record IsSent (giver : EndFlow) (taker_first : ℕ) (place : ℕ) (pdu : Pdu) : Type 0 where
  pub number : pdu.sequence_number ≡ wire giver.first place
  pub some_expected : 1 ≤ giver.expecting place
  pub expected : giver.expecting place ≤ giver.reached
  pub confirms : (pdu.confirmed_sequence_number ≡ wire taker_first (giver.expecting place - 1)) ⊎ IsUnanswered giver.flow place pdu.body
  pub follows : 2 ≤ place → OpensOn giver.flow
  pub carries : Carries giver place pdu.body

-- the tags rise, from this one on, and stay below that
abbrev pub Rises : ℕ → ℕ → List Unconfirmed → Type 0
Rises low high [] = Unit {0}
Rises low high (first ∷ others) = (low ≤ first.tag) × (first.tag < high) × Rises (first.tag + 1) high others

-- The items that wait are the last ones given, each under a PDU of its own.
pub record Waits (giver : EndFlow) : Type 0 where
  pub few : length giver.waiting ≤ window_size
  pub rises : Rises 0 (sent giver) giver.waiting
  pub last : (before : List (List ℕ)) × (giver.given ≡ before ++ items_of giver.waiting)

-- The place that the taker has reached is one of the flow, and the counts at each place are true.
pub record Counts (giver : EndFlow) (reached : ℕ) : Type 0 where
  pub fits : sent giver < 2 ^ 31
  pub some : 1 ≤ reached
  pub most : reached ≤ sent giver
  pub all : giver.passed (sent giver) ≡ length giver.given
  pub passed : (number : ℕ) → number ≤ sent giver → giver.passed number ≤ length giver.given

-- A retransmission response that is still to come: its taker waits for it, goes on from where it stands, and
-- misses nothing from there on; and it is the only one.
pub record IsAnswer (giver : EndFlow) (reached : ℕ) (reading : Bool) (place : ℕ) : Type 0 where
  pub waited_for : reading ≡ false
  pub from : giver.passed (place + 1) ≡ giver.passed reached
  pub level : (number : ℕ) → place < number → number ≤ sent giver → IsLevel giver number
  pub only : (number : ℕ) (pdu : Pdu) → IsAt number pdu giver.flow → pdu.body ≡ RetransmissionResponse → reached ≤ number → number ≡ place

-- A retransmission request that is still to come: its sender waits and has stood still since, no answer is
-- under way, and it is the only one.
pub record IsAsking (giver taker : EndFlow) (place : ℕ) : Type 0 where
  pub waiting : taker.reading ≡ false
  pub still : taker.expecting place ≡ taker.reached
  pub unanswered : (number : ℕ) (pdu : Pdu) → IsAt number pdu giver.flow → pdu.body ≡ RetransmissionResponse → number < taker.reached
  pub only : (number : ℕ) (pdu : Pdu) → IsAt number pdu taker.flow → pdu.body ≡ RetransmissionRequest → giver.reached ≤ number → number ≡ place

-- One direction of a connection.
pub record Way (giver taker : EndFlow) : Type 0 where
  pub counts : Counts giver taker.reached
  -- each PDU of the flow is as its sender made it
  pub each : (place : ℕ) (pdu : Pdu) → IsAt place pdu giver.flow → IsSent giver taker.first place pdu
  pub waits : Waits giver
  -- what was taken are the first items given
  pub taken : taker.taken ≡ take (giver.passed taker.reached) giver.given
  -- every item given was taken before the place that the taker has reached, or waits from there on
  pub level : IsLevel giver taker.reached
  -- and so it is at each later place, while the taker reads
  pub ahead : taker.reading ≡ true → (number : ℕ) → taker.reached ≤ number → number ≤ sent giver → IsLevel giver number
  -- each retransmission response that is still to come
  pub answers : (place : ℕ) (pdu : Pdu) → IsAt place pdu giver.flow → pdu.body ≡ RetransmissionResponse → taker.reached ≤ place
      → IsAnswer giver taker.reached taker.reading place
  -- each retransmission request that is still to come
  pub askings : (place : ℕ) (pdu : Pdu) → IsAt place pdu taker.flow → pdu.body ≡ RetransmissionRequest → giver.reached ≤ place
      → IsAsking giver taker place

-- Both directions of a connection, which hold together.
pub record InOrder (one other : EndFlow) : Type 0 where
  pub there : Way one other
  pub back : Way other one
