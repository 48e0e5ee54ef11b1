-- The link of an end, and the part of that end in a connection.
use Rattle.std.specs.Prelude.{◌≡◌, ℕ, ◌^◌, ◌<◌, ◌≤◌, Bool, true, false, List, [], ◌∷◌, ◌++◌, length, ◌⊎◌, Result, is_ok, if◌then◌else◌}
use Rattle.rasta_core_spec.specs.Parameters.{most_sent, stops_at_greatest}
use Rattle.rasta_core_spec.specs.State.{LinkState, is_open, is_up, is_asking}
use Rattle.rasta_core_spec.specs.Clock.{open_state}
use Rattle.rasta_core_spec.specs.PdusHandedOut.{Step}
use Rattle.rasta_core_spec.specs.Receipt.{Receipt}
use Rattle.rasta_core_spec.specs.fault.SendFault.{SendFault}
use Rattle.rasta_core_spec.specs.phase.State.{State}
use Rattle.rasta_core_spec.specs.phase.State.TheVariants as state
use Rattle.rasta_core.specs.EndFlow.{EndFlow, sent}
use Rattle.rasta_core.specs.Order.{BeginsByResponse, OpensOn, InOrder}
use Rattle.rasta_core_spec.specs.pdu.Pdu.{Pdu}

-- an end takes PDUs in turn, but where it has asked for a retransmission
abbrev pub reads : State → Bool
reads state.RetransmissionRequested = false
reads _ = true

-- What a link knows of its part, also once it has left the connection. Its counts stop at the greatest number.
pub record Keeps (link : LinkState) (part : EndFlow) : Type 0 where
  pub given : link.given ≡ stops_at_greatest (length part.given)
  pub taken : link.taken ≡ stops_at_greatest (length part.taken)
  pub waiting : link.waiting ≡ part.waiting

-- A link that was made anew, and has nothing of the connection.
pub record IsNew (link : LinkState) : Type 0 where
  pub given : link.given ≡ 0
  pub taken : link.taken ≡ 0

-- A link in the connection.
pub record IsInside (link : LinkState) (part : EndFlow) : Type 0 where
  pub keeps : Keeps link part
  pub connected : is_open link.phase ≡ true
  pub own_first : link.own_first ≡ part.first
  pub counted : link.sent ≡ sent part
  pub room : sent part ≤ most_sent
  -- it hasn't closed, and has sent but its request while it asks
  pub unsaid : OpensOn part.flow
  pub alone : is_asking link ≡ true → sent part ≡ 1
  pub reading : part.reading ≡ reads (open_state link.phase)

-- How far the two have come, of whom this one has taken the first PDU of the other: a server that isn't up has sent
-- its response alone; where an end is up, the other is a server, or has sent more than its request and a closing.
pub record HaveCome (up : Bool) (part other : EndFlow) : Type 0 where
  pub starting : up ≡ false → (sent part ≡ 1) × (part.reached ≡ 1)
  pub heard : up ≡ true → BeginsByResponse other.flow ⊎ ((2 ≤ sent other) × OpensOn other.flow)

-- A link that has taken the first PDU of its partner.
pub record HasJoined (link : LinkState) (part other : EndFlow) : Type 0 where
  pub inside : IsInside link part
  pub joined : is_asking link ≡ false
  pub partner_first : link.partner_first ≡ other.first
  pub expected : link.expected ≡ part.reached
  pub come : HaveCome (is_up link.phase) part other

-- A link that has asked, and that may still join by the response; its part has taken this response already.
pub record IsStillAsking (link : LinkState) (part other : EndFlow) : Type 0 where
  pub inside : IsInside link part
  pub asking : is_asking link ≡ true
  pub client : BeginsByResponse part.flow → ⊥
  pub reached : part.reached ≡ 1
  pub partner_first : other.first < 2 ^ 32

-- how a link is in a connection, or was until it left
pub data Plays (link : LinkState) (part other : EndFlow) : Type 0 where
  joined : HasJoined link part other → Plays link part other
  asking : IsStillAsking link part other → Plays link part other
  left : is_open link.phase ≡ false → Keeps link part ⊎ IsNew link → Plays link part other

-- The connection goes on in order: the end has sent these PDUs more, and given and taken these items.
pub record GoesOn (old other : EndFlow) (link : LinkState) (pdus : List Pdu) (accepted handed : List (List ℕ)) : Type 0 where
  pub part : EndFlow
  pub first : part.first ≡ old.first
  pub flow : part.flow ≡ old.flow ++ pdus
  pub given : part.given ≡ old.given ++ accepted
  pub taken : part.taken ≡ old.taken ++ handed
  pub order : InOrder part other
  pub plays : Plays link part other

-- what a step of an end does keeps the order, and so does what becomes of a datagram
abbrev pub StepGoesOn : EndFlow → EndFlow → Step → List (List ℕ) → Type 0
StepGoesOn own other step accepted = GoesOn own other step.link step.pdus accepted []

abbrev pub ReceiptGoesOn : EndFlow → EndFlow → Receipt → Type 0
ReceiptGoesOn own other receipt = GoesOn own other receipt.link receipt.pdus [] receipt.items

-- the items that a call of `send` accepts
abbrev pub accepted : Result Unit SendFault → List ℕ → List (List ℕ)
accepted answer item = if is_ok answer then item ∷ [] else []
