-- What an end has in one connection: the PDUs that it sent there, and what it gave and took.
use Rattle.std.specs.Prelude.{◌≡◌, ℕ, zero, suc, nat_le, Bool, List, [], ◌∷◌, length, map, if◌then◌else◌}
use Rattle.rasta_core_spec.specs.window.Unconfirmed.{Unconfirmed}
use Rattle.rasta_core_spec.specs.pdu.Pdu.{Pdu}

-- the PDU of this number, counted from 0
abbrev pub IsAt : ℕ → Pdu → List Pdu → Type 0
IsAt place pdu [] = ⊥
IsAt zero pdu (first ∷ others) = first ≡ pdu
IsAt (suc place) pdu (first ∷ others) = IsAt place pdu others

-- one of the PDUs of a flow
abbrev pub IsOf : Pdu → List Pdu → Type 0
IsOf pdu flow = (place : ℕ) × IsAt place pdu flow

pub record EndFlow : Type 0 where
  -- the sequence number of its first PDU
  pub first : ℕ
  -- all that it sent, oldest first
  pub flow : List Pdu
  -- how many items an end has taken that expects the PDU of a number
  pub passed : ℕ → ℕ
  -- which of the partner's PDUs it expected as it sent the one of a number
  pub expecting : ℕ → ℕ
  -- the items that it accepted, and those that it handed out
  pub given : List (List ℕ)
  pub taken : List (List ℕ)
  -- the items that it holds to be unconfirmed
  pub waiting : List Unconfirmed
  -- which of the partner's PDUs it expects
  pub reached : ℕ
  -- whether it takes PDUs in turn: an end that asked for a retransmission doesn't
  pub reading : Bool

-- how many PDUs it sent
abbrev pub sent : EndFlow → ℕ
sent part = length part.flow

-- how many of these items wait under a PDU of this number or a later one
abbrev pub later : ℕ → List Unconfirmed → ℕ
later number [] = 0
later number (first ∷ others) = if nat_le number first.tag then suc (later number others) else later number others

abbrev pub item : Unconfirmed → List ℕ
item held = held.item

abbrev pub items_of : List Unconfirmed → List (List ℕ)
items_of waiting = map item waiting
