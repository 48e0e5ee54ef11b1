-- What a call makes of an end that is in a connection, as far as *caught up* goes.
use Rattle.std.specs.Prelude.{◌≡◌, ◌-◌, true, false, Result, Ok}
use Rattle.rasta_core_spec.specs.Receipt.{age, ahead}
use Rattle.rasta_core_spec.specs.Sequence.{wire}
use Rattle.rasta_core_spec.specs.State.{LinkState, is_asking, is_open}
use Rattle.rasta_core_spec.specs.body.Body.{Body}
use Rattle.rasta_core_spec.specs.body.Body.TheVariants.{RetransmissionRequest, Heartbeat, Data}
use Rattle.rasta_core_spec.specs.identity.Identity.{Identity}
use Rattle.rasta_core_spec.specs.pdu.Pdu.{Pdu}
use Rattle.rasta_core_spec.specs.pdu_fault.PduFault.{PduFault}
use Rattle.rasta_core_spec.specs.phase.Phase.TheVariants as phase
use Rattle.caught_up_laws.specs.Observer.{is_recovering}

-- a PDU that an end takes in turn, and is up after it
abbrev pub IsPlain : Body → Type 0
IsPlain RetransmissionRequest = Unit {0}
IsPlain Heartbeat = Unit {0}
IsPlain (Data items) = Unit {0}
IsPlain body = ⊥

-- a PDU names an end and its partner
pub record IsMeant (identity : Identity) (pdu : Pdu) : Type 0 where
  pub receiver : pdu.receiver ≡ identity.own
  pub sender : pdu.sender ≡ identity.partner

-- The link takes this PDU in turn, and is up then.
pub record TakesInTurn (link : LinkState) (found : Result Pdu PduFault) (after : LinkState) : Type 0 where
  pub pdu : Pdu
  pub read : found ≡ Ok pdu
  pub meant : IsMeant link.identity pdu
  pub heard : is_asking link ≡ false
  pub is_up : after.phase ≡ phase.Up
  pub plain : IsPlain pdu.body
  pub next : ahead pdu link ≡ 0
  pub expected : after.expected ≡ wire link.expected 1
  pub returned : after.own_stamp ≡ link.clock - age pdu link

pub data Change (link : LinkState) (found : Result Pdu PduFault) (after : LinkState) : Type 0 where
  -- as far as that goes, nothing happens
  rests : after.phase ≡ link.phase → after.own_stamp ≡ link.own_stamp → Change link found after
  -- it misses a PDU, or is being answered
  recovers : is_recovering after.phase ≡ true → Change link found after
  shuts : is_open after.phase ≡ false → Change link found after
  turns : TakesInTurn link found after → Change link found after
  -- a client takes the response
  joins : link.phase ≡ phase.Start → after.phase ≡ phase.Up → after.own_stamp ≡ link.own_stamp → Change link found after
