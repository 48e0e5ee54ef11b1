-- Which values a PDU can have.
use Rattle.std.specs.Prelude.{◌≡◌, ℕ, ◌^◌, ◌<◌, List, length, slice_index}
use Rattle.rasta_pdu.specs.declared.body.Opening.{Opening}
use Rattle.rasta_pdu.specs.declared.body.Body.{Body}
use Rattle.rasta_pdu.specs.declared.body.Body.TheVariants.{ConnectionRequest, ConnectionResponse, RetransmissionRequest, RetransmissionResponse, DisconnectionRequest, Heartbeat, Data, RetransmittedData}
use Rattle.rasta_pdu.specs.declared.pdu.Pdu.{Pdu}
use Rattle.rasta_pdu.specs.Items.{AreItems}

-- each of the numbers is a byte
abbrev pub IsBytes : List ℕ → Type 0
IsBytes bytes = (place : ℕ) → slice_index bytes place < 256

-- four bytes of version, a window of 16 bits, eight reserved bytes
pub record IsOpening (opening : Opening) : Type 0 where
  pub version : length opening.version ≡ 4
  pub window : opening.window < 2 ^ 16
  pub reserved : length opening.reserved ≡ 8

abbrev pub IsBody : Body → Type 0
IsBody (ConnectionRequest opening) = IsOpening opening
IsBody (ConnectionResponse opening) = IsOpening opening
IsBody RetransmissionRequest = Unit {0}
IsBody RetransmissionResponse = Unit {0}
IsBody (DisconnectionRequest detail reason) = (detail < 2 ^ 16) × (reason < 2 ^ 16)
IsBody Heartbeat = Unit {0}
IsBody (Data items) = AreItems items
IsBody (RetransmittedData items) = AreItems items

-- each number fits its field
pub record IsPdu (pdu : Pdu) : Type 0 where
  pub receiver : pdu.receiver < 2 ^ 32
  pub sender : pdu.sender < 2 ^ 32
  pub sequence_number : pdu.sequence_number < 2 ^ 32
  pub confirmed_sequence_number : pdu.confirmed_sequence_number < 2 ^ 32
  pub time_stamp : pdu.time_stamp < 2 ^ 32
  pub confirmed_time_stamp : pdu.confirmed_time_stamp < 2 ^ 32
  pub body : IsBody pdu.body
