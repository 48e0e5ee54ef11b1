-- What each fault says of the bytes: its own test is the first that fails.
use Rattle.std.specs.Prelude.{◌≡◌, ◌≢◌, ℕ, ◌<◌, ◌≤◌, List, length, drop}
use Rattle.std.specs.List.{flat_map}
use Rattle.rasta_pdu.specs.declared.fault.PduFault.{PduFault}
use Rattle.rasta_pdu.specs.declared.fault.PduFault.TheVariants as faults
use Rattle.rasta_pdu.specs.declared.key.Key.{Key}
use Rattle.rasta_pdu.specs.Items.{AreItems}
use Rattle.rasta_pdu.specs.Spelling.{item_bytes}
use Rattle.rasta_pdu.specs.SafetyCode.{IsIntact, code, before_code, last_8, length_field}
use Rattle.rasta_pdu.specs.PduRead.{u16_at}

-- The types whose payload always has the same length, and that length.
pub data HasFixedPayload : ℕ → ℕ → Type 0 where
  connection_request : HasFixedPayload 6200 14
  connection_response : HasFixedPayload 6201 14
  retransmission_request : HasFixedPayload 6212 0
  retransmission_response : HasFixedPayload 6213 0
  disconnection_request : HasFixedPayload 6216 4
  heartbeat : HasFixedPayload 6220 0

-- the types of PDUs with items
pub data HasItems : ℕ → Type 0 where
  data_type : HasItems 6240
  retransmitted_data : HasItems 6241

-- the type, and the payload, of intact bytes
abbrev pub type_field : List ℕ → ℕ
type_field bytes = u16_at 2 (before_code bytes)

abbrev pub payload_field : List ℕ → List ℕ
payload_field bytes = drop 28 (before_code bytes)

abbrev pub IsFault : Key → List ℕ → PduFault → Type 0
IsFault key bytes faults.TooShort = length bytes < 36
IsFault key bytes faults.Length = (36 ≤ length bytes) × (length_field bytes ≢ length bytes)
IsFault key bytes faults.Code = (36 ≤ length bytes) × (length_field bytes ≡ length bytes) × (last_8 bytes ≢ code key (before_code bytes))
IsFault key bytes faults.BadType = IsIntact key bytes × ((size : ℕ) → HasFixedPayload (type_field bytes) size → ⊥) × (HasItems (type_field bytes) → ⊥)
IsFault key bytes faults.Body = IsIntact key bytes × ((size : ℕ) × HasFixedPayload (type_field bytes) size × (length (payload_field bytes) ≢ size))
IsFault key bytes faults.Items = IsIntact key bytes × HasItems (type_field bytes) × ((items : List (List ℕ)) → AreItems items → payload_field bytes ≢ flat_map item_bytes items)
