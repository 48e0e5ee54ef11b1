-- What C sees of a PDU: the numbers before its payload. The payload are the bytes from the 28th on, but for the last 8.
use Rattle.std.specs.Prelude.{ℕ, ◌+◌, List, [], ◌∷◌, ◌++◌, length}
use Rattle.std.specs.Int.{w16, w32, to_le_bytes}
use Rattle.rasta_pdu.specs.declared.fault.PduFault.{PduFault}
use Rattle.rasta_pdu.specs.declared.fault.PduFault.TheVariants as faults
use Rattle.rasta_pdu.specs.declared.key.Key.{Key}
use Rattle.rasta_pdu.specs.declared.pdu.Pdu.{Pdu}
use Rattle.rasta_pdu.specs.SafetyCode.{code}
use Rattle.rasta_pdu.specs.Spelling.{payload, type_of}
use Rattle.codec.specs.declared.key.KeyRegisters.{KeyRegisters}
use Rattle.codec.specs.declared.pdu.PduFields.{PduFields}

-- the key of four registers
abbrev pub key_of : KeyRegisters → Key
key_of registers = record { 0 = registers.a ∷ registers.b ∷ registers.c ∷ registers.d ∷ [] }

-- the number of a fault, in the order of the tests
abbrev pub fault_number : PduFault → ℕ
fault_number faults.TooShort = 1
fault_number faults.Length = 2
fault_number faults.Code = 3
fault_number faults.BadType = 4
fault_number faults.Body = 5
fault_number faults.Items = 6

-- the fields of a PDU
abbrev pub fields_of : Pdu → PduFields
fields_of pdu = record {
  kind = type_of pdu.body;
  receiver = pdu.receiver;
  sender = pdu.sender;
  sequence_number = pdu.sequence_number;
  confirmed_sequence_number = pdu.confirmed_sequence_number;
  time_stamp = pdu.time_stamp;
  confirmed_time_stamp = pdu.confirmed_time_stamp;
}

-- its payload
abbrev pub payload_of : Pdu → List ℕ
payload_of pdu = payload pdu.body

-- the 28 bytes before a payload of so many bytes
unfoldable pub head : PduFields → ℕ → List ℕ
head fields payload_length =
    to_le_bytes w16 (payload_length + 36)
    ++ to_le_bytes w16 fields.kind
    ++ to_le_bytes w32 fields.receiver
    ++ to_le_bytes w32 fields.sender
    ++ to_le_bytes w32 fields.sequence_number
    ++ to_le_bytes w32 fields.confirmed_sequence_number
    ++ to_le_bytes w32 fields.time_stamp
    ++ to_le_bytes w32 fields.confirmed_time_stamp

-- fields and payload without the code
unfoldable pub text : PduFields → List ℕ → List ℕ
text fields payload = head fields (length payload) ++ payload

-- and with it
unfoldable pub spelled : Key → PduFields → List ℕ → List ℕ
spelled key fields payload = text fields payload ++ code key (text fields payload)
