-- What C sees of a telegram: the numbers before its payload, and how long its names are. The payload are the bytes from the
-- 43rd on.
use Rattle.std.specs.Prelude.{◌≡◌, ℕ, List, [], ◌∷◌, ◌++◌, length}
use Rattle.std.specs.Int.{w16, to_le_bytes}
use Rattle.sci_telegram.specs.declared.fault.SciFault.{SciFault}
use Rattle.sci_telegram.specs.declared.fault.SciFault.TheVariants as faults
use Rattle.sci_telegram.specs.declared.telegram.Telegram.{Telegram}
use Rattle.sci_telegram.specs.Messages.{payload, protocol_byte, protocol_of, type_number}
use Rattle.sci_telegram.specs.Names.{name_field}
use Rattle.sci_telegram.specs.TelegramRead.{protocol_field, type_field}
use Rattle.codec.specs.declared.telegram.TelegramFields.{TelegramFields}

-- the number of a fault, in the order of the tests
abbrev pub fault_number : SciFault → ℕ
fault_number faults.Short = 1
fault_number faults.Protocol = 2
fault_number faults.BadType = 3
fault_number faults.Length = 4
fault_number faults.Name = 5
fault_number faults.Value = 6

-- the fields of a telegram in these bytes
abbrev pub fields_of : Telegram → List ℕ → TelegramFields
fields_of telegram bytes = record {
  kind = type_field bytes;
  protocol = protocol_field bytes;
  sender_length = length telegram.sender;
  receiver_length = length telegram.receiver;
}

-- these are the parts of a telegram
pub record IsWrittenSo (telegram : Telegram) (protocol kind : ℕ) (sender receiver given : List ℕ) : Type 0 where
  pub protocol_is : protocol ≡ protocol_byte (protocol_of telegram.message)
  pub kind_is : kind ≡ type_number telegram.message
  pub sender_is : sender ≡ telegram.sender
  pub receiver_is : receiver ≡ telegram.receiver
  pub payload_is : given ≡ payload telegram.message

-- protocol, type and names, and after them the payload
unfoldable pub spelled : ℕ → ℕ → List ℕ → List ℕ → List ℕ → List ℕ
spelled protocol kind sender receiver payload =
    (protocol ∷ []) ++ to_le_bytes w16 kind ++ name_field sender ++ name_field receiver ++ payload
