-- What each fault says of the bytes: its own test is the first that fails.
use Rattle.std.specs.Prelude.{◌≡◌, ◌≢◌, ℕ, ◌<◌, ◌≤◌, List, length}
use Rattle.sci_telegram.specs.declared.fault.SciFault.{SciFault}
use Rattle.sci_telegram.specs.declared.fault.SciFault.TheVariants as faults
use Rattle.sci_telegram.specs.declared.message.Protocol.{Protocol}
use Rattle.sci_telegram.specs.declared.message.Message.{Message}
use Rattle.sci_telegram.specs.Names.{IsName, name_field}
use Rattle.sci_telegram.specs.Messages.{protocol_of, protocol_byte, type_number, payload}
use Rattle.sci_telegram.specs.TelegramRead.{protocol_field, type_field, sender_field, receiver_field, payload_field}

-- bytes begin with this protocol
abbrev pub HasProtocol : List ℕ → Protocol → Type 0
HasProtocol bytes protocol = protocol_field bytes ≡ protocol_byte protocol

-- bytes have the protocol and the type of this message
pub record HasType (bytes : List ℕ) (message : Message) : Type 0 where
  pub protocol : HasProtocol bytes (protocol_of message)
  pub type_number : type_field bytes ≡ type_number message

-- and a payload as long as that of this message
abbrev pub HasLength : List ℕ → Message → Type 0
HasLength bytes message = HasType bytes message × (length (payload_field bytes) ≡ length (payload message))

-- the name fields of bytes hold these names
pub record HasNames (bytes sender receiver : List ℕ) : Type 0 where
  pub sender_is_name : IsName sender
  pub receiver_is_name : IsName receiver
  pub sender_spelled : sender_field bytes ≡ name_field sender
  pub receiver_spelled : receiver_field bytes ≡ name_field receiver

abbrev pub IsFault : List ℕ → SciFault → Type 0
IsFault bytes faults.Short = length bytes < 43
IsFault bytes faults.Protocol = (43 ≤ length bytes) × ((protocol : Protocol) → HasProtocol bytes protocol → ⊥)
IsFault bytes faults.BadType =
    (43 ≤ length bytes) × ((protocol : Protocol) × HasProtocol bytes protocol)
    × ((message : Message) → HasType bytes message → ⊥)
IsFault bytes faults.Length =
    (43 ≤ length bytes) × ((message : Message) × HasType bytes message)
    × ((message : Message) → HasLength bytes message → ⊥)
IsFault bytes faults.Name =
    (43 ≤ length bytes) × ((message : Message) × HasLength bytes message)
    × ((sender receiver : List ℕ) → HasNames bytes sender receiver → ⊥)
IsFault bytes faults.Value =
    (43 ≤ length bytes) × ((message : Message) × HasLength bytes message)
    × ((sender : List ℕ) × (receiver : List ℕ) × HasNames bytes sender receiver)
    × ((message : Message) → HasType bytes message → payload_field bytes ≢ payload message)
