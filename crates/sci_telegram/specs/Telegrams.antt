-- Which values a telegram can have, and its one spelling in bytes (this profile). The type number is
-- written low-order byte first.
use Rattle.std.specs.Prelude.{◌≡◌, ℕ, ◌<◌, List, [], ◌∷◌, ◌++◌}
use Rattle.std.specs.Int.{w16, to_le_bytes}
use Rattle.sci_telegram.specs.declared.message.Initialisation.TheVariants.{InitialisationRequest, StartInitialisation, InitialisationCompleted, VersionCheck, VersionAnswer}
use Rattle.sci_telegram.specs.declared.message.Message.{Message}
use Rattle.sci_telegram.specs.declared.message.Message.TheVariants.{Initialisation, Point, Signal, Detection}
use Rattle.sci_telegram.specs.declared.telegram.Telegram.{Telegram}
use Rattle.sci_telegram.specs.Names.{IsName, name_field}
use Rattle.sci_telegram.specs.Messages.{protocol_of, protocol_byte, type_number, payload}

-- every byte is a version
abbrev pub IsMessage : Message → Type 0
IsMessage (Initialisation protocol InitialisationRequest) = Unit {0}
IsMessage (Initialisation protocol StartInitialisation) = Unit {0}
IsMessage (Initialisation protocol InitialisationCompleted) = Unit {0}
IsMessage (Initialisation protocol (VersionCheck version)) = version < 256
IsMessage (Initialisation protocol (VersionAnswer agreement version)) = version < 256
IsMessage (Point message) = Unit {0}
IsMessage (Signal message) = Unit {0}
IsMessage (Detection message) = Unit {0}

pub record IsTelegram (telegram : Telegram) : Type 0 where
  pub sender : IsName telegram.sender
  pub receiver : IsName telegram.receiver
  pub message : IsMessage telegram.message

-- protocol, type, sender and receiver: 43 bytes, and behind them the payload
unfoldable pub writing : Telegram → List ℕ
writing telegram =
    (protocol_byte (protocol_of telegram.message) ∷ [])
    ++ to_le_bytes w16 (type_number telegram.message)
    ++ name_field telegram.sender
    ++ name_field telegram.receiver
    ++ payload telegram.message

-- these bytes are this telegram
abbrev pub Spells : Telegram → List ℕ → Type 0
Spells telegram bytes = IsTelegram telegram × (bytes ≡ writing telegram)
