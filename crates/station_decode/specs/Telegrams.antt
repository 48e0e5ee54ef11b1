-- The words of a telegram, parted by single spaces. Those of its names stand there only where they aren't the words by
-- which its PDU calls its sender and its receiver.
use Rattle.std.specs.Prelude.{ℕ, List, [], ◌∷◌, ◌++◌, codes, if◌then◌else◌, Result, Ok, Err}
use Rattle.std.specs.Fmt.{decimal}
use Rattle.std.specs.List.{join_with_byte}
use Rattle.std.specs.Str.{bytes_eq}
use Rattle.hex.specs.Hex.{encode_lower}
use Rattle.ixl_spec.specs.sci_telegram.declared.fault.SciFault.{SciFault}
use Rattle.ixl_spec.specs.sci_telegram.declared.message.Initialisation.{Initialisation}
use Rattle.ixl_spec.specs.sci_telegram.declared.message.Initialisation.TheVariants.{InitialisationRequest, StartInitialisation, InitialisationCompleted, VersionCheck, VersionAnswer}
use Rattle.ixl_spec.specs.sci_telegram.declared.message.PointMessage.TheVariants.{MovePoint, PointPosition, Timeout}
use Rattle.ixl_spec.specs.sci_telegram.declared.message.SignalMessage.TheVariants.{IndicateAspect, IndicatedAspect}
use Rattle.ixl_spec.specs.sci_telegram.declared.message.DetectionMessage.TheVariants.{OccupancyStatus}
use Rattle.ixl_spec.specs.sci_telegram.declared.message.Message.{Message}
use Rattle.ixl_spec.specs.sci_telegram.declared.message.Message.TheVariants as says
use Rattle.ixl_spec.specs.sci_telegram.declared.telegram.Telegram.{Telegram}
use Rattle.ixl_spec.specs.sci_telegram.TelegramRead.{reading}
use Rattle.ixl_spec.specs.sci_telegram.Words.{aspect_word, occupancy_word, position_word, side_word}
use Rattle.station_decode.specs.Words.{protocol_word, agreement_word, telegram_fault_words}

-- which step of an initialisation a telegram is
abbrev pub step_words : Initialisation → List (List ℕ)
step_words InitialisationRequest = codes "initialisation" ∷ codes "request" ∷ []
step_words StartInitialisation = codes "start" ∷ codes "initialisation" ∷ []
step_words InitialisationCompleted = codes "initialisation" ∷ codes "completed" ∷ []
step_words (VersionCheck version) = codes "version" ∷ codes "check" ∷ decimal version ∷ []
step_words (VersionAnswer agreement version) = codes "version" ∷ codes "answer" ∷ agreement_word agreement ∷ decimal version ∷ []

-- What a telegram says. Of the telegrams that every protocol has, the words begin with the protocol.
abbrev pub message_words : Message → List (List ℕ)
message_words (says.Initialisation protocol step) = protocol_word protocol ∷ step_words step
message_words (says.Point (MovePoint side)) = codes "move" ∷ codes "point" ∷ side_word side ∷ []
message_words (says.Point (PointPosition position)) = codes "point" ∷ codes "position" ∷ position_word position ∷ []
message_words (says.Point Timeout) = codes "point" ∷ codes "timeout" ∷ []
message_words (says.Signal (IndicateAspect aspect)) = codes "indicate" ∷ codes "aspect" ∷ aspect_word aspect ∷ []
message_words (says.Signal (IndicatedAspect aspect)) = codes "indicated" ∷ codes "aspect" ∷ aspect_word aspect ∷ []
message_words (says.Detection (OccupancyStatus occupancy)) = codes "occupancy" ∷ codes "status" ∷ occupancy_word occupancy ∷ []

-- A name of a telegram, after a word for it, where the PDU calls that end otherwise.
abbrev pub name_words : List ℕ → List ℕ → List ℕ → List (List ℕ)
name_words word called name = if bytes_eq name called then [] else word ∷ name ∷ []

-- the words of a telegram in a PDU that calls its sender and its receiver so
abbrev pub telegram_words : List ℕ → List ℕ → Telegram → List (List ℕ)
telegram_words sender receiver telegram =
    message_words telegram.message ++ (name_words (codes "from") sender telegram.sender ++ name_words (codes "to") receiver telegram.receiver)

abbrev pub telegram_text : List ℕ → List ℕ → Telegram → List ℕ
telegram_text sender receiver telegram = join_with_byte 32 (telegram_words sender receiver telegram)

-- ---- items

-- an item that is no telegram: its fault and its bytes
abbrev pub fault_text : SciFault → List ℕ → List ℕ
fault_text fault item = codes "no telegram: fault " ++ (telegram_fault_words fault ++ (codes " " ++ encode_lower item))

-- what was read of an item
abbrev pub item_read_text : List ℕ → List ℕ → List ℕ → Result Telegram SciFault → List ℕ
item_read_text sender receiver item (Ok telegram) = telegram_text sender receiver telegram
item_read_text sender receiver item (Err fault) = fault_text fault item

abbrev pub item_text : List ℕ → List ℕ → List ℕ → List ℕ
item_text sender receiver item = item_read_text sender receiver item (reading item)
