-- What the words of a telegram say, read back.
use Rattle.std.specs.Prelude.{ℕ, ◌&&◌, nat_lt, if◌then◌else◌, Bool, List, [], ◌∷◌, codes, Option, Some, None, Result, Ok, Err, option_and_then}
use Rattle.std.specs.Option.{option_map}
use Rattle.std.specs.Str.{bytes_eq}
use Rattle.replay_words.specs.Cut.{words}
use Rattle.replay_words.specs.Read.{decimal}
use Rattle.replay_words.specs.declared.fault.Fault.{Fault}
use Rattle.ixl_spec.specs.sci_telegram.declared.message.Protocol.{Protocol}
use Rattle.ixl_spec.specs.sci_telegram.declared.message.Protocol.TheVariants as protocols
use Rattle.ixl_spec.specs.sci_telegram.declared.message.Agreement.{Agreement}
use Rattle.ixl_spec.specs.sci_telegram.declared.message.Agreement.TheVariants.{NoMatch, Match}
use Rattle.ixl_spec.specs.sci_telegram.Words.{aspect_of_word, occupancy_of_word, position_of_word, side_of_word}
use Rattle.ixl_spec.specs.sci_telegram.declared.message.Initialisation.TheVariants.{InitialisationRequest, StartInitialisation, InitialisationCompleted, VersionCheck, VersionAnswer}
use Rattle.ixl_spec.specs.sci_telegram.declared.message.PointMessage.TheVariants.{MovePoint, PointPosition, Timeout}
use Rattle.ixl_spec.specs.sci_telegram.declared.message.SignalMessage.TheVariants.{IndicateAspect, IndicatedAspect}
use Rattle.ixl_spec.specs.sci_telegram.declared.message.DetectionMessage.TheVariants.{OccupancyStatus}
use Rattle.ixl_spec.specs.sci_telegram.declared.message.Message.{Message}
use Rattle.ixl_spec.specs.sci_telegram.declared.message.Message.TheVariants.{Initialisation, Point, Signal, Detection}
use Rattle.ixl_spec.specs.sci_telegram.declared.telegram.Telegram.{Telegram}

-- ---- one word

abbrev pub protocol_said : List ℕ → Option Protocol
protocol_said word =
    if bytes_eq word (codes "SCI-TDS") then Some protocols.TrainDetection
    else if bytes_eq word (codes "SCI-LS") then Some protocols.LightSignal
    else if bytes_eq word (codes "SCI-P") then Some protocols.Point
    else None

abbrev pub agreement_said : List ℕ → Option Agreement
agreement_said word =
    if bytes_eq word (codes "mismatch") then Some NoMatch
    else if bytes_eq word (codes "match") then Some Match
    else None

-- a version is a number of one byte
abbrev pub byte_in : Result ℕ Fault → Option ℕ
byte_in (Ok number) = if nat_lt number 256 then Some number else None
byte_in (Err fault) = None

abbrev pub version_said : List ℕ → Option ℕ
version_said word = byte_in (decimal word)

-- ---- a message, and the words after it

abbrev pub Said : Type 0
Said = Option (Message × List (List ℕ))

-- a message whose last word tells a value
abbrev pub with_value : {A : Type 0} → (A → Message) → (List ℕ → Option A) → List (List ℕ) → Said
with_value message said [] = None
with_value message said (word ∷ behind) = option_map (λ value. (message value, behind)) (said word)

-- both of two words are these
abbrev pub are : List ℕ → List ℕ → List ℕ → List ℕ → Bool
are one other first second = bytes_eq first one && bytes_eq second other

-- a version answer: whether the versions match, and the version
abbrev pub answer_said : Protocol → List (List ℕ) → Said
answer_said protocol [] = None
answer_said protocol (word ∷ behind) =
    option_and_then (λ agreement. with_value (λ version. Initialisation protocol (VersionAnswer agreement version)) version_said behind) (agreement_said word)

-- what every protocol has
abbrev pub initialisation_said : Protocol → List (List ℕ) → Said
initialisation_said protocol (first ∷ second ∷ behind) =
    if are (codes "initialisation") (codes "request") first second then Some (Initialisation protocol InitialisationRequest, behind)
    else if are (codes "start") (codes "initialisation") first second then Some (Initialisation protocol StartInitialisation, behind)
    else if are (codes "initialisation") (codes "completed") first second then Some (Initialisation protocol InitialisationCompleted, behind)
    else if are (codes "version") (codes "check") first second then with_value (λ version. Initialisation protocol (VersionCheck version)) version_said behind
    else if are (codes "version") (codes "answer") first second then answer_said protocol behind
    else None
initialisation_said protocol _ = None

-- what one protocol alone has
abbrev pub own_said : List (List ℕ) → Said
own_said (first ∷ second ∷ behind) =
    if are (codes "move") (codes "point") first second then with_value (λ side. Point (MovePoint side)) side_of_word behind
    else if are (codes "point") (codes "position") first second then with_value (λ position. Point (PointPosition position)) position_of_word behind
    else if are (codes "point") (codes "timeout") first second then Some (Point Timeout, behind)
    else if are (codes "indicate") (codes "aspect") first second then with_value (λ aspect. Signal (IndicateAspect aspect)) aspect_of_word behind
    else if are (codes "indicated") (codes "aspect") first second then with_value (λ aspect. Signal (IndicatedAspect aspect)) aspect_of_word behind
    else if are (codes "occupancy") (codes "status") first second then with_value (λ occupancy. Detection (OccupancyStatus occupancy)) occupancy_of_word behind
    else None
own_said _ = None

-- the words after a protocol, where the first word names one
abbrev pub under : Option Protocol → List (List ℕ) → List (List ℕ) → Said
under (Some protocol) behind words = initialisation_said protocol behind
under None behind words = own_said words

abbrev pub message_said : List (List ℕ) → Said
message_said [] = None
message_said (first ∷ behind) = under (protocol_said first) behind (first ∷ behind)

-- ---- the names, and the whole telegram

-- A message, and the words for its names in a PDU that calls its sender and its receiver so. A name of which nothing is
-- said is the one by which the PDU calls that end.
abbrev pub names_said : List ℕ → List ℕ → Message → List (List ℕ) → Option Telegram
names_said sender receiver message [] = Some (record { sender = sender; receiver = receiver; message = message })
names_said sender receiver message (word ∷ name ∷ []) =
    if bytes_eq word (codes "from") then Some (record { sender = name; receiver = receiver; message = message })
    else if bytes_eq word (codes "to") then Some (record { sender = sender; receiver = name; message = message })
    else None
names_said sender receiver message (word ∷ name ∷ behind ∷ other ∷ []) =
    if are (codes "from") (codes "to") word behind then Some (record { sender = name; receiver = other; message = message }) else None
names_said sender receiver message _ = None

abbrev pub telegram_said : List ℕ → List ℕ → List ℕ → Option Telegram
telegram_said sender receiver text =
    option_and_then (λ said. names_said sender receiver said.0 said.1) (message_said (words text))
