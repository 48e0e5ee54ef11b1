-- What telegrams of a line say, their one spelling in bytes, and how they are read (this profile).
use Rattle.std.specs.Prelude.{ℕ, ◌<◌, ◌==◌, nat_lt, if◌then◌else◌, List, [], ◌∷◌, ◌++◌, length, drop, slice_index, Option, Some, None}
use Rattle.std.specs.Int.{w16, to_le_bytes, from_le_bytes}
use Rattle.std.specs.Option.{option_map}
use Rattle.std.specs.Str.{bytes_eq}
use Rattle.line_laws.specs.declared.words.Item.TheVariants.{Ask, Give, Query, Clear, NoToken}
use Rattle.sci_telegram.specs.Messages.{agreement_byte}
use Rattle.sci_telegram.specs.TelegramRead.{agreement_at}
use Rattle.sci_telegram.specs.Names.{name_field}
use Rattle.line_telegram.specs.declared.message.LineMessage.{LineMessage}
use Rattle.line_telegram.specs.declared.message.LineMessage.TheVariants.{VersionCheck, VersionAnswer, Line}

-- ---- the table

-- the type number
abbrev pub type_number : LineMessage → ℕ
type_number (Line Ask) = 0x0001
type_number (Line Give) = 0x0002
type_number (Line Query) = 0x0003
type_number (Line Clear) = 0x0004
type_number (Line NoToken) = 0x0005
type_number (VersionCheck version) = 0x0024
type_number (VersionAnswer agreement version) = 0x0025

-- the payload
abbrev pub payload : LineMessage → List ℕ
payload (Line item) = []
payload (VersionCheck version) = version ∷ []
payload (VersionAnswer agreement version) = agreement_byte agreement ∷ version ∷ []

-- every byte is a version
abbrev pub IsLineMessage : LineMessage → Type 0
IsLineMessage (Line item) = Unit {0}
IsLineMessage (VersionCheck version) = version < 256
IsLineMessage (VersionAnswer agreement version) = version < 256

-- ---- writing

-- the protocol of lines, which no other telegrams have
abbrev pub line_protocol : ℕ
line_protocol = 0x50

-- protocol, type, sender and receiver: 43 bytes, and then the payload
unfoldable pub writing : (sender receiver : List ℕ) → LineMessage → List ℕ
writing sender receiver message =
    (line_protocol ∷ []) ++ to_le_bytes w16 (type_number message) ++ name_field sender ++ name_field receiver ++ payload message

-- ---- reading

-- the message of a type number and a payload, if there is one of that type
abbrev pub message_of : (number : ℕ) → List ℕ → Option LineMessage
message_of number payload =
    if number == 0x0001 then Some (Line Ask) else
    if number == 0x0002 then Some (Line Give) else
    if number == 0x0003 then Some (Line Query) else
    if number == 0x0004 then Some (Line Clear) else
    if number == 0x0005 then Some (Line NoToken) else
    if number == 0x0024 then Some (VersionCheck (slice_index payload 0)) else
    if number == 0x0025 then option_map (λ agreement. VersionAnswer agreement (slice_index payload 1)) (agreement_at (slice_index payload 0)) else None

-- what bytes would say if they were a telegram
abbrev pub message_in : List ℕ → Option LineMessage
message_in bytes = message_of (from_le_bytes w16 (slice_index bytes 1 ∷ slice_index bytes 2 ∷ [])) (drop 43 bytes)

-- it is said where the bytes are its spelling
abbrev pub if_spelled : (sender receiver bytes : List ℕ) → Option LineMessage → Option LineMessage
if_spelled sender receiver bytes None = None
if_spelled sender receiver bytes (Some message) = if bytes_eq (writing sender receiver message) bytes then Some message else None

-- what this sender tells this receiver by these bytes
abbrev pub reading : (sender receiver bytes : List ℕ) → Option LineMessage
reading sender receiver bytes = if nat_lt (length bytes) 43 then None else if_spelled sender receiver bytes (message_in bytes)
