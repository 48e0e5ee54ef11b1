-- Reading a telegram from bytes, with the first fault in the order of the tests.
use Rattle.std.specs.Prelude.{ℕ, not, ◌&&◌, ◌==◌, nat_lt, if◌then◌else◌, List, [], ◌∷◌, length, take, drop, replicate, slice_index, Option, Some, None, Result, Ok, Err}
use Rattle.std.specs.Int.{w16, from_le_bytes}
use Rattle.std.specs.Option.{ok_or, option_map}
use Rattle.std.specs.Str.{bytes_eq}
use Rattle.sci_telegram.specs.declared.fault.SciFault.{SciFault}
use Rattle.sci_telegram.specs.declared.fault.SciFault.TheVariants as faults
use Rattle.sci_telegram.specs.declared.kind.Kind.{Kind}
use Rattle.sci_telegram.specs.declared.kind.Kind.TheVariants as kinds
use Rattle.sci_telegram.specs.declared.message.Protocol.{Protocol}
use Rattle.sci_telegram.specs.declared.message.Protocol.TheVariants as protocols
use Rattle.sci_telegram.specs.declared.message.Agreement.{Agreement}
use Rattle.sci_telegram.specs.declared.message.Agreement.TheVariants.{NoMatch, Match}
use Rattle.sci_telegram.specs.declared.message.Side.{Side}
use Rattle.sci_telegram.specs.declared.message.Side.TheVariants as sides
use Rattle.sci_telegram.specs.declared.message.Position.{Position}
use Rattle.sci_telegram.specs.declared.message.Position.TheVariants as positions
use Rattle.sci_telegram.specs.declared.message.Aspect.{Aspect}
use Rattle.sci_telegram.specs.declared.message.Aspect.TheVariants.{Stop, Proceed, Slow}
use Rattle.sci_telegram.specs.declared.message.Occupancy.{Occupancy}
use Rattle.sci_telegram.specs.declared.message.Occupancy.TheVariants.{Clear, Occupied}
use Rattle.sci_telegram.specs.declared.message.Initialisation.TheVariants.{InitialisationRequest, StartInitialisation, InitialisationCompleted, VersionCheck, VersionAnswer}
use Rattle.sci_telegram.specs.declared.message.PointMessage.TheVariants.{MovePoint, PointPosition, Timeout}
use Rattle.sci_telegram.specs.declared.message.SignalMessage.TheVariants.{IndicateAspect, IndicatedAspect}
use Rattle.sci_telegram.specs.declared.message.DetectionMessage.TheVariants.{OccupancyStatus}
use Rattle.sci_telegram.specs.declared.message.Message.{Message}
use Rattle.sci_telegram.specs.declared.message.Message.TheVariants.{Initialisation, Point, Signal, Detection}
use Rattle.sci_telegram.specs.declared.telegram.Telegram.{Telegram}
use Rattle.sci_telegram.specs.Names.{is_name, name_field, name_in}

-- a step, and then the next with what it gave
infixl 10 ◌>>=◌
abbrev pub ◌>>=◌ : {A B : Type 0} → Result A SciFault → (A → Result B SciFault) → Result B SciFault
(Ok x) >>= f = f x
(Err e) >>= f = Err e

-- the fields of a telegram
abbrev pub protocol_field : List ℕ → ℕ
protocol_field bytes = slice_index bytes 0

abbrev pub type_field : List ℕ → ℕ
type_field bytes = from_le_bytes w16 (slice_index bytes 1 ∷ slice_index bytes 2 ∷ [])

abbrev pub sender_field : List ℕ → List ℕ
sender_field bytes = take 20 (drop 3 bytes)

abbrev pub receiver_field : List ℕ → List ℕ
receiver_field bytes = take 20 (drop 23 bytes)

abbrev pub payload_field : List ℕ → List ℕ
payload_field bytes = drop 43 bytes

-- what the bytes of the table stand for
abbrev pub protocol_at : ℕ → Option Protocol
protocol_at byte =
    if byte == 0x20 then Some protocols.TrainDetection else
    if byte == 0x30 then Some protocols.LightSignal else
    if byte == 0x40 then Some protocols.Point else None

abbrev pub agreement_at : ℕ → Option Agreement
agreement_at byte = if byte == 1 then Some NoMatch else if byte == 2 then Some Match else None

abbrev pub side_at : ℕ → Option Side
side_at byte = if byte == 1 then Some sides.Right else if byte == 2 then Some sides.Left else None

abbrev pub position_at : ℕ → Option Position
position_at byte =
    if byte == 1 then Some positions.Right else
    if byte == 2 then Some positions.Left else
    if byte == 3 then Some positions.NoEndPosition else None

abbrev pub aspect_at : ℕ → Option Aspect
aspect_at byte = if byte == 0x01 then Some Stop else if byte == 0x04 then Some Proceed else if byte == 0x06 then Some Slow else None

abbrev pub occupancy_at : ℕ → Option Occupancy
occupancy_at byte = if byte == 1 then Some Clear else if byte == 2 then Some Occupied else None

-- the row of the table of telegrams: first what one protocol alone has, then what all have
abbrev pub own_kind_at : Protocol → ℕ → Option Kind
own_kind_at protocols.Point number =
    if number == 0x0001 then Some kinds.MovePoint else
    if number == 0x000B then Some kinds.PointPosition else
    if number == 0x000C then Some kinds.Timeout else None
own_kind_at protocols.LightSignal number =
    if number == 0x0001 then Some kinds.IndicateAspect else
    if number == 0x0003 then Some kinds.IndicatedAspect else None
own_kind_at protocols.TrainDetection number =
    if number == 0x0007 then Some kinds.OccupancyStatus else None

unfoldable pub kind_at : Protocol → ℕ → Option Kind
kind_at protocol number =
    if number == 0x0021 then Some kinds.InitialisationRequest else
    if number == 0x0022 then Some kinds.StartInitialisation else
    if number == 0x0023 then Some kinds.InitialisationCompleted else
    if number == 0x0024 then Some kinds.VersionCheck else
    if number == 0x0025 then Some kinds.VersionAnswer else
    own_kind_at protocol number

-- how many bytes of payload the telegrams of a row have
abbrev pub payload_length : Kind → ℕ
payload_length kinds.InitialisationRequest = 0
payload_length kinds.StartInitialisation = 0
payload_length kinds.InitialisationCompleted = 0
payload_length kinds.VersionCheck = 1
payload_length kinds.VersionAnswer = 2
payload_length kinds.MovePoint = 1
payload_length kinds.PointPosition = 1
payload_length kinds.Timeout = 0
payload_length kinds.IndicateAspect = 18
payload_length kinds.IndicatedAspect = 18
payload_length kinds.OccupancyStatus = 1

-- the name that a field of 20 bytes spells: what stands before the first `_`, if only `_` follow
unfoldable pub name_spelled : List ℕ → Option (List ℕ)
name_spelled field = if is_name (name_in field) && bytes_eq (name_field (name_in field)) field then Some (name_in field) else None

-- an aspect, if 17 bytes 0xFF follow
unfoldable pub aspect_in : List ℕ → Option Aspect
aspect_in payload = if bytes_eq (drop 1 payload) (replicate 17 0xFF) then aspect_at (slice_index payload 0) else None

-- what the telegrams of a row carry, in a payload of their length
unfoldable pub message_in : Protocol → Kind → List ℕ → Option Message
message_in protocol kinds.InitialisationRequest payload = Some (Initialisation protocol InitialisationRequest)
message_in protocol kinds.StartInitialisation payload = Some (Initialisation protocol StartInitialisation)
message_in protocol kinds.InitialisationCompleted payload = Some (Initialisation protocol InitialisationCompleted)
message_in protocol kinds.VersionCheck payload = Some (Initialisation protocol (VersionCheck (slice_index payload 0)))
message_in protocol kinds.VersionAnswer payload = option_map (λ agreement. Initialisation protocol (VersionAnswer agreement (slice_index payload 1))) (agreement_at (slice_index payload 0))
message_in protocol kinds.MovePoint payload = option_map (λ side. Point (MovePoint side)) (side_at (slice_index payload 0))
message_in protocol kinds.PointPosition payload = option_map (λ position. Point (PointPosition position)) (position_at (slice_index payload 0))
message_in protocol kinds.Timeout payload = Some (Point Timeout)
message_in protocol kinds.IndicateAspect payload = option_map (λ aspect. Signal (IndicateAspect aspect)) (aspect_in payload)
message_in protocol kinds.IndicatedAspect payload = option_map (λ aspect. Signal (IndicatedAspect aspect)) (aspect_in payload)
message_in protocol kinds.OccupancyStatus payload = option_map (λ occupancy. Detection (OccupancyStatus occupancy)) (occupancy_at (slice_index payload 0))

-- the telegram of a protocol and row, from its two name fields and its payload
unfoldable pub telegram_in : Protocol → Kind → List ℕ → List ℕ → List ℕ → Result Telegram SciFault
telegram_in protocol kind sender_field receiver_field payload_field = do
  sender ← ok_or (name_spelled sender_field) faults.Name
  receiver ← ok_or (name_spelled receiver_field) faults.Name
  message ← ok_or (message_in protocol kind payload_field) faults.Value
  Ok (record { sender = sender; receiver = receiver; message = message })

-- the telegram that bytes spell, or the first fault
unfoldable pub reading : List ℕ → Result Telegram SciFault
reading bytes =
    if nat_lt (length bytes) 43 then Err faults.Short else do
      protocol ← ok_or (protocol_at (protocol_field bytes)) faults.Protocol
      kind ← ok_or (kind_at protocol (type_field bytes)) faults.BadType
      if not (length (payload_field bytes) == payload_length kind) then Err faults.Length else
          telegram_in protocol kind (sender_field bytes) (receiver_field bytes) (payload_field bytes)
