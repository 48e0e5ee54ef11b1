-- What telegrams say and how they say it: protocols, type numbers and payloads (this profile).
use Rattle.std.specs.Prelude.{ℕ, List, [], ◌∷◌, replicate}
use Rattle.sci_telegram.specs.declared.message.Protocol.{Protocol}
use Rattle.sci_telegram.specs.declared.message.Protocol.TheVariants as protocols
use Rattle.sci_telegram.specs.declared.message.Agreement.{Agreement}
use Rattle.sci_telegram.specs.declared.message.Agreement.TheVariants.{NoMatch, Match}
use Rattle.sci_telegram.specs.declared.message.Side.{Side}
use Rattle.sci_telegram.specs.declared.message.Side.TheVariants as sides
use Rattle.sci_telegram.specs.declared.message.Position.{Position}
use Rattle.sci_telegram.specs.declared.message.Position.TheVariants as positions
use Rattle.sci_telegram.specs.declared.message.Aspect.{Aspect}
use Rattle.sci_telegram.specs.declared.message.Aspect.TheVariants.{Stop, Proceed, Slow}
use Rattle.sci_telegram.specs.declared.message.Occupancy.{Occupancy}
use Rattle.sci_telegram.specs.declared.message.Occupancy.TheVariants.{Clear, Occupied}
use Rattle.sci_telegram.specs.declared.message.Initialisation.TheVariants.{InitialisationRequest, StartInitialisation, InitialisationCompleted, VersionCheck, VersionAnswer}
use Rattle.sci_telegram.specs.declared.message.PointMessage.TheVariants.{MovePoint, PointPosition, Timeout}
use Rattle.sci_telegram.specs.declared.message.SignalMessage.TheVariants.{IndicateAspect, IndicatedAspect}
use Rattle.sci_telegram.specs.declared.message.DetectionMessage.TheVariants.{OccupancyStatus}
use Rattle.sci_telegram.specs.declared.message.Message.{Message}
use Rattle.sci_telegram.specs.declared.message.Message.TheVariants.{Initialisation, Point, Signal, Detection}

-- the protocol of a message
abbrev pub protocol_of : Message → Protocol
protocol_of (Initialisation protocol message) = protocol
protocol_of (Point message) = protocols.Point
protocol_of (Signal message) = protocols.LightSignal
protocol_of (Detection message) = protocols.TrainDetection

-- the byte of a protocol
abbrev pub protocol_byte : Protocol → ℕ
protocol_byte protocols.TrainDetection = 0x20
protocol_byte protocols.LightSignal = 0x30
protocol_byte protocols.Point = 0x40

-- the type number
abbrev pub type_number : Message → ℕ
type_number (Initialisation protocol InitialisationRequest) = 0x0021
type_number (Initialisation protocol StartInitialisation) = 0x0022
type_number (Initialisation protocol InitialisationCompleted) = 0x0023
type_number (Initialisation protocol (VersionCheck version)) = 0x0024
type_number (Initialisation protocol (VersionAnswer agreement version)) = 0x0025
type_number (Point (MovePoint side)) = 0x0001
type_number (Point (PointPosition position)) = 0x000B
type_number (Point Timeout) = 0x000C
type_number (Signal (IndicateAspect aspect)) = 0x0001
type_number (Signal (IndicatedAspect aspect)) = 0x0003
type_number (Detection (OccupancyStatus occupancy)) = 0x0007

-- the bytes of the values
abbrev pub agreement_byte : Agreement → ℕ
agreement_byte NoMatch = 1
agreement_byte Match = 2

abbrev pub side_byte : Side → ℕ
side_byte sides.Right = 1
side_byte sides.Left = 2

abbrev pub position_byte : Position → ℕ
position_byte positions.Right = 1
position_byte positions.Left = 2
position_byte positions.NoEndPosition = 3

abbrev pub aspect_byte : Aspect → ℕ
aspect_byte Stop = 0x01
aspect_byte Proceed = 0x04
aspect_byte Slow = 0x06

abbrev pub occupancy_byte : Occupancy → ℕ
occupancy_byte Clear = 1
occupancy_byte Occupied = 2

-- an aspect, and behind it 17 bytes that say nothing
abbrev pub aspect_payload : Aspect → List ℕ
aspect_payload aspect = aspect_byte aspect ∷ replicate 17 0xFF

-- the payload
abbrev pub payload : Message → List ℕ
payload (Initialisation protocol InitialisationRequest) = []
payload (Initialisation protocol StartInitialisation) = []
payload (Initialisation protocol InitialisationCompleted) = []
payload (Initialisation protocol (VersionCheck version)) = version ∷ []
payload (Initialisation protocol (VersionAnswer agreement version)) = agreement_byte agreement ∷ version ∷ []
payload (Point (MovePoint side)) = side_byte side ∷ []
payload (Point (PointPosition position)) = position_byte position ∷ []
payload (Point Timeout) = []
payload (Signal (IndicateAspect aspect)) = aspect_payload aspect
payload (Signal (IndicatedAspect aspect)) = aspect_payload aspect
payload (Detection (OccupancyStatus occupancy)) = occupancy_byte occupancy ∷ []
