-- The tables, read from both sides: what a byte or a type number stands for is what is written so.
use Rattle.std.proofs.Common.{◌≡◌, ℕ, ◌<◌, ◌≤◌, ◌^◌, List, [], ◌∷◌, length, replicate, slice_index, Some, None, refl, ap, ◌∙◌, subst, arith, lit<, lit≤}
use Rattle.std.specs.Option.{option_map}
use Rattle.std.specs.Str.{bytes_eq}
use Rattle.std.proofs.lemmas.Bool.Decides.{nat_tests}
use Rattle.std.proofs.lemmas.Slice.Eq.{bytes_eq-Decides}
use Rattle.std.proofs.lemmas.Option.{same_Some}
use Rattle.sci_telegram.specs.declared.kind.Kind.{Kind}
use Rattle.sci_telegram.specs.declared.kind.Kind.TheVariants as kinds
use Rattle.sci_telegram.specs.declared.message.Protocol.{Protocol}
use Rattle.sci_telegram.specs.declared.message.Protocol.TheVariants as protocols
use Rattle.sci_telegram.specs.declared.message.Agreement.{Agreement}
use Rattle.sci_telegram.specs.declared.message.Agreement.TheVariants.{NoMatch, Match}
use Rattle.sci_telegram.specs.declared.message.Side.{Side}
use Rattle.sci_telegram.specs.declared.message.Side.TheVariants as sides
use Rattle.sci_telegram.specs.declared.message.Position.{Position}
use Rattle.sci_telegram.specs.declared.message.Position.TheVariants as positions
use Rattle.sci_telegram.specs.declared.message.Aspect.{Aspect}
use Rattle.sci_telegram.specs.declared.message.Aspect.TheVariants.{Stop, Proceed, Slow}
use Rattle.sci_telegram.specs.declared.message.Occupancy.{Occupancy}
use Rattle.sci_telegram.specs.declared.message.Occupancy.TheVariants.{Clear, Occupied}
use Rattle.sci_telegram.specs.declared.message.Initialisation.TheVariants.{InitialisationRequest, StartInitialisation, InitialisationCompleted, VersionCheck, VersionAnswer}
use Rattle.sci_telegram.specs.declared.message.PointMessage.TheVariants.{MovePoint, PointPosition, Timeout}
use Rattle.sci_telegram.specs.declared.message.SignalMessage.TheVariants.{IndicateAspect, IndicatedAspect}
use Rattle.sci_telegram.specs.declared.message.DetectionMessage.TheVariants.{OccupancyStatus}
use Rattle.sci_telegram.specs.declared.message.Message.{Message}
use Rattle.sci_telegram.specs.declared.message.Message.TheVariants.{Initialisation, Point, Signal, Detection}
use Rattle.sci_telegram.specs.Messages.{protocol_of, protocol_byte, type_number, agreement_byte, side_byte, position_byte, aspect_byte, occupancy_byte, payload}
use Rattle.sci_telegram.specs.Telegrams.{IsMessage}
use Rattle.sci_telegram.specs.TelegramRead.{protocol_at, agreement_at, side_at, position_at, aspect_at, occupancy_at, own_kind_at, kind_at, payload_length, aspect_in, message_in}
use Rattle.sci_telegram.proofs.Steps.{map_some, test_some, row, no_row}

-- ---- bytes

pub protocol_takes : (byte : ℕ) (x : Protocol) → protocol_at byte ≡ Some x → byte ≡ protocol_byte x
protocol_takes byte protocols.TrainDetection e = grind (arith, nat_tests)
protocol_takes byte protocols.LightSignal e = grind (arith, nat_tests)
protocol_takes byte protocols.Point e = grind (arith, nat_tests)

pub protocol_again : (x : Protocol) → protocol_at (protocol_byte x) ≡ Some x
protocol_again protocols.TrainDetection = refl
protocol_again protocols.LightSignal = refl
protocol_again protocols.Point = refl

pub agreement_takes : (byte : ℕ) (x : Agreement) → agreement_at byte ≡ Some x → byte ≡ agreement_byte x
agreement_takes byte NoMatch e = grind (arith, nat_tests)
agreement_takes byte Match e = grind (arith, nat_tests)

pub agreement_again : (x : Agreement) → agreement_at (agreement_byte x) ≡ Some x
agreement_again NoMatch = refl
agreement_again Match = refl

pub side_takes : (byte : ℕ) (x : Side) → side_at byte ≡ Some x → byte ≡ side_byte x
side_takes byte sides.Right e = grind (arith, nat_tests)
side_takes byte sides.Left e = grind (arith, nat_tests)

pub side_again : (x : Side) → side_at (side_byte x) ≡ Some x
side_again sides.Right = refl
side_again sides.Left = refl

pub position_takes : (byte : ℕ) (x : Position) → position_at byte ≡ Some x → byte ≡ position_byte x
position_takes byte positions.Right e = grind (arith, nat_tests)
position_takes byte positions.Left e = grind (arith, nat_tests)
position_takes byte positions.NoEndPosition e = grind (arith, nat_tests)

pub position_again : (x : Position) → position_at (position_byte x) ≡ Some x
position_again positions.Right = refl
position_again positions.Left = refl
position_again positions.NoEndPosition = refl

pub aspect_takes : (byte : ℕ) (x : Aspect) → aspect_at byte ≡ Some x → byte ≡ aspect_byte x
aspect_takes byte Stop e = grind (arith, nat_tests)
aspect_takes byte Proceed e = grind (arith, nat_tests)
aspect_takes byte Slow e = grind (arith, nat_tests)

pub aspect_again : (x : Aspect) → aspect_at (aspect_byte x) ≡ Some x
aspect_again Stop = refl
aspect_again Proceed = refl
aspect_again Slow = refl

pub occupancy_takes : (byte : ℕ) (x : Occupancy) → occupancy_at byte ≡ Some x → byte ≡ occupancy_byte x
occupancy_takes byte Clear e = grind (arith, nat_tests)
occupancy_takes byte Occupied e = grind (arith, nat_tests)

pub occupancy_again : (x : Occupancy) → occupancy_at (occupancy_byte x) ≡ Some x
occupancy_again Clear = refl
occupancy_again Occupied = refl

-- ---- rows

-- the row of a message
abbrev pub kind_of : Message → Kind
kind_of (Initialisation protocol InitialisationRequest) = kinds.InitialisationRequest
kind_of (Initialisation protocol StartInitialisation) = kinds.StartInitialisation
kind_of (Initialisation protocol InitialisationCompleted) = kinds.InitialisationCompleted
kind_of (Initialisation protocol (VersionCheck version)) = kinds.VersionCheck
kind_of (Initialisation protocol (VersionAnswer agreement version)) = kinds.VersionAnswer
kind_of (Point (MovePoint side)) = kinds.MovePoint
kind_of (Point (PointPosition position)) = kinds.PointPosition
kind_of (Point Timeout) = kinds.Timeout
kind_of (Signal (IndicateAspect aspect)) = kinds.IndicateAspect
kind_of (Signal (IndicatedAspect aspect)) = kinds.IndicatedAspect
kind_of (Detection (OccupancyStatus occupancy)) = kinds.OccupancyStatus

-- the type number of a row, and the protocol of its messages, which all rows of initialisation leave open
abbrev pub number_of : Kind → ℕ
number_of kinds.InitialisationRequest = 0x0021
number_of kinds.StartInitialisation = 0x0022
number_of kinds.InitialisationCompleted = 0x0023
number_of kinds.VersionCheck = 0x0024
number_of kinds.VersionAnswer = 0x0025
number_of kinds.MovePoint = 0x0001
number_of kinds.PointPosition = 0x000B
number_of kinds.Timeout = 0x000C
number_of kinds.IndicateAspect = 0x0001
number_of kinds.IndicatedAspect = 0x0003
number_of kinds.OccupancyStatus = 0x0007

pub number_again : (m : Message) → type_number m ≡ number_of (kind_of m)
number_again (Initialisation protocol InitialisationRequest) = refl
number_again (Initialisation protocol StartInitialisation) = refl
number_again (Initialisation protocol InitialisationCompleted) = refl
number_again (Initialisation protocol (VersionCheck version)) = refl
number_again (Initialisation protocol (VersionAnswer agreement version)) = refl
number_again (Point (MovePoint side)) = refl
number_again (Point (PointPosition position)) = refl
number_again (Point Timeout) = refl
number_again (Signal (IndicateAspect aspect)) = refl
number_again (Signal (IndicatedAspect aspect)) = refl
number_again (Detection (OccupancyStatus occupancy)) = refl

pub row_fits : (k : Kind) → number_of k < 2 ^ 16
row_fits kinds.InitialisationRequest = lit< tt
row_fits kinds.StartInitialisation = lit< tt
row_fits kinds.InitialisationCompleted = lit< tt
row_fits kinds.VersionCheck = lit< tt
row_fits kinds.VersionAnswer = lit< tt
row_fits kinds.MovePoint = lit< tt
row_fits kinds.PointPosition = lit< tt
row_fits kinds.Timeout = lit< tt
row_fits kinds.IndicateAspect = lit< tt
row_fits kinds.IndicatedAspect = lit< tt
row_fits kinds.OccupancyStatus = lit< tt

abbrev pub protocol_in : Protocol → Kind → Protocol
protocol_in protocol kinds.InitialisationRequest = protocol
protocol_in protocol kinds.StartInitialisation = protocol
protocol_in protocol kinds.InitialisationCompleted = protocol
protocol_in protocol kinds.VersionCheck = protocol
protocol_in protocol kinds.VersionAnswer = protocol
protocol_in protocol kinds.MovePoint = protocols.Point
protocol_in protocol kinds.PointPosition = protocols.Point
protocol_in protocol kinds.Timeout = protocols.Point
protocol_in protocol kinds.IndicateAspect = protocols.LightSignal
protocol_in protocol kinds.IndicatedAspect = protocols.LightSignal
protocol_in protocol kinds.OccupancyStatus = protocols.TrainDetection

-- a row belongs to a protocol and a type number
abbrev pub Belongs : Protocol → ℕ → Kind → Type 0
Belongs protocol number kind = (number ≡ number_of kind) × (protocol_in protocol kind ≡ protocol)

own_takes : (p : Protocol) (n : ℕ) (k : Kind) → own_kind_at p n ≡ Some k → Belongs p n k
own_takes protocols.Point n k e =
    row (Belongs protocols.Point n) n 0x0001 kinds.MovePoint k _ (λ h. (h, refl)) (λ e.
    row (Belongs protocols.Point n) n 0x000B kinds.PointPosition k _ (λ h. (h, refl)) (λ e.
    row (Belongs protocols.Point n) n 0x000C kinds.Timeout k None (λ h. (h, refl)) (λ e.
    no_row (Belongs protocols.Point n) k e) e) e) e
own_takes protocols.LightSignal n k e =
    row (Belongs protocols.LightSignal n) n 0x0001 kinds.IndicateAspect k _ (λ h. (h, refl)) (λ e.
    row (Belongs protocols.LightSignal n) n 0x0003 kinds.IndicatedAspect k None (λ h. (h, refl)) (λ e.
    no_row (Belongs protocols.LightSignal n) k e) e) e
own_takes protocols.TrainDetection n k e =
    row (Belongs protocols.TrainDetection n) n 0x0007 kinds.OccupancyStatus k None (λ h. (h, refl)) (λ e.
    no_row (Belongs protocols.TrainDetection n) k e) e

pub kind_takes : (p : Protocol) (n : ℕ) (k : Kind) → kind_at p n ≡ Some k → Belongs p n k
unfolding kind_at
kind_takes p n k e =
    row (Belongs p n) n 0x0021 kinds.InitialisationRequest k _ (λ h. (h, refl)) (λ e.
    row (Belongs p n) n 0x0022 kinds.StartInitialisation k _ (λ h. (h, refl)) (λ e.
    row (Belongs p n) n 0x0023 kinds.InitialisationCompleted k _ (λ h. (h, refl)) (λ e.
    row (Belongs p n) n 0x0024 kinds.VersionCheck k _ (λ h. (h, refl)) (λ e.
    row (Belongs p n) n 0x0025 kinds.VersionAnswer k _ (λ h. (h, refl)) (λ e.
    own_takes p n k e) e) e) e) e) e

pub kind_again : (m : Message) → kind_at (protocol_of m) (type_number m) ≡ Some (kind_of m)
unfolding kind_at
kind_again (Initialisation protocol InitialisationRequest) = refl
kind_again (Initialisation protocol StartInitialisation) = refl
kind_again (Initialisation protocol InitialisationCompleted) = refl
kind_again (Initialisation protocol (VersionCheck version)) = refl
kind_again (Initialisation protocol (VersionAnswer agreement version)) = refl
kind_again (Point (MovePoint side)) = refl
kind_again (Point (PointPosition position)) = refl
kind_again (Point Timeout) = refl
kind_again (Signal (IndicateAspect aspect)) = refl
kind_again (Signal (IndicatedAspect aspect)) = refl
kind_again (Detection (OccupancyStatus occupancy)) = refl

pub length_again : (m : Message) → length (payload m) ≡ payload_length (kind_of m)
length_again (Initialisation protocol InitialisationRequest) = refl
length_again (Initialisation protocol StartInitialisation) = refl
length_again (Initialisation protocol InitialisationCompleted) = refl
length_again (Initialisation protocol (VersionCheck version)) = refl
length_again (Initialisation protocol (VersionAnswer agreement version)) = refl
length_again (Point (MovePoint side)) = refl
length_again (Point (PointPosition position)) = refl
length_again (Point Timeout) = refl
length_again (Signal (IndicateAspect aspect)) = refl
length_again (Signal (IndicatedAspect aspect)) = refl
length_again (Detection (OccupancyStatus occupancy)) = refl

-- ---- payloads

one_byte : (xs : List ℕ) → length xs ≡ 1 → xs ≡ slice_index xs 0 ∷ []
one_byte [] h = absurd (omega (arith, h))
one_byte (x ∷ []) h = refl
one_byte (x ∷ y ∷ xs) h = absurd (omega (arith, h))

two_bytes : (xs : List ℕ) → length xs ≡ 2 → xs ≡ slice_index xs 0 ∷ slice_index xs 1 ∷ []
two_bytes [] h = absurd (omega (arith, h))
two_bytes (x ∷ []) h = absurd (omega (arith, h))
two_bytes (x ∷ y ∷ []) h = refl
two_bytes (x ∷ y ∷ z ∷ xs) h = absurd (omega (arith, h))

no_bytes : (xs : List ℕ) → length xs ≡ 0 → xs ≡ []
no_bytes [] h = refl
no_bytes (x ∷ xs) h = absurd (omega (arith, h))

aspect_in_takes : (payload : List ℕ) (aspect : Aspect) → length payload ≡ 18 → aspect_in payload ≡ Some aspect → payload ≡ aspect_byte aspect ∷ replicate 17 0xFF
unfolding aspect_in
aspect_in_takes [] aspect h e = absurd (omega (arith, h))
aspect_in_takes (x ∷ xs) aspect h e =
    let g = test_some (bytes_eq xs (replicate 17 0xFF)) (aspect_at x) aspect e in
    let filler : xs ≡ replicate 17 0xFF = (bytes_eq-Decides xs (replicate 17 0xFF)).0 g.0 in
    ap (λ (b : ℕ). b ∷ xs) (aspect_takes x aspect g.1) ∙ ap (λ (ys : List ℕ). aspect_byte aspect ∷ ys) filler

aspect_in_again : (aspect : Aspect) → aspect_in (aspect_byte aspect ∷ replicate 17 0xFF) ≡ Some aspect
unfolding aspect_in
aspect_in_again Stop = refl
aspect_in_again Proceed = refl
aspect_in_again Slow = refl

-- what was read of a payload is written so
pub record Carries (p : Protocol) (k : Kind) (bytes : List ℕ) (m : Message) : Type 0 where
  pub protocol : protocol_of m ≡ protocol_in p k
  pub number : type_number m ≡ number_of k
  pub bytes_are : bytes ≡ payload m

pub message_takes : (p : Protocol) (k : Kind) (bytes : List ℕ) (m : Message) → length bytes ≡ payload_length k → message_in p k bytes ≡ Some m → Carries p k bytes m
unfolding message_in
message_takes p kinds.InitialisationRequest bytes m h e = subst (Carries p kinds.InitialisationRequest bytes) (same_Some _ m e) (record { protocol = refl; number = refl; bytes_are = no_bytes bytes h })
message_takes p kinds.StartInitialisation bytes m h e = subst (Carries p kinds.StartInitialisation bytes) (same_Some _ m e) (record { protocol = refl; number = refl; bytes_are = no_bytes bytes h })
message_takes p kinds.InitialisationCompleted bytes m h e = subst (Carries p kinds.InitialisationCompleted bytes) (same_Some _ m e) (record { protocol = refl; number = refl; bytes_are = no_bytes bytes h })
message_takes p kinds.VersionCheck bytes m h e = subst (Carries p kinds.VersionCheck bytes) (same_Some _ m e) (record { protocol = refl; number = refl; bytes_are = one_byte bytes h })
message_takes p kinds.VersionAnswer bytes m h e =
    let a = map_some (λ agreement. Initialisation p (VersionAnswer agreement (slice_index bytes 1))) (agreement_at (slice_index bytes 0)) m e in
    subst (Carries p kinds.VersionAnswer bytes) a.2 (record { protocol = refl; number = refl; bytes_are = two_bytes bytes h ∙ ap (λ (b : ℕ). b ∷ slice_index bytes 1 ∷ []) (agreement_takes _ a.0 a.1) })
message_takes p kinds.MovePoint bytes m h e =
    let a = map_some (λ side. Point (MovePoint side)) (side_at (slice_index bytes 0)) m e in
    subst (Carries p kinds.MovePoint bytes) a.2 (record { protocol = refl; number = refl; bytes_are = one_byte bytes h ∙ ap (λ (b : ℕ). b ∷ []) (side_takes _ a.0 a.1) })
message_takes p kinds.PointPosition bytes m h e =
    let a = map_some (λ position. Point (PointPosition position)) (position_at (slice_index bytes 0)) m e in
    subst (Carries p kinds.PointPosition bytes) a.2 (record { protocol = refl; number = refl; bytes_are = one_byte bytes h ∙ ap (λ (b : ℕ). b ∷ []) (position_takes _ a.0 a.1) })
message_takes p kinds.Timeout bytes m h e = subst (Carries p kinds.Timeout bytes) (same_Some _ m e) (record { protocol = refl; number = refl; bytes_are = no_bytes bytes h })
message_takes p kinds.IndicateAspect bytes m h e =
    let a = map_some (λ aspect. Signal (IndicateAspect aspect)) (aspect_in bytes) m e in
    subst (Carries p kinds.IndicateAspect bytes) a.2 (record { protocol = refl; number = refl; bytes_are = aspect_in_takes bytes a.0 h a.1 })
message_takes p kinds.IndicatedAspect bytes m h e =
    let a = map_some (λ aspect. Signal (IndicatedAspect aspect)) (aspect_in bytes) m e in
    subst (Carries p kinds.IndicatedAspect bytes) a.2 (record { protocol = refl; number = refl; bytes_are = aspect_in_takes bytes a.0 h a.1 })
message_takes p kinds.OccupancyStatus bytes m h e =
    let a = map_some (λ occupancy. Detection (OccupancyStatus occupancy)) (occupancy_at (slice_index bytes 0)) m e in
    subst (Carries p kinds.OccupancyStatus bytes) a.2 (record { protocol = refl; number = refl; bytes_are = one_byte bytes h ∙ ap (λ (b : ℕ). b ∷ []) (occupancy_takes _ a.0 a.1) })

-- what was written of a message is read as it
pub message_again : (m : Message) → message_in (protocol_of m) (kind_of m) (payload m) ≡ Some m
unfolding message_in
message_again (Initialisation protocol InitialisationRequest) = refl
message_again (Initialisation protocol StartInitialisation) = refl
message_again (Initialisation protocol InitialisationCompleted) = refl
message_again (Initialisation protocol (VersionCheck version)) = refl
message_again (Initialisation protocol (VersionAnswer agreement version)) = ap (option_map (λ a. Initialisation protocol (VersionAnswer a version))) (agreement_again agreement)
message_again (Point (MovePoint side)) = ap (option_map (λ s. Point (MovePoint s))) (side_again side)
message_again (Point (PointPosition position)) = ap (option_map (λ q. Point (PointPosition q))) (position_again position)
message_again (Point Timeout) = refl
message_again (Signal (IndicateAspect aspect)) = ap (option_map (λ a. Signal (IndicateAspect a))) (aspect_in_again aspect)
message_again (Signal (IndicatedAspect aspect)) = ap (option_map (λ a. Signal (IndicatedAspect a))) (aspect_in_again aspect)
message_again (Detection (OccupancyStatus occupancy)) = ap (option_map (λ o. Detection (OccupancyStatus o))) (occupancy_again occupancy)

-- bytes carry only messages that there are
pub message_fits : (m : Message) → ((i : ℕ) → slice_index (payload m) i < 256) → IsMessage m
message_fits (Initialisation protocol InitialisationRequest) h = tt
message_fits (Initialisation protocol StartInitialisation) h = tt
message_fits (Initialisation protocol InitialisationCompleted) h = tt
message_fits (Initialisation protocol (VersionCheck version)) h = h 0
message_fits (Initialisation protocol (VersionAnswer agreement version)) h = h 1
message_fits (Point message) h = tt
message_fits (Signal message) h = tt
message_fits (Detection message) h = tt

-- ---- a message of each row

abbrev pub some_message : Protocol → Kind → Message
some_message p kinds.InitialisationRequest = Initialisation p InitialisationRequest
some_message p kinds.StartInitialisation = Initialisation p StartInitialisation
some_message p kinds.InitialisationCompleted = Initialisation p InitialisationCompleted
some_message p kinds.VersionCheck = Initialisation p (VersionCheck 1)
some_message p kinds.VersionAnswer = Initialisation p (VersionAnswer Match 1)
some_message p kinds.MovePoint = Point (MovePoint sides.Right)
some_message p kinds.PointPosition = Point (PointPosition positions.Right)
some_message p kinds.Timeout = Point Timeout
some_message p kinds.IndicateAspect = Signal (IndicateAspect Stop)
some_message p kinds.IndicatedAspect = Signal (IndicatedAspect Stop)
some_message p kinds.OccupancyStatus = Detection (OccupancyStatus Clear)

pub record IsOfRow (p : Protocol) (k : Kind) (m : Message) : Type 0 where
  pub protocol : protocol_of m ≡ protocol_in p k
  pub number : type_number m ≡ number_of k
  pub length_is : length (payload m) ≡ payload_length k

pub some_of_row : (p : Protocol) (k : Kind) → IsOfRow p k (some_message p k)
some_of_row p kinds.InitialisationRequest = record { protocol = refl; number = refl; length_is = refl }
some_of_row p kinds.StartInitialisation = record { protocol = refl; number = refl; length_is = refl }
some_of_row p kinds.InitialisationCompleted = record { protocol = refl; number = refl; length_is = refl }
some_of_row p kinds.VersionCheck = record { protocol = refl; number = refl; length_is = refl }
some_of_row p kinds.VersionAnswer = record { protocol = refl; number = refl; length_is = refl }
some_of_row p kinds.MovePoint = record { protocol = refl; number = refl; length_is = refl }
some_of_row p kinds.PointPosition = record { protocol = refl; number = refl; length_is = refl }
some_of_row p kinds.Timeout = record { protocol = refl; number = refl; length_is = refl }
some_of_row p kinds.IndicateAspect = record { protocol = refl; number = refl; length_is = refl }
some_of_row p kinds.IndicatedAspect = record { protocol = refl; number = refl; length_is = refl }
some_of_row p kinds.OccupancyStatus = record { protocol = refl; number = refl; length_is = refl }

pub row_length_fits : (k : Kind) → payload_length k ≤ 18
row_length_fits kinds.InitialisationRequest = lit≤ tt
row_length_fits kinds.StartInitialisation = lit≤ tt
row_length_fits kinds.InitialisationCompleted = lit≤ tt
row_length_fits kinds.VersionCheck = lit≤ tt
row_length_fits kinds.VersionAnswer = lit≤ tt
row_length_fits kinds.MovePoint = lit≤ tt
row_length_fits kinds.PointPosition = lit≤ tt
row_length_fits kinds.Timeout = lit≤ tt
row_length_fits kinds.IndicateAspect = lit≤ tt
row_length_fits kinds.IndicatedAspect = lit≤ tt
row_length_fits kinds.OccupancyStatus = lit≤ tt
