-- The words of a telegram say it again.
use Rattle.std.proofs.Common.{◌≡◌, ℕ, ◌^◌, ◌<◌, ◌&&◌, ◌==◌, nat_lt, not, Bool, true, false, List, [], ◌∷◌, ◌++◌, codes, length, Option, Some, None, Ok, refl, sym, ap, subst, ◌∙◌, arith, if◌then◌else◌}
use Rattle.std.specs.Prelude.{option_and_then}
use Rattle.std.specs.Fmt.{decimal as written}
use Rattle.std.specs.List.{join_with_byte, list_all}
use Rattle.std.specs.Option.{option_map}
use Rattle.std.specs.Str.{bytes_eq}
use Rattle.std.proofs.lemmas.Bool.{and_parts}
use Rattle.std.proofs.lemmas.Bool.Decides.{nat_tests}
use Rattle.std.proofs.lemmas.Slice.Eq.{bytes_eq-Decides}
use Rattle.replay_words.specs.Cut.{words}
use Rattle.replay_words.specs.Read.{decimal}
use Rattle.replay_words.specs.Words.{are_words, is_without}
use Rattle.ixl_spec.specs.sci_telegram.declared.message.Protocol.{Protocol}
use Rattle.ixl_spec.specs.sci_telegram.declared.message.Protocol.TheVariants as protocols
use Rattle.ixl_spec.specs.sci_telegram.declared.message.Agreement.{Agreement}
use Rattle.ixl_spec.specs.sci_telegram.declared.message.Agreement.TheVariants.{NoMatch, Match}
use Rattle.ixl_spec.specs.sci_telegram.declared.message.Side.{Side}
use Rattle.ixl_spec.specs.sci_telegram.declared.message.Position.{Position}
use Rattle.ixl_spec.specs.sci_telegram.declared.message.Aspect.{Aspect}
use Rattle.ixl_spec.specs.sci_telegram.declared.message.Occupancy.{Occupancy}
use Rattle.ixl_spec.specs.sci_telegram.declared.message.Side.TheVariants as sides
use Rattle.ixl_spec.specs.sci_telegram.declared.message.Position.TheVariants as positions
use Rattle.ixl_spec.specs.sci_telegram.declared.message.Aspect.TheVariants.{Stop, Proceed, Slow}
use Rattle.ixl_spec.specs.sci_telegram.declared.message.Occupancy.TheVariants.{Clear, Occupied}
use Rattle.ixl_spec.specs.sci_telegram.declared.message.Initialisation.TheVariants.{InitialisationRequest, StartInitialisation, InitialisationCompleted, VersionCheck, VersionAnswer}
use Rattle.ixl_spec.specs.sci_telegram.declared.message.PointMessage.TheVariants.{MovePoint, PointPosition, Timeout}
use Rattle.ixl_spec.specs.sci_telegram.declared.message.SignalMessage.TheVariants.{IndicateAspect, IndicatedAspect}
use Rattle.ixl_spec.specs.sci_telegram.declared.message.DetectionMessage.TheVariants.{OccupancyStatus}
use Rattle.ixl_spec.specs.sci_telegram.declared.message.Message.{Message}
use Rattle.ixl_spec.specs.sci_telegram.declared.message.Message.TheVariants.{Initialisation, Point, Signal, Detection}
use Rattle.ixl_spec.specs.sci_telegram.declared.telegram.Telegram.{Telegram}
use Rattle.ixl_spec.specs.sci_telegram.Names.{is_name_byte}
use Rattle.ixl_spec.specs.sci_telegram.Telegrams.{IsMessage, IsTelegram}
use Rattle.ixl_spec.specs.sci_telegram.Words.{aspect_of_word, aspect_word, occupancy_of_word, occupancy_word, position_of_word, position_word, side_of_word, side_word}
use Rattle.station_decode.specs.Words.{protocol_word, agreement_word}
use Rattle.station_decode.specs.Telegrams.{message_words, name_words, telegram_text, telegram_words}
use Rattle.station_decode.specs.ReadBack.{protocol_said, agreement_said, byte_in, version_said, with_value, initialisation_said, under, message_said, names_said, telegram_said}
use Rattle.station_decode.proofs.WordsInLine.{message-begins}

-- what is read of words and numbers
pub record Reads : Type 0 where
  pub joined : (ws : List (List ℕ)) → 0 < length ws → are_words ws ≡ true → words (join_with_byte 32 ws) ≡ ws
  pub number : (n : ℕ) → n < 2 ^ 64 → decimal (written n) ≡ Ok n
  pub number_word : (n : ℕ) → n < 2 ^ 64 → is_without 32 (written n) ≡ true

-- ---- words without spaces

both : (a b : Bool) → a ≡ true → b ≡ true → (a && b) ≡ true
both true b e f = f
both false b e f = cc

all-append : (some more : List (List ℕ)) → are_words some ≡ true → are_words more ≡ true → are_words (some ++ more) ≡ true
all-append [] more e f = f
all-append (w ∷ ws) more e f =
    let parts = and_parts (is_without 32 w) (are_words ws) e in
    both (is_without 32 w) (are_words (ws ++ more)) parts.0 (all-append ws more parts.1 f)

no_space : (byte : ℕ) → is_name_byte byte ≡ true → not (byte == 32) ≡ true
no_space byte e = grind (arith, nat_tests)

name-word : (name : List ℕ) → list_all is_name_byte name ≡ true → is_without 32 name ≡ true
name-word [] e = refl
name-word (b ∷ name) e =
    let parts = and_parts (is_name_byte b) (list_all is_name_byte name) e in
    both (not (b == 32)) (is_without 32 name) (no_space b parts.0) (name-word name parts.1)

small : (n : ℕ) → n < 256 → n < 2 ^ 64
small n below = omega arith

-- ---- the words of each value

protocol-is-word : (protocol : Protocol) → is_without 32 (protocol_word protocol) ≡ true
protocol-is-word protocols.TrainDetection = refl
protocol-is-word protocols.LightSignal = refl
protocol-is-word protocols.Point = refl

agreement-is-word : (agreement : Agreement) → is_without 32 (agreement_word agreement) ≡ true
agreement-is-word NoMatch = refl
agreement-is-word Match = refl

side-is-word : (side : Side) → is_without 32 (side_word side) ≡ true
side-is-word sides.Right = refl
side-is-word sides.Left = refl

position-is-word : (position : Position) → is_without 32 (position_word position) ≡ true
position-is-word positions.Right = refl
position-is-word positions.Left = refl
position-is-word positions.NoEndPosition = refl

aspect-is-word : (aspect : Aspect) → is_without 32 (aspect_word aspect) ≡ true
aspect-is-word Stop = refl
aspect-is-word Proceed = refl
aspect-is-word Slow = refl

occupancy-is-word : (occupancy : Occupancy) → is_without 32 (occupancy_word occupancy) ≡ true
occupancy-is-word Clear = refl
occupancy-is-word Occupied = refl

protocol-back : (protocol : Protocol) → protocol_said (protocol_word protocol) ≡ Some protocol
protocol-back protocols.TrainDetection = refl
protocol-back protocols.LightSignal = refl
protocol-back protocols.Point = refl

agreement-back : (agreement : Agreement) → agreement_said (agreement_word agreement) ≡ Some agreement
agreement-back NoMatch = refl
agreement-back Match = refl

side-back : (side : Side) → side_of_word (side_word side) ≡ Some side
side-back sides.Right = refl
side-back sides.Left = refl

position-back : (position : Position) → position_of_word (position_word position) ≡ Some position
position-back positions.Right = refl
position-back positions.Left = refl
position-back positions.NoEndPosition = refl

aspect-back : (aspect : Aspect) → aspect_of_word (aspect_word aspect) ≡ Some aspect
aspect-back Stop = refl
aspect-back Proceed = refl
aspect-back Slow = refl

occupancy-back : (occupancy : Occupancy) → occupancy_of_word (occupancy_word occupancy) ≡ Some occupancy
occupancy-back Clear = refl
occupancy-back Occupied = refl

-- ---- a message

protocol-said : (protocol : Protocol) (behind : List (List ℕ)) → message_said (protocol_word protocol ∷ behind) ≡ initialisation_said protocol behind
protocol-said protocol behind = ap (λ said. under said behind (protocol_word protocol ∷ behind)) (protocol-back protocol)

byte-back : (n : ℕ) → n < 256 → byte_in (Ok n) ≡ Some n
byte-back n below = by (nat_lt n 256) (grind (arith, nat_tests))
  where
    by : (v : Bool) → v ≡ true → (if v then Some n else None) ≡ Some n
    by true e = refl
    by false e = cc

module _ (reads : Reads) where
  version-is-word : (version : ℕ) → version < 256 → are_words (written version ∷ []) ≡ true
  version-is-word version below = both (is_without 32 (written version)) true (reads.number_word version (small version below)) refl

  version-back : (version : ℕ) → version < 256 → version_said (written version) ≡ Some version
  version-back version below = ap byte_in (reads.number version (small version below)) ∙ byte-back version below

  message-is-words : (message : Message) → IsMessage message → are_words (message_words message) ≡ true
  message-is-words (Initialisation protocol InitialisationRequest) is = both _ true (protocol-is-word protocol) refl
  message-is-words (Initialisation protocol StartInitialisation) is = both _ true (protocol-is-word protocol) refl
  message-is-words (Initialisation protocol InitialisationCompleted) is = both _ true (protocol-is-word protocol) refl
  message-is-words (Initialisation protocol (VersionCheck version)) is = both _ _ (protocol-is-word protocol) (version-is-word version is)
  message-is-words (Initialisation protocol (VersionAnswer agreement version)) is =
      both _ _ (protocol-is-word protocol) (both _ _ (agreement-is-word agreement) (version-is-word version is))
  message-is-words (Point (MovePoint side)) is = both _ true (side-is-word side) refl
  message-is-words (Point (PointPosition position)) is = both _ true (position-is-word position) refl
  message-is-words (Point Timeout) is = refl
  message-is-words (Signal (IndicateAspect aspect)) is = both _ true (aspect-is-word aspect) refl
  message-is-words (Signal (IndicatedAspect aspect)) is = both _ true (aspect-is-word aspect) refl
  message-is-words (Detection (OccupancyStatus occupancy)) is = both _ true (occupancy-is-word occupancy) refl

  message-back : (message : Message) → IsMessage message → (behind : List (List ℕ)) → message_said (message_words message ++ behind) ≡ Some (message, behind)
  message-back (Initialisation protocol InitialisationRequest) is behind = protocol-said protocol (codes "initialisation" ∷ codes "request" ∷ behind)
  message-back (Initialisation protocol StartInitialisation) is behind = protocol-said protocol (codes "start" ∷ codes "initialisation" ∷ behind)
  message-back (Initialisation protocol InitialisationCompleted) is behind = protocol-said protocol (codes "initialisation" ∷ codes "completed" ∷ behind)
  message-back (Initialisation protocol (VersionCheck version)) is behind =
      protocol-said protocol (codes "version" ∷ codes "check" ∷ written version ∷ behind)
      ∙ ap (option_map (λ (value : ℕ). (Initialisation protocol (VersionCheck value), behind))) (version-back version is)
  message-back (Initialisation protocol (VersionAnswer agreement version)) is behind =
      protocol-said protocol (codes "version" ∷ codes "answer" ∷ agreement_word agreement ∷ written version ∷ behind)
      ∙ ap (option_and_then (λ (value : Agreement). with_value (λ number. Initialisation protocol (VersionAnswer value number)) version_said (written version ∷ behind))) (agreement-back agreement)
      ∙ ap (option_map (λ (value : ℕ). (Initialisation protocol (VersionAnswer agreement value), behind))) (version-back version is)
  message-back (Point (MovePoint side)) is behind = ap (option_map (λ (value : Side). (Point (MovePoint value), behind))) (side-back side)
  message-back (Point (PointPosition position)) is behind = ap (option_map (λ (value : Position). (Point (PointPosition value), behind))) (position-back position)
  message-back (Point Timeout) is behind = refl
  message-back (Signal (IndicateAspect aspect)) is behind = ap (option_map (λ (value : Aspect). (Signal (IndicateAspect value), behind))) (aspect-back aspect)
  message-back (Signal (IndicatedAspect aspect)) is behind = ap (option_map (λ (value : Aspect). (Signal (IndicatedAspect value), behind))) (aspect-back aspect)
  message-back (Detection (OccupancyStatus occupancy)) is behind = ap (option_map (λ (value : Occupancy). (Detection (OccupancyStatus value), behind))) (occupancy-back occupancy)

-- ---- names

name-is-words : (word called name : List ℕ) → is_without 32 word ≡ true → is_without 32 name ≡ true → are_words (name_words word called name) ≡ true
name-is-words word called name e f = by (bytes_eq name called)
  where
    by : (v : Bool) → are_words (if v then [] else word ∷ name ∷ []) ≡ true
    by true = refl
    by false = both _ _ e (both _ true f refl)

names-back : (sender receiver from to : List ℕ) (message : Message)
    → names_said sender receiver message (name_words (codes "from") sender from ++ name_words (codes "to") receiver to)
    ≡ Some (record { sender = from; receiver = to; message = message })
names-back sender receiver from to message =
    by (bytes_eq from sender) (bytes_eq to receiver) (bytes_eq-Decides from sender).0 (bytes_eq-Decides to receiver).0
  where
    telegram : List ℕ → List ℕ → Telegram
    telegram one other = record { sender = one; receiver = other; message = message }

    by : (v w : Bool) → (v ≡ true → from ≡ sender) → (w ≡ true → to ≡ receiver)
        → names_said sender receiver message ((if v then [] else codes "from" ∷ from ∷ []) ++ (if w then [] else codes "to" ∷ to ∷ [])) ≡ Some (telegram from to)
    by true true e f = ap (λ one. Some (telegram one receiver)) (sym (e refl)) ∙ ap (λ other. Some (telegram from other)) (sym (f refl))
    by true false e f = ap (λ one. Some (telegram one to)) (sym (e refl))
    by false true e f = ap (λ other. Some (telegram from other)) (sym (f refl))
    by false false e f = refl

-- ---- a whole telegram

module _ (reads : Reads) where
  telegram-is-words : (sender receiver : List ℕ) (telegram : Telegram) → IsTelegram telegram → are_words (telegram_words sender receiver telegram) ≡ true
  telegram-is-words sender receiver telegram is =
      all-append (message_words telegram.message) _ (message-is-words reads telegram.message is.message)
      (all-append (name_words (codes "from") sender telegram.sender) _
      (name-is-words (codes "from") sender telegram.sender refl (name-word telegram.sender is.sender.each))
      (name-is-words (codes "to") receiver telegram.receiver refl (name-word telegram.receiver is.receiver.each)))

  some-words : (message : Message) (more : List (List ℕ)) → 0 < length (message_words message ++ more)
  some-words message more =
      let begins = message-begins message in
      subst (λ (words : List (List ℕ)). 0 < length (words ++ more)) (sym begins.is) (omega arith)

  pub telegram-back : (sender receiver : List ℕ) (telegram : Telegram) → IsTelegram telegram → telegram_said sender receiver (telegram_text sender receiver telegram) ≡ Some telegram
  telegram-back sender receiver telegram is =
      let names = name_words (codes "from") sender telegram.sender ++ name_words (codes "to") receiver telegram.receiver in
      let said_of : List (List ℕ) → Option Telegram = λ (all : List (List ℕ)). option_and_then (λ (said : Message × List (List ℕ)). names_said sender receiver said.0 said.1) (message_said all) in
      ap said_of (reads.joined (telegram_words sender receiver telegram) (some-words telegram.message names) (telegram-is-words sender receiver telegram is))
      ∙ ap (option_and_then (λ (said : Message × List (List ℕ)). names_said sender receiver said.0 said.1)) (message-back reads telegram.message is.message names)
      ∙ names-back sender receiver telegram.sender telegram.receiver telegram.message

  pub telegrams-apart : (sender receiver : List ℕ) (one other : Telegram) → IsTelegram one → IsTelegram other
      → telegram_text sender receiver one ≡ telegram_text sender receiver other → one ≡ other
  telegrams-apart sender receiver one other is also e =
      let same : Some one ≡ Some other =
      sym (telegram-back sender receiver one is) ∙ ap (telegram_said sender receiver) e ∙ telegram-back sender receiver other also in
      cc
