-- Words of a line, one after the other.
use Rattle.std.proofs.Common.{◌≡◌, ℕ, ◌+◌, ◌<◌, ◌≤◌, List, [], ◌∷◌, ◌++◌, codes, length, drop, get_or, refl, ap, sym, subst, ◌∙◌, append_assoc, append-nil}
use Rattle.std.proofs.lemmas.List.{drop_more, drop_all}
use Rattle.std.specs.List.{flat_map, join_with_byte}
use Rattle.ixl_spec.specs.sci_telegram.declared.message.Initialisation.{Initialisation}
use Rattle.ixl_spec.specs.sci_telegram.declared.message.Initialisation.TheVariants.{InitialisationRequest, StartInitialisation, InitialisationCompleted, VersionCheck, VersionAnswer}
use Rattle.ixl_spec.specs.sci_telegram.declared.message.PointMessage.TheVariants.{MovePoint, PointPosition, Timeout}
use Rattle.ixl_spec.specs.sci_telegram.declared.message.SignalMessage.TheVariants.{IndicateAspect, IndicatedAspect}
use Rattle.ixl_spec.specs.sci_telegram.declared.message.DetectionMessage.TheVariants.{OccupancyStatus}
use Rattle.ixl_spec.specs.sci_telegram.declared.message.Message.{Message}
use Rattle.ixl_spec.specs.sci_telegram.declared.message.Message.TheVariants as says
use Rattle.station_decode.specs.Telegrams.{message_words, step_words}
use Rattle.station_decode.specs.inside.Spaced.{spaced}

-- words after one, and after several
one-more : (w : List ℕ) (more : List (List ℕ)) → w ++ spaced more ≡ join_with_byte 32 (w ∷ more)
one-more w [] = append-nil w
one-more w (next ∷ more) = ap (λ rest. w ++ (32 ∷ rest)) (one-more next more)

joined-more : (w : List ℕ) (ws more : List (List ℕ)) → join_with_byte 32 (w ∷ ws) ++ spaced more ≡ join_with_byte 32 ((w ∷ ws) ++ more)
joined-more w [] more = one-more w more
joined-more w (next ∷ ws) more =
    append_assoc w (32 ∷ join_with_byte 32 (next ∷ ws)) (spaced more)
    ∙ ap (λ rest. w ++ (32 ∷ rest)) (joined-more next ws more)

-- the words of a step after those of its protocol
step-joined : (protocol : List ℕ) (step : Initialisation) → join_with_byte 32 (protocol ∷ step_words step) ≡ protocol ++ (codes " " ++ join_with_byte 32 (step_words step))
step-joined protocol InitialisationRequest = refl
step-joined protocol StartInitialisation = refl
step-joined protocol InitialisationCompleted = refl
step-joined protocol (VersionCheck version) = refl
step-joined protocol (VersionAnswer agreement version) = refl

pub step-added : (protocol : List ℕ) (step : Initialisation) (old one two new : List ℕ)
    → one ≡ old ++ protocol → two ≡ one ++ codes " " → new ≡ two ++ join_with_byte 32 (step_words step) → new ≡ old ++ join_with_byte 32 (protocol ∷ step_words step)
step-added protocol step old one two new first second third =
    third ∙ ap (λ t. t ++ join_with_byte 32 (step_words step)) (second ∙ ap (λ t. t ++ codes " ") first)
    ∙ append_assoc (old ++ protocol) (codes " ") (join_with_byte 32 (step_words step))
    ∙ append_assoc old protocol (codes " " ++ join_with_byte 32 (step_words step))
    ∙ ap (λ t. old ++ t) (sym (step-joined protocol step))

-- a message has a first word
pub record Begins (words : List (List ℕ)) : Type 0 where
  pub first : List ℕ
  pub others : List (List ℕ)
  pub is : words ≡ first ∷ others

pub message-begins : (message : Message) → Begins (message_words message)
message-begins (says.Initialisation protocol InitialisationRequest) = record { first = _; others = _; is = refl }
message-begins (says.Initialisation protocol StartInitialisation) = record { first = _; others = _; is = refl }
message-begins (says.Initialisation protocol InitialisationCompleted) = record { first = _; others = _; is = refl }
message-begins (says.Initialisation protocol (VersionCheck version)) = record { first = _; others = _; is = refl }
message-begins (says.Initialisation protocol (VersionAnswer agreement version)) = record { first = _; others = _; is = refl }
message-begins (says.Point (MovePoint side)) = record { first = _; others = _; is = refl }
message-begins (says.Point (PointPosition position)) = record { first = _; others = _; is = refl }
message-begins (says.Point Timeout) = record { first = _; others = _; is = refl }
message-begins (says.Signal (IndicateAspect aspect)) = record { first = _; others = _; is = refl }
message-begins (says.Signal (IndicatedAspect aspect)) = record { first = _; others = _; is = refl }
message-begins (says.Detection (OccupancyStatus occupancy)) = record { first = _; others = _; is = refl }

-- words after a message
message-more : (message : Message) (more : List (List ℕ)) → join_with_byte 32 (message_words message) ++ spaced more ≡ join_with_byte 32 (message_words message ++ more)
message-more message more =
    let begins = message-begins message in
    subst (λ words. join_with_byte 32 words ++ spaced more ≡ join_with_byte 32 (words ++ more)) (sym begins.is) (joined-more begins.first begins.others more)

spaced-append : (some more : List (List ℕ)) → spaced some ++ spaced more ≡ spaced (some ++ more)
spaced-append [] more = refl
spaced-append (w ∷ ws) more = append_assoc (32 ∷ w) (spaced ws) (spaced more) ∙ ap (λ rest. (32 ∷ w) ++ rest) (spaced-append ws more)

-- a message, and the words of two names after it
pub names-added : (message : Message) (from to : List (List ℕ)) (old said one two : List ℕ)
    → said ≡ old ++ join_with_byte 32 (message_words message) → one ≡ said ++ spaced from → two ≡ one ++ spaced to
    → two ≡ old ++ join_with_byte 32 (message_words message ++ (from ++ to))
names-added message from to old said one two e f g =
    g ∙ ap (λ t. t ++ spaced to) (f ∙ ap (λ t. t ++ spaced from) e)
    ∙ append_assoc (old ++ join_with_byte 32 (message_words message)) (spaced from) (spaced to)
    ∙ append_assoc old (join_with_byte 32 (message_words message)) (spaced from ++ spaced to)
    ∙ ap (λ t. old ++ t) (ap (λ t. join_with_byte 32 (message_words message) ++ t) (spaced-append from to) ∙ message-more message (from ++ to))

-- ---- items one after the other

-- one more is added
pub one-added : (text_of : List ℕ → List ℕ) (items : List (List ℕ)) (place : ℕ) (one old new whole : List ℕ) → place < length items → one ≡ get_or items place one
    → new ≡ old ++ text_of one → old ++ flat_map text_of (drop place items) ≡ whole → new ++ flat_map text_of (drop (place + 1) items) ≡ whole
one-added text_of items place one old new whole below at is before =
    let rest = flat_map text_of (drop (place + 1) items) in
    let split : drop place items ≡ one ∷ drop (place + 1) items = drop_more items place one below ∙ ap (λ item. item ∷ drop (place + 1) items) (sym at) in
    ap (λ text. text ++ rest) is ∙ append_assoc old (text_of one) rest ∙ ap (λ left. old ++ flat_map text_of left) (sym split) ∙ before

-- none is left
pub all-added : (text_of : List ℕ → List ℕ) (items : List (List ℕ)) (place : ℕ) (now whole : List ℕ) → length items ≤ place
    → now ++ flat_map text_of (drop place items) ≡ whole → now ≡ whole
all-added text_of items place now whole past before =
    sym (append-nil now) ∙ ap (λ left. now ++ flat_map text_of left) (sym (drop_all place items past)) ∙ before
