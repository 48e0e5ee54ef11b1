-- What is read is spelled so, and what is spelled so is read.
use Rattle.std.proofs.Common.{◌≡◌, ℕ, zero, suc, ◌+◌, ◌<◌, ◌≤◌, ◌^◌, not, eqb, ltb, List, [], ◌∷◌, ◌++◌, length, take, drop, slice_index, Ok, refl, sym, ap, ◌∙◌, subst, arith, lit<}
use Rattle.std.specs.Int.{w16, to_le_bytes}
use Rattle.std.proofs.lemmas.Bool.{ltb-false, le-ltb, eqb-true, eq-eqb, not-false, cond-false}
use Rattle.std.proofs.lemmas.List.{get_or-drop, append_assoc, take_at, drop_at, drop-drop, take-append-drop, length-append}
use Rattle.std.proofs.lemmas.Nat.{le_bytes_2, from_le_bytes-to_le_bytes_2}
use Rattle.rasta_pdu.specs.Items.{IsItem}
use Rattle.rasta_pdu.specs.Values.{IsBytes}
use Rattle.sci_telegram.specs.declared.fault.SciFault.TheVariants as faults
use Rattle.sci_telegram.specs.declared.message.Message.{Message}
use Rattle.sci_telegram.specs.declared.telegram.Telegram.{Telegram}
use Rattle.sci_telegram.specs.Names.{IsName, name_field}
use Rattle.sci_telegram.specs.Messages.{protocol_of, protocol_byte, type_number, payload}
use Rattle.sci_telegram.specs.Telegrams.{IsMessage, IsTelegram, Spells, writing}
use Rattle.sci_telegram.specs.TelegramRead.{protocol_field, type_field, sender_field, receiver_field, payload_field, protocol_at, kind_at, payload_length, name_spelled, message_in, telegram_in, reading}
use Rattle.sci_telegram.specs.Faults.{HasType}
use Rattle.sci_telegram.proofs.Steps.{ok_is, bind_ok, bind_some, guard_ok}
use Rattle.sci_telegram.proofs.NameFields.{spelled_takes, spelled_again, length-name_field}
use Rattle.sci_telegram.proofs.Tables.{protocol_takes, protocol_again, kind_of, number_again, row_fits, row_length_fits, kind_takes, kind_again, length_again, message_takes, message_again, message_fits}

-- the fields, one behind another
unfoldable glued : ℕ → List ℕ → List ℕ → List ℕ → List ℕ → List ℕ
glued protocol number sender receiver payload = (protocol ∷ []) ++ number ++ sender ++ receiver ++ payload

-- ---- what is spelled so is read

number_fits : (m : Message) → type_number m < 2 ^ 16
number_fits m = subst (λ (n : ℕ). n < 2 ^ 16) (sym (number_again m)) (row_fits (kind_of m))

sender_at : (s r p : List ℕ) → length s ≡ 20 → take 20 ((s ++ r) ++ p) ≡ s
sender_at s r p h = rw append_assoc (take_at s (r ++ p) 20 h)

receiver_at : (s r p : List ℕ) → length s ≡ 20 → length r ≡ 20 → take 20 (drop 20 ((s ++ r) ++ p)) ≡ r
receiver_at s r p hs hr = ap (λ (xs : List ℕ). take 20 (drop 20 xs)) (append_assoc s r p) ∙ ap (take 20) (drop_at s (r ++ p) 20 hs) ∙ take_at r p 20 hr

payload_at : (s r p : List ℕ) → length s ≡ 20 → length r ≡ 20 → drop 40 ((s ++ r) ++ p) ≡ p
payload_at s r p hs hr = drop_at (s ++ r) p 40 (omega (arith, length-append s r))

-- reading, where each field is known
reading_of : (bytes s r : List ℕ) (m : Message) → 43 ≤ length bytes → HasType bytes m → IsName s → IsName r → sender_field bytes ≡ name_field s → receiver_field bytes ≡ name_field r → payload_field bytes ≡ payload m → reading bytes ≡ Ok (record { sender = s; receiver = r; message = m })
unfolding reading telegram_in
reading_of bytes s r m long has name_s name_r sender_is receiver_is payload_is =
    let length_is : length (payload_field bytes) ≡ payload_length (kind_of m) = ap length payload_is ∙ length_again m in
    cond-false (ltb (length bytes) 43) _ _ (le-ltb (length bytes) 43 long)
    ∙ bind_some (protocol_at (protocol_field bytes)) faults.Protocol _ (protocol_of m) (ap protocol_at has.protocol ∙ protocol_again (protocol_of m))
    ∙ bind_some (kind_at (protocol_of m) (type_field bytes)) faults.BadType _ (kind_of m) (ap (kind_at (protocol_of m)) has.type_number ∙ kind_again m)
    ∙ cond-false (not (eqb (length (payload_field bytes)) (payload_length (kind_of m)))) _ _ (ap not (eq-eqb _ _ length_is))
    ∙ bind_some (name_spelled (sender_field bytes)) faults.Name _ s (ap name_spelled sender_is ∙ spelled_again s name_s)
    ∙ bind_some (name_spelled (receiver_field bytes)) faults.Name _ r (ap name_spelled receiver_is ∙ spelled_again r name_r)
    ∙ bind_some (message_in (protocol_of m) (kind_of m) (payload_field bytes)) faults.Value _ m (ap (message_in (protocol_of m) (kind_of m)) payload_is ∙ message_again m)

-- bytes that spell a telegram are read as it
pub read_again : (t : Telegram) → IsTelegram t → reading (writing t) ≡ Ok t
unfolding writing
read_again t h =
    let s = name_field t.sender in
    let r = name_field t.receiver in
    let p = payload t.message in
    let s_20 = length-name_field t.sender h.sender in
    let r_20 = length-name_field t.receiver h.receiver in
    reading_of (writing t) t.sender t.receiver t.message
    (omega (arith, length-append (s ++ r) p, length-append s r))
    (record { protocol = refl; type_number = from_le_bytes-to_le_bytes_2 (type_number t.message) (number_fits t.message) })
    h.sender h.receiver (sender_at s r p s_20) (receiver_at s r p s_20 r_20) (payload_at s r p s_20 r_20)

-- ---- what is read is spelled so

halved : (rest : List ℕ) → rest ≡ take 20 rest ++ take 20 (drop 20 rest) ++ drop 40 rest
halved rest =
    sym (take-append-drop 20 rest)
    ∙ ap (λ (xs : List ℕ). take 20 rest ++ xs) (sym (take-append-drop 20 (drop 20 rest)))
    ∙ sym (append_assoc (take 20 rest) (take 20 (drop 20 rest)) (drop 20 (drop 20 rest)))
    ∙ ap (λ (xs : List ℕ). take 20 rest ++ take 20 (drop 20 rest) ++ xs) (drop-drop 20 20 rest)

-- bytes are their fields, one behind another
cut : (bytes : List ℕ) → 43 ≤ length bytes → bytes ≡ glued (protocol_field bytes) (slice_index bytes 1 ∷ slice_index bytes 2 ∷ []) (sender_field bytes) (receiver_field bytes) (payload_field bytes)
unfolding glued
cut [] h = absurd (omega (arith, h))
cut (a ∷ []) h = absurd (omega (arith, h))
cut (a ∷ b ∷ []) h = absurd (omega (arith, h))
cut (a ∷ b ∷ c ∷ rest) h = ap (λ (xs : List ℕ). a ∷ b ∷ c ∷ xs) (halved rest)

writing_glued : (t : Telegram) → writing t ≡ glued (protocol_byte (protocol_of t.message)) (to_le_bytes w16 (type_number t.message)) (name_field t.sender) (name_field t.receiver) (payload t.message)
unfolding writing glued
writing_glued t = refl

two_are_bytes : (bytes : List ℕ) → IsBytes bytes → IsBytes (slice_index bytes 1 ∷ slice_index bytes 2 ∷ [])
two_are_bytes bytes h zero = h 1
two_are_bytes bytes h (suc zero) = h 2
two_are_bytes bytes h (suc (suc i)) = lit< tt

-- what stands from a place on
rest_are_bytes : (n : ℕ) (bytes : List ℕ) → IsBytes bytes → IsBytes (drop n bytes)
rest_are_bytes n bytes h i = rw (get_or-drop n bytes i 0) (h (n + i))

-- bytes whose fields are those of a telegram spell it
written_by_fields : (bytes : List ℕ) (t : Telegram) → IsBytes bytes → 43 ≤ length bytes → HasType bytes t.message → sender_field bytes ≡ name_field t.sender → receiver_field bytes ≡ name_field t.receiver → payload_field bytes ≡ payload t.message → bytes ≡ writing t
written_by_fields bytes t fits long has sender_is receiver_is payload_is =
    let number_is : slice_index bytes 1 ∷ slice_index bytes 2 ∷ [] ≡ to_le_bytes w16 (type_number t.message) = sym (le_bytes_2 _ (type_number t.message) refl (two_are_bytes bytes fits) (sym has.type_number)) in
    let protocol_is : protocol_field bytes ≡ protocol_byte (protocol_of t.message) = has.protocol in
    let parts = cut bytes long in
    let whole = writing_glued t in
    cc

-- what is read of bytes is a telegram, and they spell it
pub read_takes : (bytes : List ℕ) (t : Telegram) → IsBytes bytes → reading bytes ≡ Ok t → IsTelegram t × (bytes ≡ writing t)
unfolding reading telegram_in
read_takes bytes t fits e =
    let long = guard_ok (ltb (length bytes) 43) faults.Short _ t e in
    let protocol = bind_ok (protocol_at (protocol_field bytes)) faults.Protocol _ t long.1 in
    let kind = bind_ok (kind_at protocol.0 (type_field bytes)) faults.BadType _ t protocol.2 in
    let sized = guard_ok (not (eqb (length (payload_field bytes)) (payload_length kind.0))) faults.Length _ t kind.2 in
    let sender = bind_ok (name_spelled (sender_field bytes)) faults.Name _ t sized.1 in
    let receiver = bind_ok (name_spelled (receiver_field bytes)) faults.Name _ t sender.2 in
    let message = bind_ok (message_in protocol.0 kind.0 (payload_field bytes)) faults.Value _ t receiver.2 in
    let made : Telegram = record { sender = sender.0; receiver = receiver.0; message = message.0 } in
    let same : made ≡ t = ok_is made t message.2 in
    let row = kind_takes protocol.0 (type_field bytes) kind.0 kind.1 in
    let carries = message_takes protocol.0 kind.0 (payload_field bytes) message.0 (eqb-true _ _ (not-false _ sized.0)) message.1 in
    let sender_is = spelled_takes (sender_field bytes) sender.0 sender.1 in
    let receiver_is = spelled_takes (receiver_field bytes) receiver.0 receiver.1 in
    let has : HasType bytes message.0 = record { protocol = protocol_takes _ protocol.0 protocol.1 ∙ ap protocol_byte (sym (carries.protocol ∙ row.1)); type_number = row.0 ∙ sym carries.number } in
    let is_message : IsMessage message.0 = message_fits message.0 (subst IsBytes carries.bytes_are (rest_are_bytes 43 bytes fits)) in
    subst (λ (u : Telegram). IsTelegram u × (bytes ≡ writing u)) {x = made} same (
      record { sender = sender_is.0; receiver = receiver_is.0; message = is_message },
      written_by_fields bytes made fits (ltb-false (length bytes) 43 long.0) has sender_is.1 receiver_is.1 carries.bytes_are,
    )

-- ---- what a spelling is

pub length-writing : (t : Telegram) → IsTelegram t → length (writing t) ≡ 43 + length (payload t.message)
unfolding writing
length-writing t h =
    let s = name_field t.sender in
    let r = name_field t.receiver in
    omega (arith, length-append (s ++ r) (payload t.message), length-append s r, length-name_field t.sender h.sender, length-name_field t.receiver h.receiver)

pub writing_is_long : (t : Telegram) → IsTelegram t → 43 ≤ length (writing t)
writing_is_long t h = omega (arith, length-writing t h)

-- it fits an item
pub writing_is_item : (t : Telegram) → IsTelegram t → IsItem (writing t)
writing_is_item t h =
    let short : length (payload t.message) ≤ 18 = rw (length_again t.message) (row_length_fits (kind_of t.message)) in
    record { some = omega (arith, length-writing t h); most = omega (arith, length-writing t h) }

-- no bytes spell two telegrams
pub one_telegram : (t u : Telegram) (bytes : List ℕ) → Spells t bytes → Spells u bytes → t ≡ u
one_telegram t u bytes of_t of_u =
    ok_is t u (sym (read_again t of_t.0) ∙ ap reading (sym of_t.1 ∙ of_u.1) ∙ read_again u of_u.0)
