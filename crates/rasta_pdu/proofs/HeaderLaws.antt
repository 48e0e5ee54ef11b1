-- What the first bytes of a PDU say is what the PDU says.
use Rattle.std.proofs.Common.{◌≡◌, ℕ, ◌+◌, ◌-◌, ◌<◌, ◌==◌, List, length, get_or, drop, Ok, sym, ap, ◌∙◌, arith}
use Rattle.std.proofs.lemmas.List.{get_or-drop, get_or-take}
use Rattle.std.proofs.lemmas.Nat.{from_le_bytes-to_le_bytes_2, from_le_bytes-to_le_bytes_4}
use Rattle.std.specs.Int.{w32, from_le_bytes}
use Rattle.rasta_pdu.specs.declared.key.Key.{Key}
use Rattle.rasta_pdu.specs.declared.pdu.Pdu.{Pdu}
use Rattle.rasta_pdu.specs.Header.{AreOf, is_request, receiver_of, sender_of}
use Rattle.rasta_pdu.specs.PduRead.{pdu_of, reading, text_of}
use Rattle.rasta_pdu.specs.SafetyCode.{IsIntact, before_code}
use Rattle.rasta_pdu.specs.Spelling.{fields, text, type_of, writing}
use Rattle.rasta_pdu.proofs.CodecLaws.{text_found}
use Rattle.rasta_pdu.proofs.PduLaws.{sender_found, type_small}
use Rattle.rasta_pdu.proofs.Steps.{bind_ok}

pub receiver_written : (pdu : Pdu) (bytes : _) → AreOf pdu bytes → receiver_of bytes ≡ pdu.receiver
unfolding writing text fields
receiver_written pdu bytes are = ap receiver_of are.written ∙ from_le_bytes-to_le_bytes_4 pdu.receiver are.is.receiver

pub sender_written : (pdu : Pdu) (bytes : _) → AreOf pdu bytes → sender_of bytes ≡ pdu.sender
unfolding writing text fields
sender_written pdu bytes are = ap sender_of are.written ∙ from_le_bytes-to_le_bytes_4 pdu.sender are.is.sender

-- four bytes tell the number at the front
same_front : (xs ys : List ℕ) → ((i : ℕ) → i < 4 → get_or xs i 0 ≡ get_or ys i 0) → from_le_bytes w32 xs ≡ from_le_bytes w32 ys
same_front xs ys same =
    let at0 = same 0 (omega arith) in
    let at1 = same 1 (omega arith) in
    let at2 = same 2 (omega arith) in
    let at3 = same 3 (omega arith) in
    omega (arith, at0, at1, at2, at3)

-- intact bytes and their text tell the same sender
sender_kept : (key : Key) (bytes : List ℕ) → IsIntact key bytes → sender_of bytes ≡ sender_of (before_code bytes)
sender_kept key bytes is =
    let kept : (i : ℕ) → i < 28 → get_or (before_code bytes) i 0 ≡ get_or bytes i 0 = λ i small. get_or-take (length bytes - 8) bytes i 0 (omega (arith, is.long)) in
    same_front (drop 8 bytes) (drop 8 (before_code bytes)) (λ i small.
    get_or-drop 8 bytes i 0 ∙ sym (kept (8 + i) (omega arith)) ∙ sym (get_or-drop 8 (before_code bytes) i 0))

pub sender_read : (key : Key) (bytes : List ℕ) (pdu : Pdu) → reading key bytes ≡ Ok pdu → sender_of bytes ≡ pdu.sender
unfolding reading
sender_read key bytes pdu e =
    let a = bind_ok (text_of key bytes) pdu_of pdu e in
    let t = text_found key bytes a.0 a.1 in
    sender_kept key bytes t.0 ∙ sender_found (before_code bytes) pdu (ap pdu_of t.1 ∙ a.2)

pub request_written : (pdu : Pdu) (bytes : _) → AreOf pdu bytes → is_request bytes ≡ (type_of pdu.body == 6200)
unfolding writing text fields
request_written pdu bytes are = ap is_request are.written ∙ ap (λ (n : ℕ). n == 6200) (from_le_bytes-to_le_bytes_2 (type_of pdu.body) (type_small pdu.body))
