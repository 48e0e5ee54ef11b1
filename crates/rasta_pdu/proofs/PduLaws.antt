-- A whole text: what is read is spelled so, and what is spelled so is read.
use Rattle.std.proofs.Common.{◌≡◌, ℕ, ◌+◌, ◌^◌, ◌≤◌, ◌<◌, List, ◌++◌, length, drop, Result, Ok, refl, sym, ap, subst, ◌∙◌, arith}
use Rattle.std.specs.Int.{w16, w32, from_le_bytes, to_le_bytes}
use Rattle.std.proofs.lemmas.List.{drop-drop, length-drop, length-append}
use Rattle.std.proofs.lemmas.Nat.{from_le_bytes-to_le_bytes_2, from_le_bytes-to_le_bytes_4}
use Rattle.rasta_pdu.specs.declared.body.Opening.{Opening}
use Rattle.rasta_pdu.specs.declared.body.Body.{Body}
use Rattle.rasta_pdu.specs.declared.body.Body.TheVariants.{ConnectionRequest, ConnectionResponse, RetransmissionRequest, RetransmissionResponse, DisconnectionRequest, Heartbeat, Data, RetransmittedData}
use Rattle.rasta_pdu.specs.declared.fault.PduFault.{PduFault}
use Rattle.rasta_pdu.specs.declared.pdu.Pdu.{Pdu}
use Rattle.rasta_pdu.specs.Values.{IsBody, IsOpening, IsPdu}
use Rattle.rasta_pdu.specs.Spelling.{fields, opening_bytes, payload, text, type_of}
use Rattle.rasta_pdu.specs.PduRead.{◌>>=◌, body_of, pdu_of, u16_at, u32_at}
use Rattle.rasta_pdu.proofs.Steps.{bind_ok, ok_is}
use Rattle.rasta_pdu.specs.Values.{IsBytes}
use Rattle.rasta_pdu.proofs.Bytes.{IsBytes-drop, front_16, front_32, below_32}
use Rattle.rasta_pdu.proofs.ItemsLaws.{length-payload}
use Rattle.rasta_pdu.proofs.TypeLaws.{body_found, body_again}

-- ---- lengths

length-opening : (opening : Opening) → IsOpening opening → length (opening_bytes opening) ≡ 14
length-opening opening is =
    omega (arith, length-append (opening.version ++ to_le_bytes w16 opening.window) opening.reserved, length-append opening.version (to_le_bytes w16 opening.window), is.version, is.reserved)

pub payload_most : (body : Body) → IsBody body → length (payload body) ≤ 189
unfolding payload
payload_most (ConnectionRequest opening) is = omega (arith, length-opening opening is)
payload_most (ConnectionResponse opening) is = omega (arith, length-opening opening is)
payload_most RetransmissionRequest is = omega arith
payload_most RetransmissionResponse is = omega arith
payload_most (DisconnectionRequest detail reason) is = omega arith
payload_most Heartbeat is = omega arith
payload_most (Data items) is = length-payload items is
payload_most (RetransmittedData items) is = length-payload items is

pub length-text : (pdu : Pdu) → length (text pdu) ≡ 28 + length (payload pdu.body)
unfolding text fields
length-text pdu = omega arith

pub type_small : (body : Body) → type_of body < 2 ^ 16
type_small (ConnectionRequest opening) = omega arith
type_small (ConnectionResponse opening) = omega arith
type_small RetransmissionRequest = omega arith
type_small RetransmissionResponse = omega arith
type_small (DisconnectionRequest detail reason) = omega arith
type_small Heartbeat = omega arith
type_small (Data items) = omega arith
type_small (RetransmittedData items) = omega arith

-- ---- what is read is spelled so

chunk_16 : (place : ℕ) (bytes rest : List ℕ) → IsBytes bytes → place + 2 ≤ length bytes → drop (place + 2) bytes ≡ rest → drop place bytes ≡ to_le_bytes w16 (u16_at place bytes) ++ rest
chunk_16 place bytes rest fits long e =
    front_16 (drop place bytes) (IsBytes-drop place bytes fits) (omega (arith, length-drop place bytes))
    ∙ ap (λ (x : List ℕ). to_le_bytes w16 (u16_at place bytes) ++ x) (drop-drop 2 place bytes ∙ e)

chunk_32 : (place : ℕ) (bytes rest : List ℕ) → IsBytes bytes → place + 4 ≤ length bytes → drop (place + 4) bytes ≡ rest → drop place bytes ≡ to_le_bytes w32 (u32_at place bytes) ++ rest
chunk_32 place bytes rest fits long e =
    front_32 (drop place bytes) (IsBytes-drop place bytes fits) (omega (arith, length-drop place bytes))
    ∙ ap (λ (x : List ℕ). to_le_bytes w32 (u32_at place bytes) ++ x) (drop-drop 4 place bytes ∙ e)

-- the six numbers after length and type, and what follows them
numbers_and : List ℕ → List ℕ → List ℕ
numbers_and bytes rest =
    to_le_bytes w32 (u32_at 4 bytes) ++ (to_le_bytes w32 (u32_at 8 bytes) ++ (to_le_bytes w32 (u32_at 12 bytes)
    ++ (to_le_bytes w32 (u32_at 16 bytes) ++ (to_le_bytes w32 (u32_at 20 bytes) ++ (to_le_bytes w32 (u32_at 24 bytes) ++ rest)))))

numbers_there : (bytes : List ℕ) → IsBytes bytes → 28 ≤ length bytes → drop 4 bytes ≡ numbers_and bytes (drop 28 bytes)
unfolding numbers_and
numbers_there bytes fits long =
    chunk_32 4 bytes _ fits (omega arith) (
    chunk_32 8 bytes _ fits (omega arith) (
    chunk_32 12 bytes _ fits (omega arith) (
    chunk_32 16 bytes _ fits (omega arith) (
    chunk_32 20 bytes _ fits (omega arith) (
    chunk_32 24 bytes _ fits (omega arith) refl)))))

all_there : (bytes : List ℕ) → IsBytes bytes → 28 ≤ length bytes → bytes ≡ to_le_bytes w16 (from_le_bytes w16 bytes) ++ (to_le_bytes w16 (u16_at 2 bytes) ++ numbers_and bytes (drop 28 bytes))
all_there bytes fits long =
    chunk_16 0 bytes _ fits (omega arith) (chunk_16 2 bytes _ fits (omega arith) (numbers_there bytes fits long))

-- the value that a text with this body has
abbrev value_of : List ℕ → Body → Pdu
value_of bytes body = record {
  receiver = u32_at 4 bytes;
  sender = u32_at 8 bytes;
  sequence_number = u32_at 12 bytes;
  confirmed_sequence_number = u32_at 16 bytes;
  time_stamp = u32_at 20 bytes;
  confirmed_time_stamp = u32_at 24 bytes;
  body = body;
}

value_text : (bytes : List ℕ) (body : Body) → text (value_of bytes body) ≡ to_le_bytes w16 (length (payload body) + 36) ++ (to_le_bytes w16 (type_of body) ++ numbers_and bytes (payload body))
unfolding text fields numbers_and
value_text bytes body = refl

u32_below : (place : ℕ) (bytes : List ℕ) → IsBytes bytes → u32_at place bytes < 2 ^ 32
u32_below place bytes fits = below_32 (drop place bytes) (IsBytes-drop place bytes fits)

value_fits : (bytes : List ℕ) (body : Body) → IsBytes bytes → IsBody body → IsPdu (value_of bytes body)
value_fits bytes body fits is = record {
  receiver = u32_below 4 bytes fits;
  sender = u32_below 8 bytes fits;
  sequence_number = u32_below 12 bytes fits;
  confirmed_sequence_number = u32_below 16 bytes fits;
  time_stamp = u32_below 20 bytes fits;
  confirmed_time_stamp = u32_below 24 bytes fits;
  body = is;
}

spelled_by : (bytes : List ℕ) (length_is number : ℕ) (rest : List ℕ) → from_le_bytes w16 bytes ≡ length_is → u16_at 2 bytes ≡ number → drop 28 bytes ≡ rest
    → to_le_bytes w16 (from_le_bytes w16 bytes) ++ (to_le_bytes w16 (u16_at 2 bytes) ++ numbers_and bytes (drop 28 bytes)) ≡ to_le_bytes w16 length_is ++ (to_le_bytes w16 number ++ numbers_and bytes rest)
spelled_by bytes length_is number rest a b c =
    ap (λ (n : ℕ). to_le_bytes w16 n ++ (to_le_bytes w16 (u16_at 2 bytes) ++ numbers_and bytes (drop 28 bytes))) a
    ∙ ap (λ (n : ℕ). to_le_bytes w16 length_is ++ (to_le_bytes w16 n ++ numbers_and bytes (drop 28 bytes))) b
    ∙ ap (λ (x : List ℕ). to_le_bytes w16 length_is ++ (to_le_bytes w16 number ++ numbers_and bytes x)) c

pub pdu_found : (bytes : List ℕ) (pdu : Pdu) → IsBytes bytes → 28 ≤ length bytes → from_le_bytes w16 bytes ≡ length bytes + 8 → pdu_of bytes ≡ Ok pdu → IsPdu pdu × (bytes ≡ text pdu)
unfolding pdu_of
pdu_found bytes pdu fits long length_right e =
    let a = bind_ok (body_of (u16_at 2 bytes) (drop 28 bytes)) (λ body. Ok (value_of bytes body)) pdu e in
    let f = body_found (u16_at 2 bytes) (drop 28 bytes) a.0 (IsBytes-drop 28 bytes fits) a.1 in
    let len : from_le_bytes w16 bytes ≡ length (payload a.0) + 36 = omega (arith, length_right, length-drop 28 bytes, ap length f.spelled) in
    let whole : bytes ≡ text (value_of bytes a.0) = all_there bytes fits long ∙ spelled_by bytes (length (payload a.0) + 36) (type_of a.0) (payload a.0) len (sym f.number_is) f.spelled ∙ sym (value_text bytes a.0) in
    subst (λ (p : Pdu). IsPdu p × (bytes ≡ text p)) (ok_is (value_of bytes a.0) pdu a.2) (value_fits bytes a.0 fits f.fits, whole)

-- the sender of what is read, whatever its bytes are
pub sender_found : (bytes : List ℕ) (pdu : Pdu) → pdu_of bytes ≡ Ok pdu → u32_at 8 bytes ≡ pdu.sender
unfolding pdu_of
sender_found bytes pdu e =
    let a = bind_ok (body_of (u16_at 2 bytes) (drop 28 bytes)) (λ body. Ok (value_of bytes body)) pdu e in
    ap (λ (p : Pdu). p.sender) (ok_is (value_of bytes a.0) pdu a.2)

-- ---- what is spelled so is read

same_value : (pdu : Pdu) (a b c d e f : ℕ) → a ≡ pdu.receiver → b ≡ pdu.sender → c ≡ pdu.sequence_number → d ≡ pdu.confirmed_sequence_number → e ≡ pdu.time_stamp → f ≡ pdu.confirmed_time_stamp
    → record { receiver = a; sender = b; sequence_number = c; confirmed_sequence_number = d; time_stamp = e; confirmed_time_stamp = f; body = pdu.body } ≡ pdu
same_value pdu a b c d e f ea eb ec ed ee ef = rw (ea, eb, ec, ed, ee, ef) refl

number_again : (pdu : Pdu) → u16_at 2 (text pdu) ≡ type_of pdu.body
unfolding text fields
number_again pdu = from_le_bytes-to_le_bytes_2 (type_of pdu.body) (type_small pdu.body)

payload_again : (pdu : Pdu) → drop 28 (text pdu) ≡ payload pdu.body
unfolding text fields
payload_again pdu = refl

value_again : (pdu : Pdu) → IsPdu pdu → value_of (text pdu) pdu.body ≡ pdu
unfolding text fields
value_again pdu is = same_value pdu _ _ _ _ _ _
    (from_le_bytes-to_le_bytes_4 pdu.receiver is.receiver)
    (from_le_bytes-to_le_bytes_4 pdu.sender is.sender)
    (from_le_bytes-to_le_bytes_4 pdu.sequence_number is.sequence_number)
    (from_le_bytes-to_le_bytes_4 pdu.confirmed_sequence_number is.confirmed_sequence_number)
    (from_le_bytes-to_le_bytes_4 pdu.time_stamp is.time_stamp)
    (from_le_bytes-to_le_bytes_4 pdu.confirmed_time_stamp is.confirmed_time_stamp)

pub pdu_again : (pdu : Pdu) → IsPdu pdu → pdu_of (text pdu) ≡ Ok pdu
unfolding pdu_of
pdu_again pdu is =
    let body : body_of (u16_at 2 (text pdu)) (drop 28 (text pdu)) ≡ Ok pdu.body = ap (λ (n : ℕ). body_of n (drop 28 (text pdu))) (number_again pdu) ∙ ap (body_of (type_of pdu.body)) (payload_again pdu) ∙ body_again pdu.body is.body in
    ap (λ (r : Result Body PduFault). r >>= λ body. Ok (value_of (text pdu) body)) body ∙ ap (λ (p : Pdu). Ok p) (value_again pdu is)

-- the length that a text begins with, whatever follows it
pub length_again : (pdu : Pdu) (rest : List ℕ) → IsPdu pdu → from_le_bytes w16 (text pdu ++ rest) ≡ length (payload pdu.body) + 36
unfolding text fields
length_again pdu rest is = from_le_bytes-to_le_bytes_2 (length (payload pdu.body) + 36) (omega (arith, payload_most pdu.body is.body))
