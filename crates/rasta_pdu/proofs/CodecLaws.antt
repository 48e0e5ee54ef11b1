-- Reading and writing under a key: each undoes the other, and each fault is the first.
use Rattle.std.proofs.Common.{◌≡◌, ℕ, ◌-◌, ◌+◌, ◌≤◌, List, ◌++◌, length, get_or, Result, Ok, refl, sym, ap, ◌∙◌, arith}
use Rattle.std.specs.Prelude.{is_ok}
use Rattle.std.specs.Int.{w16, from_le_bytes}
use Rattle.std.proofs.lemmas.List.{take_at, drop_at, take-append-drop, get_or-take, length-take, length-append}
use Rattle.md4.specs.Md4.{digest}
use Rattle.rasta_pdu.specs.declared.fault.PduFault.{PduFault}
use Rattle.rasta_pdu.specs.declared.key.Key.{Key}
use Rattle.rasta_pdu.specs.declared.pdu.Pdu.{Pdu}
use Rattle.rasta_pdu.specs.Values.{IsPdu}
use Rattle.rasta_pdu.specs.SafetyCode.{IsIntact, code, before_code, last_8, length_field}
use Rattle.rasta_pdu.specs.Spelling.{payload, text, writing, Spells}
use Rattle.rasta_pdu.specs.PduRead.{◌>>=◌, pdu_of, reading, text_of}
use Rattle.rasta_pdu.proofs.Steps.{bind_ok, ok_is}
use Rattle.rasta_pdu.specs.Values.{IsBytes}
use Rattle.rasta_pdu.proofs.Bytes.{IsBytes-take}
use Rattle.rasta_pdu.proofs.Intact.{intact_reads, IsIntact-from_test, text_of-intact}
use Rattle.rasta_pdu.proofs.PduLaws.{payload_most, length-text, length_again, pdu_found, pdu_again}

-- ---- a text and its code

pub length-code : (key : Key) (bytes : List ℕ) → length (code key bytes) ≡ 8
unfolding code digest
length-code key bytes = refl

module _ (front code8 : List ℕ) (len : length code8 ≡ 8) where
  whole_length : length (front ++ code8) ≡ length front + 8
  whole_length = omega (arith, length-append front code8, len)

  before_code-append : before_code (front ++ code8) ≡ front
  before_code-append = take_at front code8 (length (front ++ code8) - 8) (omega (arith, whole_length))

  last_8-append : last_8 (front ++ code8) ≡ code8
  last_8-append = drop_at front code8 (length (front ++ code8) - 8) (omega (arith, whole_length))

module _ (key : Key) (pdu : Pdu) where
  pub length-writing : length (writing key pdu) ≡ length (payload pdu.body) + 36
  unfolding writing
  length-writing = omega (arith, whole_length (text pdu) (code key (text pdu)) (length-code key (text pdu)), length-text pdu)

  pub before_code-writing : before_code (writing key pdu) ≡ text pdu
  unfolding writing
  before_code-writing = before_code-append (text pdu) (code key (text pdu)) (length-code key (text pdu))

  last_8-writing : last_8 (writing key pdu) ≡ code key (text pdu)
  unfolding writing
  last_8-writing = last_8-append (text pdu) (code key (text pdu)) (length-code key (text pdu))

  length_field-writing : IsPdu pdu → length_field (writing key pdu) ≡ length (payload pdu.body) + 36
  unfolding writing
  length_field-writing is = length_again pdu (code key (text pdu)) is

-- ---- what was written is intact, and read again

pub writing_intact : (key : Key) (pdu : Pdu) → IsPdu pdu → IsIntact key (writing key pdu)
writing_intact key pdu is = record {
  long = omega (arith, length-writing key pdu);
  length_right = length_field-writing key pdu is ∙ sym (length-writing key pdu);
  code_right = last_8-writing key pdu ∙ ap (code key) (sym (before_code-writing key pdu));
}

pub writing_long : (key : Key) (pdu : Pdu) → 36 ≤ length (writing key pdu)
writing_long key pdu = omega (arith, length-writing key pdu)

pub writing_short : (key : Key) (pdu : Pdu) → IsPdu pdu → length (writing key pdu) ≤ 225
writing_short key pdu is = omega (arith, length-writing key pdu, payload_most pdu.body is.body)

pub reading_intact : (key : Key) (bytes : List ℕ) → IsIntact key bytes → reading key bytes ≡ pdu_of (before_code bytes)
unfolding reading
reading_intact key bytes is = ap (λ (r : Result (List ℕ) PduFault). r >>= pdu_of) (text_of-intact key bytes is)

pub reading_writing : (key : Key) (pdu : Pdu) → IsPdu pdu → reading key (writing key pdu) ≡ Ok pdu
reading_writing key pdu is = reading_intact key (writing key pdu) (writing_intact key pdu is) ∙ ap pdu_of (before_code-writing key pdu) ∙ pdu_again pdu is

-- ---- what is read is intact, and was written so

pub text_found : (key : Key) (bytes front : List ℕ) → text_of key bytes ≡ Ok front → IsIntact key bytes × (before_code bytes ≡ front)
text_found key bytes front e =
    let is = IsIntact-from_test key bytes (sym (intact_reads key bytes) ∙ ap is_ok e) in
    (is, ok_is (before_code bytes) front (sym (text_of-intact key bytes is) ∙ e))

before_length : (key : Key) (bytes : List ℕ) → IsIntact key bytes → length (before_code bytes) + 8 ≡ length bytes
before_length key bytes is = omega (arith, length-take (length bytes - 8) bytes, is.long)

before_field : (key : Key) (bytes : List ℕ) → IsIntact key bytes → from_le_bytes w16 (before_code bytes) ≡ length bytes
before_field key bytes is =
    let at0 : get_or (before_code bytes) 0 0 ≡ get_or bytes 0 0 = get_or-take (length bytes - 8) bytes 0 0 (omega (arith, is.long)) in
    let at1 : get_or (before_code bytes) 1 0 ≡ get_or bytes 1 0 = get_or-take (length bytes - 8) bytes 1 0 (omega (arith, is.long)) in
    omega (arith, is.length_right)

pub reading_found : (key : Key) (bytes : List ℕ) (pdu : Pdu) → IsBytes bytes → reading key bytes ≡ Ok pdu → IsPdu pdu × (bytes ≡ writing key pdu)
unfolding reading writing
reading_found key bytes pdu fits e =
    let a = bind_ok (text_of key bytes) pdu_of pdu e in
    let t = text_found key bytes a.0 a.1 in
    let len = before_length key bytes t.0 in
    let field = before_field key bytes t.0 in
    let f = pdu_found (before_code bytes) pdu (IsBytes-take (length bytes - 8) bytes fits) (omega (arith, len, t.0.long)) (omega (arith, len, field)) (ap pdu_of t.1 ∙ a.2) in
    let whole : bytes ≡ before_code bytes ++ code key (before_code bytes) = sym (take-append-drop (length bytes - 8) bytes) ∙ ap (λ (x : List ℕ). before_code bytes ++ x) t.0.code_right in
    (f.0, whole ∙ ap (λ (x : List ℕ). x ++ code key x) f.1)

pub reading_ok_intact : (key : Key) (bytes : List ℕ) (pdu : Pdu) → reading key bytes ≡ Ok pdu → IsIntact key bytes
unfolding reading
reading_ok_intact key bytes pdu e =
    let a = bind_ok (text_of key bytes) pdu_of pdu e in
    (text_found key bytes a.0 a.1).0

-- ---- no bytes spell two values, and no value has two spellings

pub one_value : (p q : Pdu) (bytes : List ℕ) → Spells p bytes → Spells q bytes → p ≡ q
one_value p q bytes a b = ok_is p q (sym (pdu_again p a.0) ∙ ap pdu_of (sym a.1 ∙ b.1) ∙ pdu_again q b.0)

pub one_spelling : (pdu : Pdu) (bytes others : List ℕ) → Spells pdu bytes → Spells pdu others → bytes ≡ others
one_spelling pdu bytes others a b = a.1 ∙ sym b.1
