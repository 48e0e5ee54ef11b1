-- Numbers and bytes as words spell them.
use Rattle.std.proofs.Common.{Bool, false, ◌&&◌, ◌==◌, nat_lt, nat_le, codes, if◌then◌else◌, ◌≡◌, ◌⊎◌, ℕ, ◌*◌, ◌^◌, ◌/◌, ◌<◌, ◌≤◌, true, List, [], ◌∷◌, length, get_or, Result, Ok, Err, refl, ap, ◌∙◌, arith, inl, inr}
use Rattle.std.specs.Result.{OkIff, MatchResult}
use Rattle.std.specs.Str.{all_ascii_digits, bytes_eq}
use Rattle.std.specs.Str.Parse.{digits_value, ParsesUnsigned}
use Rattle.std.proofs.lemmas.Str.Parse.{IsNumeralModel, numerals_by_value, tells_all_ascii_digits, parse_plain}
use Rattle.hex.specs.declared.error.FromHexError.{FromHexError}
use Rattle.hex.specs.Hex.{decode_of, decode_sized, encode_lower, lower_digits, IsBytes}
use Rattle.hex.proofs.HexLemmas.{decode_of-ok, decode_of-encode_lower, length-encode_with}
use Rattle.std.proofs.lemmas.Bool.Decides.{nat_tests}
use Rattle.std.proofs.lemmas.Slice.Eq.{bytes_eq-Decides}
use Rattle.replay_words.specs.declared.fault.Fault.TheVariants.{Number, Hexadecimal}
use Rattle.replay_words.specs.Read.{decimal, hex_word, hexadecimal, hexadecimal_or_none, within_bounds}

-- a word that begins with a plus is no number
pub decimal-plus : (word : List ℕ) → get_or word 0 0 ≡ 43 → decimal word ≡ Err Number
decimal-plus [] h = absurd (omega arith)
decimal-plus (b ∷ word) h = rw h refl

own : IsNumeralModel (λ ds. all_ascii_digits ds ≡ true) (digits_value 10)
own = numerals_by_value _ tells_all_ascii_digits

-- what `parse` gives of a word without a plus
pub decimal-parse : {E : Type 0} (word : List ℕ) (r : Result ℕ E) → ParsesUnsigned 64 10 word r → (get_or word 0 0 ≡ 43 → ⊥)
    → MatchResult r (λ n. decimal word ≡ Ok n) (λ e. decimal word ≡ Err Number)
decimal-parse {E} word r h plain = answered r (parse_plain own 64 word r h plain)
  where
    answered : (r : Result ℕ E) → OkIff r ((all_ascii_digits word ≡ true) × (0 < length word) × (digits_value 10 word < 2 ^ 64)) (digits_value 10 word)
        → MatchResult r (λ n. decimal word ≡ Ok n) (λ e. decimal word ≡ Err Number)
    answered (Ok n) h = grind arith
    answered (Err e) h = grind arith

-- bytes outside the bounds are refused
pub within_bounds-outside : (r : Result (List ℕ) FromHexError)
    → ((bytes : List ℕ) → r ≡ Ok bytes → (length bytes ≡ 0) ⊎ (512 < length bytes)) → within_bounds r ≡ Err Hexadecimal
within_bounds-outside (Ok bytes) outside = grind (arith, outside bytes refl)
within_bounds-outside (Err e) outside = refl

-- a word too short or too long for the bounds is refused
pub hexadecimal-outside : (word : List ℕ) → (length word / 2 ≡ 0) ⊎ (512 < length word / 2) → hexadecimal word ≡ Err Hexadecimal
hexadecimal-outside word h =
    within_bounds-outside (decode_of word) (λ bytes e. counted bytes (decode_of-ok word bytes e).2 h)
  where
    counted : (bytes : List ℕ) → length word ≡ 2 * length bytes → (length word / 2 ≡ 0) ⊎ (512 < length word / 2) → (length bytes ≡ 0) ⊎ (512 < length bytes)
    counted bytes e (inl none) = inl (omega arith)
    counted bytes e (inr many) = inr (omega arith)

-- room for half the digits is the room that they need
pub decode_sized-half : (word : List ℕ) (n : ℕ) → length word / 2 ≡ n → decode_sized word n ≡ decode_of word
decode_sized-half word n h = grind arith

-- the digits of some bytes read back as the bytes
pub hexadecimal_or_none-encode_lower : (bytes : List ℕ) → 0 < length bytes → length bytes ≤ 512 → IsBytes bytes
    → hexadecimal_or_none (encode_lower bytes) ≡ Ok bytes
hexadecimal_or_none-encode_lower bytes some few small =
    no_hyphen (bytes_eq (encode_lower bytes) (codes "-"))
    (λ same. omega (arith, ap length ((bytes_eq-Decides (encode_lower bytes) (codes "-")).0 same), length-encode_with lower_digits bytes))
    ∙ ap within_bounds (decode_of-encode_lower bytes small)
    ∙ kept
  where
    no_hyphen : (b : Bool) → (b ≡ true → ⊥)
        → (if b then Ok [] else hexadecimal (encode_lower bytes)) ≡ hexadecimal (encode_lower bytes)
    no_hyphen true h = absurd (h refl)
    no_hyphen false h = refl

    kept : within_bounds (Ok bytes) ≡ Ok bytes
    kept = grind arith

-- the word for some bytes is their digits
pub hex_word-some : (b : ℕ) (bytes : List ℕ) → hex_word (b ∷ bytes) ≡ encode_lower (b ∷ bytes)
hex_word-some b bytes = by (length (b ∷ bytes) == 0) (grind (arith, nat_tests))
  where
    by : (v : Bool) → v ≡ false → (if v then codes "-" else encode_lower (b ∷ bytes)) ≡ encode_lower (b ∷ bytes)
    by true e = cc
    by false e = refl

-- it is read back
pub some_bytes_read : (bytes : List ℕ) → IsBytes bytes → 0 < length bytes → length bytes ≤ 512 → hexadecimal (hex_word bytes) ≡ Ok bytes
some_bytes_read [] small some few = absurd (omega arith)
some_bytes_read (b ∷ bytes) small some few =
    ap hexadecimal (hex_word-some b bytes) ∙ ap within_bounds (decode_of-encode_lower (b ∷ bytes) small)
    ∙ kept (nat_lt 0 (length (b ∷ bytes))) (nat_le (length (b ∷ bytes)) 512) (grind (arith, nat_tests)) (grind (arith, nat_tests))
  where
    kept : (v w : Bool) → v ≡ true → w ≡ true → (if v && w then Ok (b ∷ bytes) else Err Hexadecimal) ≡ Ok (b ∷ bytes)
    kept true true e f = refl
    kept true false e f = cc
    kept false w e f = cc

pub bytes_read : (bytes : List ℕ) → IsBytes bytes → length bytes ≤ 512 → hexadecimal_or_none (hex_word bytes) ≡ Ok bytes
bytes_read [] small few = refl
bytes_read (b ∷ bytes) small few =
    ap hexadecimal_or_none (hex_word-some b bytes) ∙ hexadecimal_or_none-encode_lower (b ∷ bytes) (omega arith) few small
