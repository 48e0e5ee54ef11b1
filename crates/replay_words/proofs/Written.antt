-- What is written is read again.
use Rattle.std.proofs.Common.{◌≡◌, ℕ, zero, suc, ◌+◌, ◌^◌, ◌<◌, ◌==◌, ◌/◌, ◌%◌, ◌&&◌, Bool, true, false, not, cond, if◌then◌else◌, List, [], ◌∷◌, ◌++◌, length, take, drop, get_or, length-append, Result, Ok, Err, refl, ap, ◌∙◌, arith}
use Rattle.std.specs.Fmt.{decimal as written}
use Rattle.std.specs.Char.{is_ascii_digit}
use Rattle.std.specs.Str.{all_ascii_digits}
use Rattle.std.specs.Str.Parse.{digits_value}
use Rattle.std.specs.List.{All, AllByRecursion, join_with_byte, position_or_len}
use Rattle.std.proofs.lemmas.Bool.Decides.{nat_tests}
use Rattle.std.proofs.lemmas.Str.Parse.{IsNumeralModel, numerals_by_value, tells_all_ascii_digits}
use Rattle.std.proofs.lemmas.Fmt.{digits_decimal, digits_value-decimal, decimal_nonempty}
use Rattle.std.proofs.lemmas.List.Elements.{All-from_recursion}
use Rattle.std.proofs.lemmas.List.Splits.{slice_split_at, slice_split_none}
use Rattle.std.proofs.Math.Seq.{take-append_seam, drop-append-add}
use Rattle.hex.specs.Hex.{encode_lower, encode_with, lower_digits}
use Rattle.replay_words.specs.declared.fault.Fault.{Fault}
use Rattle.replay_words.specs.declared.fault.Fault.TheVariants.{Words as Unknown}
use Rattle.replay_words.specs.Cut.{words, name_and_number}
use Rattle.replay_words.specs.Read.{decimal, hex_word}
use Rattle.replay_words.specs.Words.{are_words, is_without}
use Rattle.replay_words.proofs.Spelled.{hex_word-some}

-- both of two tests that pass together
pub both : (a b : Bool) → (a && b) ≡ true → (a ≡ true) × (b ≡ true)
both true b e = (refl, e)
both false b e = cc

fails : (v : Bool) → not v ≡ true → v ≡ false
fails true e = cc
fails false e = refl

-- each byte is another
each_other : (byte : ℕ) (word : List ℕ) → is_without byte word ≡ true → AllByRecursion (λ b. (b == byte) ≡ false) word
each_other byte [] e = tt
each_other byte (b ∷ word) e =
    let both_pass = both (not (b == byte)) (is_without byte word) e in
    (fails (b == byte) both_pass.0, each_other byte word both_pass.1)

others : (byte : ℕ) (word : List ℕ) → is_without byte word ≡ true → All (λ b. (b == byte) ≡ false) word
others byte word e = All-from_recursion (λ b. (b == byte) ≡ false) word (each_other byte word e)

pub joined : (ws : List (List ℕ)) → 0 < length ws → are_words ws ≡ true → words (join_with_byte 32 ws) ≡ ws
joined [] some e = absurd (omega arith)
joined (w ∷ []) some e = slice_split_none (λ b. b == 32) w (others 32 w (both (is_without 32 w) true e).0)
joined (w ∷ next ∷ ws) some e =
    let both_pass = both (is_without 32 w) (are_words (next ∷ ws)) e in
    slice_split_at (λ b. b == 32) w 32 (join_with_byte 32 (next ∷ ws)) (others 32 w both_pass.0) refl
    ∙ ap (λ rest. w ∷ rest) (joined (next ∷ ws) (omega arith) both_pass.1)

own : IsNumeralModel (λ ds. all_ascii_digits ds ≡ true) (digits_value 10)
own = numerals_by_value _ tells_all_ascii_digits

-- digits are read as their value
digits_read : (word : List ℕ) (n : ℕ) → all_ascii_digits word ≡ true → 0 < length word → digits_value 10 word ≡ n → n < 2 ^ 64 → decimal word ≡ Ok n
digits_read word n digits some value below = grind arith

pub number_read : (n : ℕ) → n < 2 ^ 64 → decimal (written n) ≡ Ok n
number_read n below =
    digits_read (written n) n (digits_decimal own n below) (decimal_nonempty n below) (digits_value-decimal own n below) below

-- digits are no spaces
digits_word : (word : List ℕ) → all_ascii_digits word ≡ true → is_without 32 word ≡ true
digits_word [] e = refl
digits_word (b ∷ word) e =
    let both_pass = both (is_ascii_digit b) (all_ascii_digits word) e in
    passes (b == 32) (no_space b both_pass.0) (digits_word word both_pass.1)
  where
    no_space : (b : ℕ) → is_ascii_digit b ≡ true → (b == 32) ≡ false
    no_space b e = grind (arith, nat_tests)

    passes : (v : Bool) → v ≡ false → is_without 32 word ≡ true → (not v && is_without 32 word) ≡ true
    passes true e h = cc
    passes false e h = h

pub number_word : (n : ℕ) → n < 2 ^ 64 → is_without 32 (written n) ≡ true
number_word n below = digits_word (written n) (digits_decimal own n below)

-- the first equals sign is the one behind the name
at_equals : (name number : List ℕ) → is_without 61 name ≡ true → position_or_len (λ b. b == 61) (name ++ 61 ∷ number) ≡ length name
at_equals [] number e = refl
at_equals (b ∷ name) number e =
    let both_pass = both (not (b == 61)) (is_without 61 name) e in
    one (b == 61) (fails (b == 61) both_pass.0) (position_or_len (λ b. b == 61) (name ++ 61 ∷ number)) (at_equals name number both_pass.1)
  where
    one : (v : Bool) → v ≡ false → (k : ℕ) → k ≡ length name → cond (not v) (1 + k) 0 ≡ length (b ∷ name)
    one true e k h = cc
    one false e k h = omega arith

-- a word parted at a place
abbrev pub both_sides : List ℕ → List ℕ → Result (List ℕ × List ℕ) Fault
both_sides name number = Ok (name, number)

abbrev pub parted : List ℕ → ℕ → Result (List ℕ × List ℕ) Fault
parted word place = if place == length word then Err Unknown else both_sides (take place word) (drop (place + 1) word)

pub sides_read : (name number : List ℕ) → is_without 61 name ≡ true → name_and_number (name ++ 61 ∷ number) ≡ Ok (name, number)
sides_read name number e =
    ap (parted (name ++ 61 ∷ number)) (at_equals name number e)
    ∙ within (length name == length (name ++ 61 ∷ number)) (grind (arith, nat_tests, length-append)) _
    ∙ ap (λ side. both_sides side (drop (length name + 1) (name ++ 61 ∷ number))) (take-append_seam name (61 ∷ number))
    ∙ ap (both_sides name) (drop-append-add name (61 ∷ number) 1)
  where
    within : (v : Bool) → v ≡ false → (r : Result (List ℕ × List ℕ) Fault) → (if v then Err Unknown else r) ≡ r
    within true e r = cc
    within false e r = refl

-- no entry of a table without spaces is a space
no_space_at : (digits : List ℕ) (k : ℕ) → is_without 32 digits ≡ true → (get_or digits k 0 == 32) ≡ false
no_space_at [] k e = refl
no_space_at (d ∷ digits) zero e = fails (d == 32) (both (not (d == 32)) (is_without 32 digits) e).0
no_space_at (d ∷ digits) (suc k) e = no_space_at digits k (both (not (d == 32)) (is_without 32 digits) e).1

pub encode_lower-word : (bytes : List ℕ) → is_without 32 (encode_lower bytes) ≡ true
unfolding encode_with
encode_lower-word [] = refl
encode_lower-word (b ∷ rest) =
    two (get_or lower_digits (b / 16) 0 == 32) (get_or lower_digits (b % 16) 0 == 32)
    (no_space_at lower_digits (b / 16) refl) (no_space_at lower_digits (b % 16) refl) (encode_lower-word rest)
  where
    two : (v w : Bool) → v ≡ false → w ≡ false → is_without 32 (encode_lower rest) ≡ true
        → (not v && (not w && is_without 32 (encode_lower rest))) ≡ true
    two true w e f h = cc
    two false true e f h = cc
    two false false e f h = h

pub bytes_word : (bytes : List ℕ) → is_without 32 (hex_word bytes) ≡ true
bytes_word [] = refl
bytes_word (b ∷ bytes) = ap (is_without 32) (hex_word-some b bytes) ∙ encode_lower-word (b ∷ bytes)
