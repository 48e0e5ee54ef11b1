-- Lines of numbers that were written are read.
use Rattle.std.proofs.Common.{◌≡◌, ◌∙◌, ℕ, suc, ◌+◌, ◌-◌, ◌^◌, ◌<◌, ◌≤◌, ◌&&◌, Bool, true, false, cond, List, [], ◌∷◌, ◌++◌, length, ltb, take, drop, refl, sym, ap, append_assoc, arith}
use Rattle.std.specs.Prelude.{Result, Ok, Err, codes}
use Rattle.std.specs.Char.{is_ascii_digit}
use Rattle.std.specs.Fmt.{decimal as written}
use Rattle.std.specs.List.{list_all, slice_split}
use Rattle.std.specs.Str.{IsAscii, IsUtf8, all_ascii_digits}
use Rattle.std.specs.Str.Parse.{digits_value}
use Rattle.std.proofs.lemmas.Bool.{cond-true, ltb-true, ltb-false}
use Rattle.std.proofs.lemmas.Bool.Decides.{nat_tests}
use Rattle.std.proofs.lemmas.Fmt.{digits_decimal}
use Rattle.std.proofs.lemmas.List.{length-append, take-append-le, drop_at}
use Rattle.std.proofs.lemmas.Str.Parse.{IsNumeralModel, numerals_by_value, tells_all_ascii_digits}
use Rattle.closings.specs.Words.{is_plain}
use Rattle.replay_words.specs.Read.{decimal}
use Rattle.replay_words.specs.declared.fault.Fault.{Fault}
use Rattle.closings_file.specs.declared.fault.FileFault.{FileFault}
use Rattle.closings_file.specs.declared.fault.FileFault.TheVariants.{CutOff, Damaged}
use Rattle.closings_file.specs.Texts.{begin_with, ends_line, number_line, number_or_damage, number_read, number_said, number_then}
use Rattle.closings_file.proofs.Begins.{begins_so}
use Rattle.closings_file.proofs.Bytes.{parts_of, plain_take, plain_text, split_line, split_plain}
use Rattle.closings_file.proofs.Lines.{take_more}

both : (a b : Bool) → (a && b) ≡ true → (a ≡ true) × (b ≡ true)
both true b e = (refl, e)
both false b e = absurd (cc (e))

-- ---- digits

digit_plain : (b : ℕ) → is_ascii_digit b ≡ true → is_plain b ≡ true
digit_plain b e = grind (arith, nat_tests)

pub digits_plain : (word : List ℕ) → all_ascii_digits word ≡ true → list_all is_plain word ≡ true
digits_plain [] e = refl
digits_plain (b ∷ word) e =
    let parts = both (is_ascii_digit b) (all_ascii_digits word) e in
    ap (λ v. v && list_all is_plain word) (digit_plain b parts.0) ∙ digits_plain word parts.1

own : IsNumeralModel (λ ds. all_ascii_digits ds ≡ true) (digits_value 10)
own = numerals_by_value _ tells_all_ascii_digits

written_plain : (n : ℕ) → n < 2 ^ 64 → list_all is_plain (written n) ≡ true
written_plain n below = digits_plain (written n) (digits_decimal own n below)

-- what is no text spells no number
pub no_number : (digits : List ℕ) → (IsUtf8 digits → ⊥) → Err Damaged ≡ number_or_damage (decimal digits)
no_number digits never = by (all_ascii_digits digits) refl
  where
    by : (v : Bool) → all_ascii_digits digits ≡ v → Err Damaged ≡ number_or_damage (decimal digits)
    by true e = absurd (never (plain_text digits (digits_plain digits e)))
    by false e = grind (arith, e)

-- ---- a line, whole and cut off

-- what stands before a number
pub record IsLabel (label : List ℕ) : Type 0 where
  pub plain : (word : List ℕ) → list_all is_plain word ≡ true → list_all is_plain (label ++ word) ≡ true

-- what laws of words say of numbers
abbrev pub AreReadAgain : Type 0
AreReadAgain = (n : ℕ) → n < 2 ^ 64 → decimal (written n) ≡ Ok n

line_apart : (label : List ℕ) (n : ℕ) (rest : List ℕ) → number_line label n ++ rest ≡ (label ++ written n) ++ 10 ∷ rest
line_apart label n rest =
    append_assoc label (written n ++ codes "\n") rest
    ∙ ap (λ (t : List ℕ). label ++ t) (append_assoc (written n) (codes "\n") rest)
    ∙ sym (append_assoc label (written n) (10 ∷ rest))

said_again : (label : List ℕ) (n : ℕ) → AreReadAgain → n < 2 ^ 64 → number_said label (label ++ written n) ≡ Ok n
said_again label n again below =
    cond-true (begin_with label (label ++ written n)) _ _ (begins_so label (written n))
    ∙ ap (λ (digits : List ℕ). number_or_damage (decimal digits)) (drop_at label (written n) (length label) refl)
    ∙ ap number_or_damage (again n below)

-- a line that a text has, and what stands behind it
pub number_line_read : {T : Type 0} (label text line rest : List ℕ) (behind : ℕ → List (List ℕ) → Result T FileFault) → slice_split ends_line text ≡ line ∷ slice_split ends_line rest
    → number_read label (slice_split ends_line text) behind ≡ number_then (number_said label line) (λ number. behind number (slice_split ends_line rest))
number_line_read label text line rest behind split =
    let parts = parts_of rest in
    ap (λ (p : List (List ℕ)). number_read label p behind) split
    ∙ ap (λ (p : List (List ℕ)). number_read label (line ∷ p) behind) parts.are
    ∙ ap (λ (p : List (List ℕ)). number_then (number_said label line) (λ number. behind number p)) (sym parts.are)

module _ {T : Type 0} (label : List ℕ) (is : IsLabel label) (again : AreReadAgain) (n : ℕ) (below : n < 2 ^ 64) (behind : ℕ → List (List ℕ) → Result T FileFault) where
  abbrev line : List ℕ
  line = label ++ written n

  line_plain : list_all is_plain line ≡ true
  line_plain = is.plain (written n) (written_plain n below)

  -- a whole line, and what stands behind it
  whole : (rest : List ℕ) → number_read label (slice_split ends_line (line ++ 10 ∷ rest)) behind ≡ behind n (slice_split ends_line rest)
  whole rest =
      number_line_read label (line ++ 10 ∷ rest) line rest behind (split_line line rest line_plain)
      ∙ ap (λ (said : Result ℕ FileFault). number_then said (λ number. behind number (slice_split ends_line rest))) (said_again label n again below)

  pub number_again : (rest : List ℕ) → number_read label (slice_split ends_line (number_line label n ++ rest)) behind ≡ behind n (slice_split ends_line rest)
  number_again rest = ap (λ (text : List ℕ). number_read label (slice_split ends_line text) behind) (line_apart label n rest) ∙ whole rest

  -- Cut off, it is told to be so, or what stands behind it is cut off.
  pub number_cut : (rest : List ℕ) (count : ℕ) → count < length (number_line label n ++ rest)
      → ((fewer : ℕ) → fewer < length rest → behind n (slice_split ends_line (take fewer rest)) ≡ Err CutOff)
      → number_read label (slice_split ends_line (take count (number_line label n ++ rest))) behind ≡ Err CutOff
  number_cut rest count less cut =
      ap (λ (text : List ℕ). number_read label (slice_split ends_line (take count text)) behind) (line_apart label n rest)
      ∙ by (ltb (length line) count) refl
    where
      all : length (number_line label n ++ rest) ≡ length line + (length rest + 1)
      all = ap length (line_apart label n rest) ∙ omega (arith, length-append line (10 ∷ rest))

      by : (beyond : Bool) → ltb (length line) count ≡ beyond → number_read label (slice_split ends_line (take count (line ++ 10 ∷ rest))) behind ≡ Err CutOff
      by true beyond =
          let past : length line < count = ltb-true (length line) count beyond in
          let fewer : ℕ = count - (length line + 1) in
          let within : fewer < length rest = omega (arith, all, less, past) in
          ap (λ (text : List ℕ). number_read label (slice_split ends_line text) behind) (take_more line (10 ∷ rest) (suc fewer) count (omega (arith, within)) (omega (arith, past)))
          ∙ whole (take fewer rest)
          ∙ cut fewer within
      by false beyond =
          let inside : count ≤ length line = ltb-false (length line) count beyond in
          ap (λ (text : List ℕ). number_read label (slice_split ends_line text) behind) (take-append-le count line (10 ∷ rest) inside)
          ∙ ap (λ (p : List (List ℕ)). number_read label p behind) (split_plain (take count line) (plain_take line count line_plain))
