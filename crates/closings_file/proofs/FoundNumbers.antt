-- What a file says to be counted are numbers of 64 bits.
use Rattle.std.proofs.Common.{◌≡◌, ℕ, ◌^◌, ◌<◌, Bool, true, false, cond, List, [], ◌∷◌, length, drop, Option, Some, None, refl, arith}
use Rattle.std.specs.Prelude.{Result, Ok, Err, codes}
use Rattle.std.specs.Bool.{⊤}
use Rattle.std.specs.List.{slice_split}
use Rattle.std.proofs.lemmas.Bool.Decides.{nat_tests}
use Rattle.closings.specs.layout.Entries.{Site}
use Rattle.closings.specs.declared.auxiliary.AuxiliaryCounts.{AuxiliaryCounts}
use Rattle.closings.specs.declared.closed.Closings.{Closings}
use Rattle.closings.specs.Auxiliaries.{AreNumbers}
use Rattle.closings.specs.Closed.{nothing}
use Rattle.replay_words.specs.Read.{decimal}
use Rattle.replay_words.specs.declared.fault.Fault.{Fault}
use Rattle.closings_file.specs.declared.fault.FileFault.{FileFault}
use Rattle.closings_file.specs.declared.fault.FileFault.TheVariants.{Damaged}
use Rattle.closings_file.specs.declared.found.Said.{Said}
use Rattle.closings_file.specs.Files.{found_in, found_of}
use Rattle.closings_file.specs.Texts.{all_read, begin_with, ends_line, fault_of, lines_read, number_or_damage, number_read, number_said, number_then, opens_read, reading, said_with}

abbrev IsSmall : {E : Type 0} → Result ℕ E → Type 0
IsSmall (Ok n) = n < 2 ^ 64
IsSmall (Err e) = ⊤

abbrev HasNumbers : Result Said FileFault → Type 0
HasNumbers (Ok said) = AreNumbers said.counts
HasNumbers (Err fault) = ⊤

decimal_small : (word : List ℕ) → IsSmall (decimal word)
decimal_small word = by (decimal word) refl
  where
    by : (r : Result ℕ Fault) → decimal word ≡ r → IsSmall r
    by (Ok n) e = grind (arith, nat_tests, e)
    by (Err f) e = tt

number_small : (label line : List ℕ) → IsSmall (number_said label line)
number_small label line = by (begin_with label line)
  where
    spelled : (r : Result ℕ Fault) → IsSmall r → IsSmall (number_or_damage r)
    spelled (Ok n) small = small
    spelled (Err f) small = tt

    by : (v : Bool) → IsSmall (cond v (number_or_damage (decimal (drop (length label) line))) (Err Damaged))
    by true = spelled (decimal (drop (length label) line)) (decimal_small (drop (length label) line))
    by false = tt

read_numbers : (label : List ℕ) (parts : List (List ℕ)) (behind : ℕ → List (List ℕ) → Result Said FileFault)
    → ((n : ℕ) (rest : List (List ℕ)) → n < 2 ^ 64 → HasNumbers (behind n rest)) → HasNumbers (number_read label parts behind)
read_numbers label [] behind has = tt
read_numbers label (line ∷ []) behind has = tt
read_numbers label (line ∷ part ∷ parts) behind has = by (number_said label line) (number_small label line)
  where
    by : (said : Result ℕ FileFault) → IsSmall said → HasNumbers (number_then said (λ number. behind number (part ∷ parts)))
    by (Ok n) small = has n (part ∷ parts) small
    by (Err f) small = tt

with_numbers : (counts : AuxiliaryCounts) (c : Result Closings FileFault) → AreNumbers counts → HasNumbers (said_with counts c)
with_numbers counts (Ok c) are = are
with_numbers counts (Err f) are = tt

all_numbers : (l : Site) (parts : List (List ℕ)) → HasNumbers (all_read l parts)
all_numbers l parts =
    read_numbers (codes "counted release ") parts (opens_read l)
    (λ releases behind small. read_numbers (codes "counted open ") behind
    (λ opens last. said_with (record { releases = releases; opens = opens }) (lines_read l last nothing))
    (λ opens last fits. with_numbers (record { releases = releases; opens = opens }) (lines_read l last nothing) (record { releases = small; opens = fits })))

reading_numbers : (l : Site) (head bytes : List ℕ) → HasNumbers (reading l head bytes)
reading_numbers l head bytes = by (begin_with head bytes)
  where
    by : (v : Bool) → HasNumbers (cond v (all_read l (slice_split ends_line (drop (length head) bytes))) (Err (fault_of head bytes)))
    by true = all_numbers l (slice_split ends_line (drop (length head) bytes))
    by false = tt

pub found_numbers : (l : Site) (head : List ℕ) (bytes : Option (List ℕ)) → AreNumbers (found_in l head bytes).counts
found_numbers l head None = record { releases = omega arith; opens = omega arith }
found_numbers l head (Some bytes) = by (reading l head bytes) (reading_numbers l head bytes)
  where
    by : (said : Result Said FileFault) → HasNumbers said → AreNumbers (found_of l said).counts
    by (Ok said) has = has
    by (Err f) has = record { releases = omega arith; opens = omega arith }
