-- How a text is cut into lines, and a line into words.
use Rattle.std.specs.Prelude.{ℕ, ◌==◌, if◌then◌else◌, Bool, true, false, Option, Some, None, List, [], ◌∷◌, length, codes, Result, Ok, Err}
use Rattle.std.specs.List.{slice_split, before_first, after_first, position_or_len, list_any}
use Rattle.std.specs.Borrow.{Bor}
use Rattle.std.specs.Str.{bytes_eq}
use Rattle.replay_words.specs.declared.fault.Fault.{Fault}
use Rattle.replay_words.specs.declared.fault.Fault.TheVariants.{Words}

-- the words of a line, parted by single spaces: a second space, or one at an end, makes an empty word
abbrev pub words : List ℕ → List (List ℕ)
words line = slice_split (λ b. b == 32) line

-- what is left of the words of a line
abbrev pub words_left : Option (Bor (List ℕ)) → List (List ℕ)
words_left (Some text) = words text.now
words_left None = []

-- the word that parts an event and its answer
abbrev pub is_equals : List ℕ → Bool
is_equals word = bytes_eq word (codes "=")

-- the words before the first `=`
abbrev pub before_equals : List (List ℕ) → List (List ℕ)
before_equals [] = []
before_equals (word ∷ more) = if is_equals word then [] else word ∷ before_equals more

-- the words behind the first `=`
abbrev pub behind_equals : List (List ℕ) → List (List ℕ)
behind_equals [] = []
behind_equals (word ∷ more) = if is_equals word then more else behind_equals more

-- all words, or those before the first `=`
abbrev pub up_to_equals : Bool → List (List ℕ) → List (List ℕ)
up_to_equals true words = before_equals words
up_to_equals false words = words

-- the words of an event and those of its answer, which the first `=` parts
abbrev pub event_and_answer : List (List ℕ) → Result (List (List ℕ) × List (List ℕ)) Fault
event_and_answer words =
    if list_any is_equals words then Ok (before_equals words, behind_equals words) else Err Words

-- parts without an empty one at the end
abbrev pub without_empty_last : List (List ℕ) → List (List ℕ)
without_empty_last [] = []
without_empty_last (part ∷ []) = if length part == 0 then [] else part ∷ []
without_empty_last (part ∷ next ∷ parts) = part ∷ without_empty_last (next ∷ parts)

-- the lines of a text, each ended by a line feed, which the last may lack
abbrev pub lines : List ℕ → List (List ℕ)
lines text = without_empty_last (slice_split (λ b. b == 10) text)

-- whether a line is no event line: an empty one, or a comment behind a number sign
abbrev pub is_passed_over : List ℕ → Bool
is_passed_over [] = true
is_passed_over (first ∷ rest) = first == 35

-- a word `NAME=NUMBER`, parted at its first equals sign
abbrev pub name_and_number : List ℕ → Result (List ℕ × List ℕ) Fault
name_and_number word =
    if position_or_len (λ b. b == 61) word == length word then Err Words
    else Ok (before_first (λ b. b == 61) word, after_first (λ b. b == 61) word)
