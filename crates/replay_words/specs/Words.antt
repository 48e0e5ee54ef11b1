-- Words of which a line can be made.
use Rattle.std.specs.Prelude.{ℕ, ◌==◌, not, Bool, List}
use Rattle.std.specs.List.{list_all}

-- the word has no such byte
abbrev pub is_without : ℕ → List ℕ → Bool
is_without byte word = list_all (λ b. not (b == byte)) word

-- the words have no spaces
abbrev pub are_words : List (List ℕ) → Bool
are_words words = list_all (is_without 32) words
