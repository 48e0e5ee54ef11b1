-- Texts that are added one after the other.
use Rattle.std.specs.Prelude.{ℕ, Bool, List, [], ◌∷◌, ◌++◌}
use Rattle.std.specs.Borrow.{Bor}
use Rattle.station_layout.specs.Reasons.{word_if}

-- texts with one text before the first, and another before each that follows
abbrev pub joined : List ℕ → List ℕ → List (List ℕ) → List ℕ
joined before between [] = []
joined before between (text ∷ texts) = before ++ (text ++ joined between between texts)

-- what stands before the next one after these
abbrev pub next_before : List ℕ → List ℕ → List (List ℕ) → List ℕ
next_before before between [] = before
next_before before between (text ∷ texts) = between

-- the words of the rows that hold
abbrev pub words_held : List (Bool × Bor (List ℕ)) → List (List ℕ)
words_held [] = []
words_held (row ∷ rows) = word_if row.0 row.1.now ++ words_held rows
