-- What a word tells, by a table of words.
use Rattle.std.specs.Prelude.{ℕ, if◌then◌else◌, List, [], ◌∷◌, Option, Some, None}
use Rattle.std.specs.Borrow.{Bor}
use Rattle.std.specs.Str.{bytes_eq}

-- what the first row of the word has
abbrev pub told_by : {T : Type 0} → List ℕ → List (Bor (List ℕ) × T) → Option T
told_by word [] = None
told_by word (row ∷ more) = if bytes_eq word row.0.now then Some row.1 else told_by word more
