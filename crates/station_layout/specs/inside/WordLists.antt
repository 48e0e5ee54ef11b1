-- A word among those of a list.
use Rattle.std.specs.Borrow.{Bor}
use Rattle.std.specs.Prelude.{ℕ, List, [], ◌∷◌, Bool, false, ◌||◌}
use Rattle.std.specs.Str.{bytes_eq}

abbrev pub is_among : List (Bor (List ℕ)) → List ℕ → Bool
is_among [] word = false
is_among (known ∷ words) word = bytes_eq word known.now || is_among words word
