-- The two words of a list that has no others.
use Rattle.std.specs.Prelude.{ℕ, List, [], ◌∷◌, Option, Some, None}

abbrev pub two_words : List (List ℕ) → Option (List ℕ × List ℕ)
two_words (one ∷ other ∷ []) = Some (one, other)
two_words words = None
