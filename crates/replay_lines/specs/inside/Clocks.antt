-- The text of the clocks in a line, clock by clock.
use Rattle.std.specs.Prelude.{ℕ, suc, ◌==◌, if◌then◌else◌, Option, Some, None, List, [], ◌∷◌, ◌++◌, slice_get}
use Rattle.std.specs.Fmt.{decimal}

-- the word of a clock that goes on otherwise than true time, after a space
abbrev pub clock_text : Option (List ℕ) → ℕ → ℕ → List ℕ
clock_text (Some name) elapsed step = if step == elapsed then [] else 32 ∷ (name ++ 61 ∷ decimal step)
clock_text None elapsed step = []

-- those of the nodes from a place on
abbrev pub clock_texts : List (List ℕ) → ℕ → ℕ → List ℕ → List ℕ
clock_texts names elapsed place [] = []
clock_texts names elapsed place (step ∷ steps) = clock_text (slice_get names place) elapsed step ++ clock_texts names elapsed (suc place) steps
