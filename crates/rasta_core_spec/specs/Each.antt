-- A fact of each element of a list.
use Rattle.std.specs.Prelude.{List, [], ◌∷◌}

abbrev pub Each : {X : Type 0} → (X → Type 0) → List X → Type 0
Each P [] = Unit {0}
Each P (first ∷ others) = P first × Each P others
