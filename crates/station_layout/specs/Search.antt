-- The first of several where something is found.
use Rattle.std.specs.Prelude.{List, [], ◌∷◌, Option, None}
use Rattle.std.specs.Option.{option_or}
use Rattle.control_table.specs.layout.declared.port.Port.{Port}

-- among these items
abbrev pub first_of : {A R : Type 0} → (A → Option R) → List A → Option R
first_of found [] = None
first_of found (x ∷ xs) = option_or (found x) (first_of found xs)

-- among the steps of a path, from a port on
abbrev pub first_step : {R : Type 0} → (Port → Port → Option R) → Port → List Port → Option R
first_step found before [] = None
first_step found before (left ∷ path) = option_or (found before left) (first_step found left path)
