-- The items that data PDUs carry for the first time.
use Rattle.std.specs.Prelude.{ℕ, List, [], ◌∷◌, ◌++◌}
use Rattle.rasta_core_spec.specs.pdu.Pdu.{Pdu}
use Rattle.rasta_core_spec.specs.Given.{new_items}

abbrev pub carried : List Pdu → List (List ℕ)
carried [] = []
carried (first ∷ others) = new_items first.body ++ carried others
