-- Standard input among the files that a command reads.
use Rattle.std.specs.Prelude.{ℕ, Bool, List, codes, count_by}
use Rattle.std.specs.Str.{bytes_eq}

-- a hyphen names it
abbrev pub is_input : List ℕ → Bool
is_input file = bytes_eq file (codes "-")

abbrev pub inputs_among : List (List ℕ) → ℕ
inputs_among files = count_by is_input files
