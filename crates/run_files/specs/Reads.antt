-- Parts that are read again.
use Rattle.std.specs.Prelude.{◌==◌, ℕ, List, [], ◌∷◌, ◌++◌, Option, Some, None, option_and_then, codes, if◌then◌else◌}
use Rattle.std.specs.Fmt.{decimal}
use Rattle.run_files.specs.Parts.{ends_line}

-- a part behind a text, which has to end with a line
abbrev pub with_part : List ℕ → List ℕ → Option (List ℕ)
with_part text part = if ends_line text then Some (text ++ part) else None

abbrev pub read_on : List ℕ → List (List ℕ) → Option (List ℕ)
read_on text [] = Some text
read_on text (part ∷ parts) = option_and_then (λ longer. read_on longer parts) (with_part text part)

-- the text of parts
abbrev pub read_again : List (List ℕ) → Option (List ℕ)
read_again [] = None
read_again (part ∷ parts) = read_on part parts

-- the name of a part: the first has that of the record, the others their number behind it
abbrev pub part_name : List ℕ → ℕ → List ℕ
part_name record_name number = if number == 1 then record_name else record_name ++ codes "." ++ decimal number
