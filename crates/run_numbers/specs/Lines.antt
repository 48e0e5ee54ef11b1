-- A number as a line tells it: `number NAME LABEL VALUE`.
use Rattle.std.specs.Prelude.{ℕ, ◌&&◌, if◌then◌else◌, List, [], ◌∷◌, codes, Result, Ok, Err}
use Rattle.std.specs.Fmt.{decimal as written}
use Rattle.std.specs.List.{join_with_byte}
use Rattle.std.specs.Str.{bytes_eq}
use Rattle.replay_words.specs.Fault.{◌>>=◌}
use Rattle.replay_words.specs.Read.{decimal}
use Rattle.replay_words.specs.declared.fault.Fault.{Fault}
use Rattle.replay_words.specs.declared.fault.Fault.TheVariants.{Name, Words}
use Rattle.run_numbers.specs.Rows.{label_of, name_of, rows}
use Rattle.run_numbers.specs.declared.row.Row.{Row}

-- ---- written

abbrev pub number_words : Row → ℕ → List (List ℕ)
number_words row value = codes "number" ∷ name_of row ∷ label_of row ∷ written value ∷ []

abbrev pub number_text : Row → ℕ → List ℕ
number_text row value = join_with_byte 32 (number_words row value)

-- ---- read

-- the first of these rows with this name and this label
abbrev pub row_among : List ℕ → List ℕ → List Row → Result Row Fault
row_among name label [] = Err Name
row_among name label (row ∷ more) = if bytes_eq name (name_of row) && bytes_eq label (label_of row) then Ok row else row_among name label more

abbrev pub row_said : List ℕ → List ℕ → Result Row Fault
row_said name label = row_among name label rows

-- the number that the words of a line tell, or their lowest fault
abbrev pub number_said : List (List ℕ) → Result (Row × ℕ) Fault
number_said (first ∷ name ∷ label ∷ value ∷ []) =
    if bytes_eq first (codes "number")
    then (do
      row ← row_said name label
      value ← decimal value
      Ok (row, value))
    else Err Words
number_said other = Err Words
