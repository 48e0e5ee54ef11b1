-- What is wrong with the text of a railway that couldn't be read, in words.
use Rattle.std.specs.Prelude.{ℕ, ◌==◌, List, ◌++◌, codes, if◌then◌else◌}
use Rattle.std.specs.Fmt.{decimal}
use Rattle.railway_layout.specs.Advice.{text_advice}
use Rattle.railway_layout.specs.declared.fault.Place.{Place}
use Rattle.railway_layout.specs.declared.fault.Place.TheVariants.{Station, Line, First, Second}
use Rattle.railway_layout.specs.declared.fault.TextFault.{TextFault}
use Rattle.railway_layout.specs.declared.fault.TextFault.TheVariants.{Toml, MissingKey, WrongKind, OutOfMemory}

-- an entry under a key that has an array, counted from 1, or with 0 the key
abbrev pub listed_words : List ℕ → ℕ → List ℕ
listed_words key n = if n == 0 then codes "the key `" ++ (key ++ codes "`") else codes "entry " ++ (decimal n ++ (codes " of `" ++ (key ++ codes "`")))

-- an entry of a railway's text
abbrev pub entry_words : Place → List ℕ
entry_words (Station n) = listed_words (codes "station") n
entry_words (Line n) = listed_words (codes "line") n
entry_words (First n) = codes "`first` of " ++ listed_words (codes "line") n
entry_words (Second n) = codes "`second` of " ++ listed_words (codes "line") n

-- what an entry of a list has to be, or under its key the array of all
abbrev pub listed_form : ℕ → List ℕ → List ℕ
listed_form n form = if n == 0 then codes "an array of tables" else form

-- what a station, a line and an end have to be
abbrev pub station_form : List ℕ
station_form = codes "a table with `name`, up to 20 letters, digits and hyphens, and `layout`, the file of its layout"

abbrev pub line_form : List ℕ
line_form = codes "a table with `name`, up to 20 letters, digits and hyphens, and `first` and `second`, the tables of its two ends"

abbrev pub end_form : List ℕ
end_form = codes "a table with `station`, `border`, `lock` and `clear`, which are names, `part`, an array of names, and `id`, from 1 to 4294967295"

-- what has to stand at a place
abbrev pub entry_form : Place → List ℕ
entry_form (Station n) = listed_form n station_form
entry_form (Line n) = listed_form n line_form
entry_form (First n) = end_form
entry_form (Second n) = end_form

-- what is missing there
abbrev pub missing_of : ℕ → List ℕ
missing_of n = if n == 0 then codes "is missing" else codes "lacks a key"

abbrev pub missing_words : Place → List ℕ
missing_words (Station n) = missing_of n
missing_words (Line n) = missing_of n
missing_words (First n) = codes "is missing, or lacks a key"
missing_words (Second n) = codes "is missing, or lacks a key"

-- what is wrong with a text, and what has to stand there
abbrev pub text_words : TextFault → List ℕ
text_words (MissingKey at) = entry_words at ++ (codes " " ++ (missing_words at ++ (codes ": it has to be " ++ entry_form at)))
text_words (WrongKind at) = entry_words at ++ (codes " is or has a value of another kind or form: it has to be " ++ entry_form at)
text_words Toml = text_advice Toml
text_words OutOfMemory = text_advice OutOfMemory
