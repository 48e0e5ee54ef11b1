-- The names of the files of ends.
use Rattle.std.specs.Prelude.{ℕ, List, ◌++◌, codes}

-- of the end of a line at a station
abbrev pub end_file_name : (line station : List ℕ) → List ℕ
end_file_name line station = line ++ (codes "." ++ (station ++ codes ".end"))
