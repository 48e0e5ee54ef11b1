-- What is told of a railway with which nothing is wrong: how many stations and lines it has, and each line with its ends.
use Rattle.std.specs.Prelude.{ℕ, List, ◌++◌, length, codes}
use Rattle.std.specs.Fmt.{decimal}
use Rattle.std.specs.List.{flat_map}
use Rattle.railway_layout.specs.Written.{EndText, LineText, RailwayText}

abbrev pub count_line : RailwayText → List ℕ
count_line railway = codes "ok: " ++ (decimal (length railway.stations) ++ (codes " stations, " ++ (decimal (length railway.lines) ++ codes " lines\n")))

-- the station and its border
abbrev pub end_words : EndText → List ℕ
end_words end = end.station ++ (codes " at " ++ end.border)

abbrev pub line_line : LineText → List ℕ
line_line line = codes "line " ++ (line.name ++ (codes ": " ++ (end_words line.first ++ (codes ", " ++ (end_words line.second ++ codes "\n")))))

abbrev pub line_lines : List LineText → List ℕ
line_lines lines = flat_map line_line lines

abbrev pub summary : RailwayText → List ℕ
summary railway = count_line railway ++ line_lines railway.lines
