-- Lines of cells as texts.
use Rattle.std.specs.Global.{Global}
use Rattle.std.specs.Prelude.{ℕ, List, String, Vec, map, string_bytes}
use Rattle.station_layout.specs.Lines.{Cells}

-- the cells of a line, and of lines
abbrev pub line_cells : Vec (String Global) Global → List (List ℕ)
line_cells line = map string_bytes line.items

abbrev pub cells_in : List (Vec (String Global) Global) → Cells
cells_in lines = map line_cells lines
