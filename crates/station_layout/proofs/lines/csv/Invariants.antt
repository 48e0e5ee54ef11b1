use Rattle.std.proofs.Common.{◌≡◌, ◌++◌, [], take}
use Rattle.std.specs.List.{flat_map}
use Rattle.csv.specs.Writing.{default_writer, row_text}
use Rattle.station_layout.specs.inside.CellLines.{cells_in}
use Rattle.station_layout.proofs.lines.csv.Given as goal

abbrev pub invariant-loop-line : goal.invariant-loop-line
invariant-loop-line l = l.text.items ≡ [] ++ flat_map (row_text default_writer) (take l.line-index (cells_in l.lines))
