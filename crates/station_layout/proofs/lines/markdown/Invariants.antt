use Rattle.std.proofs.Common.{◌≡◌, ◌++◌, take}
use Rattle.std.specs.List.{flat_map}
use Rattle.station_layout.specs.Lines.{markdown_line}
use Rattle.station_layout.specs.inside.CellLines.{cells_in}
use Rattle.station_layout.proofs.lines.markdown.Given as goal

abbrev pub invariant-loop-row : goal.invariant-loop-row
invariant-loop-row l = l.text.items ≡ l.initial.text.items ++ flat_map (markdown_line (cells_in l.lines)) (take l.row-index (cells_in l.rows))
