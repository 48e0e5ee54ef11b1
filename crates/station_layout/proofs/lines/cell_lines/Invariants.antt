use Rattle.station_layout.proofs.Tables.{IsBegun}
use Rattle.station_layout.specs.inside.CellLines.{cells_in}
use Rattle.station_layout.proofs.lines.cell_lines.Given as goal

abbrev pub invariant-loop-place : goal.invariant-loop-place
invariant-loop-place l = IsBegun l.table l.place (cells_in l.lines.items)
