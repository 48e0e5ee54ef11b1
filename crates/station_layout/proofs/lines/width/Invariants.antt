use Rattle.std.proofs.Common.{◌≡◌, fold, length, max, take}
use Rattle.station_layout.specs.Lines.{cell_at}
use Rattle.station_layout.specs.inside.CellLines.{cells_in}
use Rattle.station_layout.proofs.lines.width.Given as goal

abbrev pub invariant-loop-line : goal.invariant-loop-line
invariant-loop-line l = l.width ≡ fold (λ width line. max width (length (cell_at l.place line))) 0 (take l.line-index (cells_in l.lines))
