use Rattle.std.proofs.Common.{◌≡◌, map, string_bytes, take}
use Rattle.station_layout.proofs.lines.csv_line.Given as goal

abbrev pub invariant-loop-cell : goal.invariant-loop-cell
invariant-loop-cell l = map (λ field. field.now) l.fields.items ≡ map string_bytes (take l.cell-index l.cells)
