use Rattle.std.proofs.Common.{◌≡◌, map, string_bytes, take}
use Rattle.station_layout.specs.Lines.{cells, heads}
use Rattle.station_layout.proofs.lines.head_cells.Given as goal

abbrev pub invariant-loop-head : goal.invariant-loop-head
invariant-loop-head l = map string_bytes l.line.items ≡ take l.head-index (cells heads)
