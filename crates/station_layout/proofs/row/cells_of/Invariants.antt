use Rattle.std.proofs.Common.{string_bytes}
use Rattle.station_layout.proofs.Columns.{AreFirst}
use Rattle.station_layout.proofs.row.cells_of.Given as goal

abbrev pub invariant-loop-column : goal.invariant-loop-column
invariant-loop-column l = AreFirst string_bytes l.table l.id l.entry l.column-index l.texts.items
