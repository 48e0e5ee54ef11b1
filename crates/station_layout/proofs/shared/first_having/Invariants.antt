use Rattle.std.proofs.Common.{◌≡◌, drop}
use Rattle.station_layout.specs.Search.{first_of}
use Rattle.station_layout.specs.SharedAdvice.{place_having}
use Rattle.station_layout.proofs.shared.first_having.Given as goal

abbrev pub invariant-loop-table : goal.invariant-loop-table
invariant-loop-table l = first_of (place_having l.written l.what) (drop l.table-index l.tables) ≡ first_of (place_having l.written l.what) l.tables
