use Rattle.std.proofs.Common.{◌≡◌, ◌++◌, IsUtf8, codes, drop, string_bytes}
use Rattle.station_layout.specs.Names.{parted}
use Rattle.station_layout.specs.Row.{flank_texts}
use Rattle.station_layout.specs.inside.Joined.{joined}
use Rattle.station_layout.proofs.cells.flank_cell.Given as goal

abbrev pub invariant-loop-point : goal.invariant-loop-point
invariant-loop-point l =
    IsUtf8 l.before
    × (string_bytes l.cell ++ joined l.before (codes "; ") (flank_texts l.layout (drop l.point-index l.flank)) ≡ parted (flank_texts l.layout l.flank))
