use Rattle.std.proofs.Common.{◌≡◌, ◌++◌, IsUtf8, codes, drop, string_bytes}
use Rattle.station_layout.specs.Names.{spaced}
use Rattle.station_layout.specs.Row.{section_names}
use Rattle.station_layout.specs.inside.Joined.{joined}
use Rattle.station_layout.proofs.cells.sections_cell.Given as goal

abbrev pub invariant-loop-section : goal.invariant-loop-section
invariant-loop-section l =
    IsUtf8 l.before
    × (string_bytes l.cell ++ joined l.before (codes " ") (section_names l.layout (drop l.section-index l.sections)) ≡ spaced (section_names l.layout l.sections))
