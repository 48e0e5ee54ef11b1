use Rattle.std.proofs.Common.{◌≡◌, ◌++◌, map, string_bytes}
use Rattle.station_layout.specs.Lines.{barred, cell_at, joined, padded, width_of}
use Rattle.station_layout.specs.inside.CellLines.{cells_in}
use Rattle.station_layout.proofs.lines.add_markdown.Given as goal

abbrev pub invariant-loop-place : goal.invariant-loop-place
invariant-loop-place l =
    l.text.items ≡ l.fn.text.items ++ joined l.place (λ place. barred (padded (width_of (cells_in l.lines) place) (cell_at place (map string_bytes l.line))))
