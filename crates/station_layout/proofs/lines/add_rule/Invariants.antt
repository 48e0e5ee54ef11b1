use Rattle.std.proofs.Common.{◌≡◌, ◌++◌, max, replicate}
use Rattle.station_layout.specs.Lines.{barred, joined, width_of}
use Rattle.station_layout.specs.inside.CellLines.{cells_in}
use Rattle.station_layout.proofs.lines.add_rule.Given as goal

abbrev pub invariant-loop-place : goal.invariant-loop-place
invariant-loop-place l = l.text.items ≡ l.fn.text.items ++ joined l.place (λ place. barred (replicate (max (width_of (cells_in l.lines) place) 3) 45))
