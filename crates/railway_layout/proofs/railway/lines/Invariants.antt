use Rattle.std.proofs.Common.{◌≡◌, map, take, Some}
use Rattle.railway_layout.specs.Ends.{line_of}
use Rattle.railway_layout.proofs.railway.lines.Given as goal

abbrev pub invariant-loop-line : goal.invariant-loop-line
invariant-loop-line l = map (line_of l.stations) (take l.line-index l.written) ≡ map Some l.lines.items
