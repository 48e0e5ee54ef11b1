use Rattle.std.proofs.Common.{◌≡◌, ◌++◌, take}
use Rattle.std.specs.List.{flat_map}
use Rattle.railway_check.specs.Summary.{line_line}
use Rattle.railway_check.proofs.summary.add_lines.Given as goal

abbrev pub invariant-loop-line : goal.invariant-loop-line
invariant-loop-line l = l.text.items ≡ l.fn.text.items ++ flat_map line_line (take l.line-index l.lines)
