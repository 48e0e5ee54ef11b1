use Rattle.std.proofs.Common.{◌≡◌, ◌++◌}
use Rattle.railway_layout.specs.Faults.{all_line_faults, line_faults}
use Rattle.railway_layout.proofs.Added.{with_rest}
use Rattle.railway_layout.proofs.faults.add_lines.Given as goal

abbrev pub invariant-loop-number : goal.invariant-loop-number
invariant-loop-number l = with_rest (line_faults l.stations l.lines) l.lines l.number l.faults.items ≡ l.fn.faults.items ++ all_line_faults l.stations l.lines
