use Rattle.std.proofs.Common.{◌≡◌, ◌++◌}
use Rattle.railway_layout.specs.Faults.{part_fault, part_faults}
use Rattle.railway_layout.proofs.Added.{with_rest}
use Rattle.railway_layout.proofs.end_faults.add_part.Given as goal

abbrev pub invariant-loop-number : goal.invariant-loop-number
invariant-loop-number l = with_rest (part_fault l.place l.layout l.part) l.part l.number l.faults.items ≡ l.fn.faults.items ++ part_faults l.place l.layout l.part
