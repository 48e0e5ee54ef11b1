use Rattle.std.proofs.Common.{◌≡◌, map}
use Rattle.node_record.specs.RecordLines.{told}
use Rattle.node_record.specs.Records.{lines_said}
use Rattle.node_record.proofs.WholeLines.{behind}
use Rattle.node_record.proofs.record.read_lines.Given as goal

-- what was kept so far, and after it what the lines say that are left
abbrev pub invariant-loop-number : goal.invariant-loop-number
invariant-loop-number l = behind (map told l.read.items) (lines_said l.layout l.number-iterator) ≡ lines_said l.layout l.fn.lines
