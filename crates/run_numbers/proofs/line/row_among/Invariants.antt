use Rattle.std.proofs.Common.{◌≡◌, drop}
use Rattle.run_numbers.specs.Lines.{row_among}
use Rattle.run_numbers.proofs.line.row_among.Given as goal

-- none of those so far is it
abbrev pub invariant-loop-row : goal.invariant-loop-row
invariant-loop-row l = row_among l.name l.label (drop l.row-index l.rows) ≡ row_among l.name l.label l.rows
