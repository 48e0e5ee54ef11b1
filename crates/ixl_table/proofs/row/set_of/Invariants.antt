use Rattle.std.proofs.Common.{take}
use Rattle.ixl_table.specs.Table.{IsSetOf}
use Rattle.ixl_table.proofs.row.set_of.Given as goal

abbrev pub invariant-loop-number : goal.invariant-loop-number
invariant-loop-number l = IsSetOf (take l.number-index l.numbers) l.row
