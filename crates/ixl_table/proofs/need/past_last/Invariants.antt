use Rattle.std.proofs.Common.{take}
use Rattle.ixl_spec.specs.bit_row.Places.{Has}
use Rattle.ixl_table.specs.inside.Made.{IsPastLast}
use Rattle.ixl_table.proofs.need.past_last.Given as goal

abbrev pub invariant-loop-place : goal.invariant-loop-place
invariant-loop-place l = IsPastLast (take l.place l.sections) (Has l.set) l.past
