use Rattle.std.proofs.Common.{take}
use Rattle.std.specs.List.{Contains}
use Rattle.ixl_table.specs.Table.{as_section}
use Rattle.ixl_table.proofs.reporters.place_of.Given as goal

abbrev pub invariant-loop-place : goal.invariant-loop-place
invariant-loop-place l = Contains (take l.place l.sections) (as_section l.section) → ⊥
