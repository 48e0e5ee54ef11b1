use Rattle.std.proofs.Common.{◌≡◌, map, take}
use Rattle.ixl_table.specs.Table.{as_section}
use Rattle.ixl_table.proofs.row.section_numbers.Given as goal

abbrev pub invariant-loop-section : goal.invariant-loop-section
invariant-loop-section l = map as_section l.numbers.items ≡ take l.section-index l.sections
