use Rattle.std.proofs.Common.{◌≡◌, map, take}
use Rattle.ixl_table.specs.Table.{as_section}
use Rattle.ixl_table.proofs.reporters.sections_of.Given as goal

abbrev pub invariant-loop-point : goal.invariant-loop-point
invariant-loop-point l = map as_section l.sections.items ≡ map (λ p. p.section) (take l.point-index l.points)
