use Rattle.ixl_table.specs.inside.Made.{AreReportersUpTo}
use Rattle.ixl_table.proofs.reporters.reporters_of.Given as goal

abbrev pub invariant-loop-section : goal.invariant-loop-section
invariant-loop-section l = AreReportersUpTo l.table l.section l.reporters.items
