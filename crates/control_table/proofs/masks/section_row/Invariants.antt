use Rattle.std.proofs.Common.{◌≡◌, drop}
use Rattle.std.specs.FinSet.{empty, insert}
use Rattle.std.specs.List.{fold}
use Rattle.control_table.specs.inside.TableTests.{section_row}
use Rattle.control_table.proofs.masks.section_row.Given as goal

abbrev pub invariant-loop-section : goal.invariant-loop-section
invariant-loop-section l = fold (λ row s. insert row s.0) l.row (drop l.section-index l.sections) ≡ section_row l.sections
