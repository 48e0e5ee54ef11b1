use Rattle.std.proofs.Common.{◌≡◌, length}
use Rattle.control_table.specs.inside.TableTests.{all_different}
use Rattle.control_table.proofs.sections.all_different.Given as goal

abbrev pub invariant-loop-item : goal.invariant-loop-item
invariant-loop-item g l = all_different g.T.PartialEq.eq l.rest ≡ all_different g.T.PartialEq.eq l.items

abbrev pub decreases-loop-item : goal.decreases-loop-item
decreases-loop-item g l = length l.rest
