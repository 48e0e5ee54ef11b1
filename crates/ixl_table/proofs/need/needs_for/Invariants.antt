use Rattle.std.proofs.Common.{take}
use Rattle.ixl_table.specs.inside.Made.{AreNeedsOf}
use Rattle.ixl_table.proofs.need.needs_for.Given as goal

abbrev pub invariant-loop-point : goal.invariant-loop-point
invariant-loop-point l = AreNeedsOf l.table l.route l.sections (take l.point-index l.asked) l.needs.items
