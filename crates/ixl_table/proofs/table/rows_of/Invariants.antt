use Rattle.ixl_table.specs.inside.Made.{AreRowsUpTo}
use Rattle.ixl_table.proofs.table.rows_of.Given as goal

abbrev pub invariant-loop-route : goal.invariant-loop-route
invariant-loop-route l = AreRowsUpTo l.table l.route l.rows.items
