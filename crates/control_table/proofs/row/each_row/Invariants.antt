use Rattle.std.proofs.Common.{◌≡◌, drop}
use Rattle.control_table.specs.inside.TableTests.{rows_from}
use Rattle.control_table.proofs.Loops.{with_front}
use Rattle.control_table.proofs.row.each_row.Given as goal

abbrev pub invariant-loop-before : goal.invariant-loop-before
invariant-loop-before l = with_front l.rows.items (rows_from l.layout l.before (drop l.before l.routes)) ≡ rows_from l.layout 0 l.routes
