use Rattle.std.proofs.Common.{[], subst, sym}
use Rattle.ixl_spec.specs.bit_row.Places.{Places}
use Rattle.ixl_table.specs.Table.{IsSetOf}
use Rattle.ixl_table.proofs.Made.{set-grows, set-none}
use Rattle.ixl_table.proofs.row.set_of.Goals as goal

pub loop-number-init : goal.loop-number-init
loop-number-init c = subst (λ (row : Places). IsSetOf [] row) (sym c.empty-row.ensures) set-none

pub loop-number-preserved : goal.loop-number-preserved
loop-number-preserved c = set-grows c.args.numbers.now c.loop-number.number-index c.loop-number.row c.with-row.result c.loop-number-test.true c.loop-number.invariant c.with-row.ensures
