use Rattle.std.proofs.lemmas.Result.{err_from_is_err_and}
use Rattle.control_table.specs.inside.TableTests.{rows_from}
use Rattle.control_table.proofs.Loops.{rows-goes_on, rows-ends, rows-is_done}
use Rattle.control_table.proofs.row.each_row.Goals as goal

pub returns-in_err-row_of : goal.returns-in_err-row_of
returns-in_err-row_of c =
    let p = err_from_is_err_and c.from_residual.result c.from_residual.ensures.1 in
    rw (p.1, p.2) (rows-ends c.args.layout.now c.loop-before.rows.items c.args.routes.now c.loop-before.before (rows_from c.args.layout.now 0 c.args.routes.now) c.index-routes-before.result c.name.result.now c.in_err-row_of.field-0.0 c.loop-before-test.true c.index-routes-before.is c.name.ensures c.in_err-row_of.ensures c.loop-before.invariant)

pub loop-before-preserved : goal.loop-before-preserved
loop-before-preserved c =
    rw c.in_ok-push.ensures.items (rows-goes_on c.args.layout.now c.loop-before.rows.items c.args.routes.now c.loop-before.before (rows_from c.args.layout.now 0 c.args.routes.now) c.index-routes-before.result c.name.result.now c.in_ok-row_of.field-0 c.loop-before-test.true c.index-routes-before.is c.name.ensures c.in_ok-row_of.ensures c.loop-before.invariant)

pub returns : goal.returns
returns c =
    rows-is_done c.args.layout.now c.loop-before.rows.items c.args.routes.now c.loop-before.before (rows_from c.args.layout.now 0 c.args.routes.now) c.loop-before-test.false c.loop-before.invariant
