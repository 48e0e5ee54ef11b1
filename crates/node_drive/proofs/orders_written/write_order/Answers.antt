use Rattle.std.proofs.Common.{◌∙◌}
use Rattle.node_drive.proofs.Calls.{stopped}
use Rattle.node_drive.proofs.Ordered.{none_calls, none_course, some_calls, some_course, some_cut}
use Rattle.node_drive.proofs.orders_written.write_order.Goals as goal

pub returns-in_default-clause-done : goal.returns-in_default-clause-done
returns-in_default-clause-done g c = none_calls c.args.reading c.args.course.now _ _ c.in_default.ensures

pub returns-in_default-clause-course : goal.returns-in_default-clause-course
returns-in_default-clause-course g c = none_course c.args.reading c.args.course.now _ c.in_default.ensures

pub returns-in_err-number-clause-stopped : goal.returns-in_err-number-clause-stopped
returns-in_err-number-clause-stopped g c =
    stopped c.from_residual.result (some_cut c.args.reading c.args.course.now _ c.in-Some.order c.written.result c.written.ensures c.in-Some.ensures c.in_err-number.ensures.stopped)

pub returns-clause-done : goal.returns-clause-done
returns-clause-done g c = some_calls c.args.reading c.args.course.now _ c.in-Some.order c.written.result c.written.ensures c.in-Some.ensures c.in_ok-number.ensures.done

pub returns-clause-course : goal.returns-clause-course
returns-clause-course g c =
    c.note_order.ensures
    ∙ some_course c.args.reading c.args.course.now _ c.in-Some.order c.in_ok-number.number c.written.result c.written.ensures c.in-Some.ensures c.in_ok-number.ensures.number
