use Rattle.std.proofs.Common.{sym}
use Rattle.node_drive.proofs.Calls.{stopped}
use Rattle.node_drive.proofs.Ordered.{last_cut, last_none, last_some}
use Rattle.node_drive.proofs.orders_written.finish.Goals as goal

pub returns-in_default-clause-done : goal.returns-in_default-clause-done
returns-in_default-clause-done g c = (c.read_clock-reading.result, last_none c.read_clock-reading.result c.args.course.now c.args.rest (sym c.in_default.is) c.read_clock-reading.ensures)

pub returns-in_err-write_next-clause-stopped : goal.returns-in_err-write_next-clause-stopped
returns-in_err-write_next-clause-stopped g c =
    let reading = c.read_clock-reading.result in
    stopped c.from_residual.result (
      reading,
      last_cut reading c.args.course.now c.args.rest c.in-Some.order c.written.result c.written.ensures (sym c.in-Some.is) c.read_clock-reading.ensures c.in_err-write_next.ensures.stopped,
    )

pub returns-clause-done : goal.returns-clause-done
returns-clause-done g c =
    let reading = c.read_clock-reading.result in (
      reading,
      last_some reading c.args.course.now c.args.rest c.in-Some.order c.written.result c.written.ensures (sym c.in-Some.is) c.read_clock-reading.ensures c.in_ok-write_next.ensures.done,
    )
