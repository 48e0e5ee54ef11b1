use Rattle.std.proofs.Common.{◌∙◌, arith}
use Rattle.node_drive.proofs.Calls.{cuts_none, stopped}
use Rattle.node_drive.proofs.Ordered.{broken_off, numbered}
use Rattle.node_drive.proofs.orders_written.write_next.Goals as goal

-- no number is left
pub returns-in_default-clause-stopped : goal.returns-in_default-clause-stopped
returns-in_default-clause-stopped g c = cuts_none _ _

-- no memory for the line
pub returns-in_err-text-clause-stopped : goal.returns-in_err-text-clause-stopped
returns-in_err-text-clause-stopped g c = stopped c.from_residual.result (cuts_none _ _)

pub returns-in_err-write_line-clause-stopped : goal.returns-in_err-write_line-clause-stopped
returns-in_err-write_line-clause-stopped g c =
    stopped c.from_residual-in_err-write_line.result
    (broken_off c.in-Some.number c.args.written c.args.reading c.args.order (omega arith) c.as_str.result.now (c.as_str.ensures.value ∙ c.in_ok-text.ensures.ok) c.in_err-write_line.ensures.failed)

pub returns-clause-done : goal.returns-clause-done
returns-clause-done g c =
    numbered c.in-Some.number c.args.written c.args.reading c.args.order (omega arith) c.as_str.result.now (c.as_str.ensures.value ∙ c.in_ok-text.ensures.ok) c.in_ok-write_line.ensures.done
