use Rattle.node_record.proofs.RecordsRead.{head_faulty, later_faulty}
use Rattle.node_record.proofs.record.read_record.Goals as goal

pub returns-in-Err : goal.returns-in-Err
returns-in-Err c =
    head_faulty c.args.layout.now c.args.name.now c.args.text.now c.first_line-first.result.now c.of-lines.result c.of-lines.ensures c.first_line-first.ensures.line
    c.in-Err.fault c.number.result c.in-Err.ensures c.number.ensures

pub returns-in_err-lines : goal.returns-in_err-lines
returns-in_err-lines c =
    later_faulty c.args.layout.now c.args.name.now c.args.text.now c.first_line-first.result.now c.of-lines.result c.of-lines.ensures c.first_line-first.ensures.line
    c.in-Ok.head c.first_line-first.new.lines c.in_err-lines.field-0.0 c.from_residual.result c.in-Ok.ensures c.first_line-first.ensures.rest c.in_err-lines.ensures c.from_residual.ensures.1
