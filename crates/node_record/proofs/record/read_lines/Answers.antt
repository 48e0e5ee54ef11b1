use Rattle.std.proofs.Common.{map}
use Rattle.node_record.specs.RecordLines.{told}
use Rattle.node_record.proofs.WholeLines.{behind_next}
use Rattle.node_record.proofs.record.read_lines.Goals as goal

pub loop-number-preserved : goal.loop-number-preserved
loop-number-preserved c =
    let kept = c.in_default.ensures.ok in
    behind_next c.args.layout.now (map told c.loop-number.read.items) (map told c.keep_line-kept.new.read.items) c.in-Some.number c.in-Some.line.now c.loop-number.number-iterator c.next.new.self _ kept.0
    c.in-Some.ensures.steps kept.1 kept.2 c.loop-number.invariant
