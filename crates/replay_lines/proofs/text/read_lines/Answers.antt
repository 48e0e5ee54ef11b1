use Rattle.std.proofs.Common.{◌∙◌, sym}
use Rattle.replay_lines.proofs.LinesKept.{behind_next}
use Rattle.replay_lines.proofs.text.read_lines.Goals as goal

pub loop-number-preserved : goal.loop-number-preserved
loop-number-preserved c =
    let kept = c.in_default.ensures.ok in
    behind_next c.args.table.now c.loop-number.said.items c.keep_line-kept.new.said.items c.in-Some.number c.in-Some.line.now c.loop-number.number-iterator c.next.new.self _ kept.0
    c.in-Some.ensures.steps (sym c.is_passed_over.ensures ∙ c.if-is_passed_over.false) kept.1 kept.2 c.loop-number.invariant
