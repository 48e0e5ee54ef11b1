use Rattle.railway_check.specs.Summary.{line_line}
use Rattle.railway_check.proofs.Added.{appended_more}
use Rattle.railway_check.proofs.summary.add_lines.Goals as goal

pub loop-line-preserved : goal.loop-line-preserved
loop-line-preserved c =
    appended_more line_line c.args.text.now.items c.loop-line.text.items c.add_one.new.text.items c.args.lines.now c.loop-line.line-index c.line-item.result
    c.loop-line-test.true c.line-item.is c.loop-line.invariant c.in_ok-add_one.ensures
