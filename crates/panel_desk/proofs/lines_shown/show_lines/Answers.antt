use Rattle.panel_desk.proofs.Pictures.{shown_next}
use Rattle.panel_desk.proofs.lines_shown.show_lines.Goals as goal

pub loop-place-preserved : goal.loop-place-preserved
loop-place-preserved c =
    shown_next c.args.layout.now c.loop-place.place c.args.lines.now _ c.loop-place.desk c.show_line.new.desk _ c.loop-place-test.true c.in_ok-show_line.ensures c.loop-place.invariant
