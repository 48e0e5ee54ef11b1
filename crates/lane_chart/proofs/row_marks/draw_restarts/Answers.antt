use Rattle.std.proofs.Common.{◌∙◌}
use Rattle.lane_chart.specs.Faces.{restart_strokes}
use Rattle.lane_chart.specs.Strokes.{strokes}
use Rattle.lane_chart.proofs.Grown.{grows}
use Rattle.lane_chart.proofs.row_marks.draw_restarts.Goals as goal

pub loop-happening-preserved : goal.loop-happening-preserved
loop-happening-preserved c = record {
  drawn = grows (strokes c.args.marks.now.marks.items) c.args.happenings.now c.loop-happening.happening-index c.happening-item.result (strokes c.loop-happening.marks.marks.items) (strokes c.draw_restart.new.marks.marks.items)
      (restart_strokes c.args.window c.args.node) c.loop-happening-test.true c.happening-item.is c.loop-happening.invariant.drawn c.in_ok-draw_restart.ensures.drawn;
  named = c.in_ok-draw_restart.ensures.named ∙ c.loop-happening.invariant.named;
}
