use Rattle.std.proofs.Common.{◌∙◌}
use Rattle.std.proofs.lemmas.List.{get_or_default}
use Rattle.lane_chart.specs.Faces.{span_strokes}
use Rattle.lane_chart.specs.Strokes.{strokes}
use Rattle.lane_chart.proofs.Grown.{grows}
use Rattle.lane_chart.proofs.row_marks.draw_band.Goals as goal

pub loop-span-preserved : goal.loop-span-preserved
loop-span-preserved c = record {
  drawn = grows (strokes c.args.marks.now.marks.items) c.args.spans.now c.loop-span.span-index _ (strokes c.loop-span.marks.marks.items) (strokes c.draw_span.new.marks.marks.items)
      span_strokes c.loop-span-test.true (get_or_default c.args.spans.now c.loop-span.span-index _ _ c.loop-span-test.true) c.loop-span.invariant.drawn c.in_ok-draw_span.ensures.drawn;
  named = c.in_ok-draw_span.ensures.named ∙ c.loop-span.invariant.named;
}
