use Rattle.std.proofs.Common.{◌∙◌, [], ◌∷◌, ap}
use Rattle.station_plan.specs.Faces.{band, is_named, point_bands}
use Rattle.station_plan.specs.Strokes.{strokes, written}
use Rattle.station_plan.proofs.Grown.{added, grown_by_all, grows_by_all, left}
use Rattle.station_plan.proofs.section_marks.draw_points.Goals as goal
use Rattle.station_plan.proofs.section_marks.draw_points.Goals.{then-is_named+in_ok-draw_point_band+in_ok-draw_point_label, else-is_named}

pub loop-number-preserved : goal.loop-number-preserved
loop-number-preserved c =
    let before = strokes c.loop-number.marks.marks.items in
    let after = strokes c.if-is_named.marks.marks.items in
    let named = is_named c.args.layout.now c.args.name.now c.index-points-number.result.section in
    let grows = grows_by_all (strokes c.args.marks.now.marks.items) c.args.points.now c.loop-number.number c.index-points-number.result (point_bands c.args.layout.now c.args.name.now) before after
    c.loop-number-test.true c.index-points-number.is c.loop-number.invariant.0 in
    elim c.if-is_named.branch [
      | then-is_named+in_ok-draw_point_band+in_ok-draw_point_label w ↦ (
        grows (added before after (band ∷ band ∷ []) named c.is_named.result c.is_named.ensures w.if-is_named.true (ap (λ m. strokes m.marks.items) w.marks-is ∙ w.in_ok-draw_point_band.ensures.drawn)),
        ap (λ m. written m.marks.items) w.marks-is ∙ (w.in_ok-draw_point_band.ensures.named ∙ c.loop-number.invariant.1),
      )
      | else-is_named w ↦ (
        grows (left before after (band ∷ band ∷ []) named c.is_named.result c.is_named.ensures w.if-is_named.false (ap (λ m. strokes m.marks.items) w.marks-is)),
        ap (λ m. written m.marks.items) w.marks-is ∙ c.loop-number.invariant.1,
      )
    ]

pub returns : goal.returns
returns c = record {
  drawn = grown_by_all (strokes c.args.marks.now.marks.items) c.args.points.now c.loop-number.number (strokes c.loop-number.marks.marks.items) (point_bands c.args.layout.now c.args.name.now) c.loop-number-test.false c.loop-number.invariant.0;
  named = c.loop-number.invariant.1;
}
