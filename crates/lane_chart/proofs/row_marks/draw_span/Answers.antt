use Rattle.std.proofs.Common.{◌∙◌, [], ◌∷◌, ◌++◌, ap, append_assoc, codes}
use Rattle.std.proofs.lemmas.Result.{on_ok_weaker}
use Rattle.lane_chart.specs.Faces.{edge_of, span_end, state_text}
use Rattle.lane_chart.specs.Strokes.{line, place_of, strokes}
use Rattle.lane_chart.proofs.row_marks.draw_span.Goals as goal

pub returns : goal.returns
returns c =
    let span = c.args.span in
    let state = line (codes "band " ++ state_text span.seen) (place_of span.left) (span_end span) ∷ [] in
    let lines = c.in_ok-draw_edge.ensures.drawn ∙ (ap (λ drawn. drawn ++ edge_of span) c.in_ok-draw_state.ensures.drawn ∙ append_assoc (strokes c.args.marks.now.marks.items) state (edge_of span)) in
    let texts = c.in_ok-draw_edge.ensures.named ∙ c.in_ok-draw_state.ensures.named in
    record {
      drawn = on_ok_weaker c.draw_label.result (λ same. same ∙ lines) c.draw_label.ensures.drawn;
      named = on_ok_weaker c.draw_label.result (λ same. same ∙ texts) c.draw_label.ensures.named;
    }
