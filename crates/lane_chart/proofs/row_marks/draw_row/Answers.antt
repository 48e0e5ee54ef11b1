use Rattle.std.proofs.Common.{◌∙◌, ℕ, ◌++◌, Option, ap}
use Rattle.std.proofs.lemmas.Result.{on_ok_weaker}
use Rattle.std.specs.List.{flat_map}
use Rattle.lane_chart.specs.Faces.{node_of, node_strokes, span_strokes}
use Rattle.lane_chart.specs.Strokes.{strokes}
use Rattle.lane_chart.proofs.Together.{together}
use Rattle.lane_chart.proofs.row_marks.draw_row.Goals as goal

pub returns-clause-drawn : goal.returns-clause-drawn
returns-clause-drawn c =
    let row = c.args.drawn.now
    in let scene = c.args.scene
    in let lines = λ (node : Option ℕ). node_strokes scene.window scene.happenings.now node
    in on_ok_weaker c.draw_node.result
    (λ drawn. together (strokes c.args.marks.now.marks.items) _ (flat_map span_strokes row.upper.items) (flat_map span_strokes row.lower.items) (lines (node_of scene.nodes row.row))
    (strokes c.draw_kind.new.marks.marks.items) (strokes c.draw_name.new.marks.marks.items) (strokes c.draw_band.new.marks.marks.items) (strokes c.draw_band-2.new.marks.marks.items) (strokes c.draw_node.new.marks.marks.items)
    c.in_ok-draw_kind.ensures.drawn c.in_ok-draw_name.ensures.drawn
    (c.in_ok-draw_band.ensures.drawn ∙ ap (λ spans. strokes c.draw_name.new.marks.marks.items ++ flat_map span_strokes spans) c.deref.ensures.value)
    (c.in_ok-draw_band-2.ensures.drawn ∙ ap (λ spans. strokes c.draw_band.new.marks.marks.items ++ flat_map span_strokes spans) c.deref-2.ensures.value)
    (drawn ∙ ap (λ node. strokes c.draw_band-2.new.marks.marks.items ++ lines node) c.number_of-node.ensures)) c.draw_node.ensures.drawn

pub returns-clause-named : goal.returns-clause-named
returns-clause-named c =
    on_ok_weaker c.draw_node.result
    (λ named. named ∙ c.in_ok-draw_band-2.ensures.named ∙ c.in_ok-draw_band.ensures.named ∙ c.in_ok-draw_name.ensures.named
    ∙ ap (λ before. before ++ c.args.drawn.now.row.subject.name) c.in_ok-draw_kind.ensures.named) c.draw_node.ensures.named
