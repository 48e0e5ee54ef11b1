use Rattle.std.proofs.Common.{◌∙◌, ◌++◌, append_assoc, ap, sym}
use Rattle.std.proofs.lemmas.Result.{on_ok_weaker}
use Rattle.std.specs.List.{flat_map}
use Rattle.lane_chart.specs.Faces.{node_strokes, restart_strokes}
use Rattle.lane_chart.specs.Strokes.{strokes}
use Rattle.lane_chart.proofs.row_marks.draw_node.Goals as goal

pub returns-in_ok-level_line-in-Some-clause-drawn : goal.returns-in_ok-level_line-in-Some-clause-drawn
returns-in_ok-level_line-in-Some-clause-drawn c =
    let start = strokes c.args.marks.now.marks.items
    in let restarts = flat_map (restart_strokes c.args.window c.in-Some.node) c.args.happenings.now
    in on_ok_weaker c.draw_restarts.result
    (λ drawn. drawn ∙ ap (λ before. before ++ restarts) c.in_ok-level_line-in-Some.ensures.drawn ∙ append_assoc start _ restarts
    ∙ ap (λ node. start ++ node_strokes c.args.window c.args.happenings.now node) (sym c.in-Some.is)) c.draw_restarts.ensures.drawn
