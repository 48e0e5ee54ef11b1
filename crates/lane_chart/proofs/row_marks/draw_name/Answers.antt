use Rattle.std.proofs.Common.{◌∙◌, ◌++◌, ap}
use Rattle.std.proofs.lemmas.Result.{on_ok_weaker}
use Rattle.lane_chart.specs.Strokes.{named}
use Rattle.lane_chart.proofs.row_marks.draw_name.Goals as goal

pub returns : goal.returns
returns c =
    let texts = ap (λ before. before ++ c.as_str.result.now) c.in_ok-level_line.ensures.named ∙ ap (λ name. named c.args.marks.now.marks.items ++ name) c.as_str.ensures in
    record {
      drawn = on_ok_weaker c.text.result (λ same. same ∙ c.in_ok-level_line.ensures.drawn) c.text.ensures.drawn;
      named = on_ok_weaker c.text.result (λ more. more ∙ texts) c.text.ensures.named;
    }
