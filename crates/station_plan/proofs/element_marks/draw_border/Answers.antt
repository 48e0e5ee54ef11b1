use Rattle.std.proofs.Common.{◌∙◌, [], ◌∷◌, ◌++◌, ap, append_assoc}
use Rattle.std.proofs.lemmas.Result.{on_ok_weaker}
use Rattle.std.specs.Prelude.{codes}
use Rattle.station_plan.specs.Faces.{rail}
use Rattle.station_plan.specs.Strokes.{polygon, strokes}
use Rattle.station_plan.proofs.element_marks.draw_border.Goals as goal

pub returns : goal.returns
returns c =
    let arrow = polygon (codes "arrow") ∷ [] in
    let lines = c.in_ok-line.ensures.drawn ∙ (ap (λ drawn. drawn ++ rail) c.in_ok-triangle.ensures.drawn ∙ append_assoc (strokes c.args.marks.now.marks.items) arrow rail) in
    let texts = c.in_ok-line.ensures.named ∙ c.in_ok-triangle.ensures.named in
    record {
      drawn = on_ok_weaker c.name.result (λ same. same ∙ lines) c.name.ensures.drawn;
      named = on_ok_weaker c.name.result (λ more. more ∙ ap (λ before. before ++ c.args.name) texts) c.name.ensures.named;
    }
