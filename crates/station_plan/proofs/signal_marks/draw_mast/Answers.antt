use Rattle.std.proofs.Common.{◌∙◌, [], ◌∷◌, ◌++◌, ap, append_assoc}
use Rattle.std.proofs.lemmas.Result.{on_ok_weaker}
use Rattle.std.specs.Prelude.{codes}
use Rattle.station_plan.specs.Strokes.{circle, line, strokes}
use Rattle.station_plan.proofs.signal_marks.draw_mast.Goals as goal

pub returns : goal.returns
returns c =
    let start = strokes c.args.marks.now.marks.items in
    let mast = line (codes "mast") ∷ [] in
    let near = circle (codes "lamp near") ∷ [] in
    let distant = circle (codes "lamp distant") ∷ [] in
    let so_far = c.in_ok-circle.ensures.drawn ∙ (ap (λ drawn. drawn ++ near) c.in_ok-line.ensures.drawn ∙ append_assoc start mast near) in
    let texts = c.in_ok-circle.ensures.named ∙ c.in_ok-line.ensures.named in
    record {
      drawn = on_ok_weaker c.circle-2.result (λ more. more ∙ (ap (λ drawn. drawn ++ distant) so_far ∙ append_assoc start (mast ++ near) distant)) c.circle-2.ensures.drawn;
      named = on_ok_weaker c.circle-2.result (λ same. same ∙ texts) c.circle-2.ensures.named;
    }
