use Rattle.std.proofs.Common.{◌∙◌, ◌++◌, ap, append_assoc}
use Rattle.std.proofs.lemmas.Result.{on_ok_weaker}
use Rattle.station_plan.specs.Strokes.{written}
use Rattle.station_plan.proofs.marks.Marks.name.Goals as goal

pub returns : goal.returns
returns c =
    let start = written c.args.self.now.marks.items in
    let first = c.in-Some.first.now in
    let second = c.in-Some.second.now in
    let both = ap (λ texts. texts ++ second) c.in_ok-text.ensures.named ∙ (append_assoc start first second ∙ ap (λ name. start ++ name) c.in-Some.ensures) in
    record {
      drawn = on_ok_weaker c.text-3.result (λ same. same ∙ c.in_ok-text.ensures.drawn) c.text-3.ensures.drawn;
      named = on_ok_weaker c.text-3.result (λ more. more ∙ both) c.text-3.ensures.named;
    }
