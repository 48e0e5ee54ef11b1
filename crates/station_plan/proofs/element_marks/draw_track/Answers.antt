use Rattle.std.proofs.Common.{◌∙◌, ◌++◌, ap}
use Rattle.std.proofs.lemmas.Result.{on_ok_weaker}
use Rattle.station_plan.proofs.element_marks.draw_track.Goals as goal

pub returns : goal.returns
returns c = record {
  drawn = on_ok_weaker c.name.result (λ same. same ∙ c.in_ok-draw_row.ensures.drawn) c.name.ensures.drawn;
  named = on_ok_weaker c.name.result (λ more. more ∙ ap (λ texts. texts ++ c.args.name) c.in_ok-draw_row.ensures.named) c.name.ensures.named;
}
