use Rattle.std.proofs.Common.{◌∙◌, ap}
use Rattle.draw_desk.specs.Answers.{DeskView}
use Rattle.draw_desk.specs.declared.desk.Desk.TheInside.{Inside}
use Rattle.draw_desk.proofs.Done.{told_is}
use Rattle.draw_desk.proofs.desk.Desk.told.Goals as goal

pub returns : goal.returns
returns g c =
    let inside = c.self-inside.view_is in
    let view = c.self.view_is in
    told_is c.args.found.now c.args.self.now _ _ _ _ _ _ _ c.in_ok-response.response
    (c.as_str.ensures ∙ (ap (λ (own : Inside g.row.O.Denot). own.file) inside ∙ ap (λ (d : DeskView). d.file) view))
    c.number_of.ensures c.is_running.ensures c.text_found.ensures
    (c.as_str-2.ensures.value ∙ (ap (λ (own : Inside g.row.O.Denot). own.access.token) inside ∙ ap (λ (d : DeskView). d.access.token) view))
    (ap (λ (own : Inside g.row.O.Denot). own.version.now) inside ∙ ap (λ (d : DeskView). d.version) view)
    c.in_ok-text.ensures c.in_ok-response.ensures
