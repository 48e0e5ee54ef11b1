use Rattle.std.proofs.Common.{◌∙◌, ap, subst}
use Rattle.panel_connections.specs.Served.{Serves}
use Rattle.panel_desk.specs.Answers.{Answered, DeskView}
use Rattle.station_panel.proofs.panel.Panel.answer.Goals as goal

pub returns-clause-served : goal.returns-clause-served
returns-clause-served g c =
    subst (λ (desk : DeskView). Serves Answered desk c.serve.new.service) (ap (λ s. s.desk) c.self-inside.view_is ∙ ap (λ m. m.desk) c.self.view_is) c.serve.ensures
