use Rattle.draw_desk.proofs.Done.{begun_at}
use Rattle.draw_desk.proofs.desk.Desk.begin.Goals as goal

pub returns-clause-ok : goal.returns-clause-ok
returns-clause-ok g c =
    begun_at c.in-Ok.port c.args.text _ _ _ _ c.self.view_is c.open_port.ensures c.in_ok-tell_panel.ensures
