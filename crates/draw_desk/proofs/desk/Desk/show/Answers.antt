use Rattle.draw_desk.proofs.Done.{found_shown, none_shown}
use Rattle.draw_desk.proofs.desk.Desk.show.Goals as goal

pub returns-in-Ok-clause-ok : goal.returns-in-Ok-clause-ok
returns-in-Ok-clause-ok g c = found_shown c.in-Ok.found _ _ _ _ _ c.self.view_is c.in-Ok.ensures c.shown.ensures

pub returns-in-Err-clause-ok : goal.returns-in-Err-clause-ok
returns-in-Err-clause-ok g c = none_shown _ _ _ _ c.self.view_is c.in-Err.ensures c.in_ok-not_read.ensures
