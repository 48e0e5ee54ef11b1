use Rattle.std.proofs.Common.{inl, inr, refl}
use Rattle.draw_desk.proofs.desk.Desk.shown.Goals as goal

pub returns-in-Ok : goal.returns-in-Ok
returns-in-Ok g c = inl (c.in-Ok.ensures, c.learn.ensures)

pub returns-in-Err : goal.returns-in-Err
returns-in-Err g c = inr (c.requires, refl)
