use Rattle.std.proofs.Common.{◌∷◌, [], refl, ap}
use Rattle.node_drive.specs.Calls.{AsksLine, Closed, Nothing, line_heard}
use Rattle.node_panel.proofs.CallsOn.{calls_same}
use Rattle.node_panel.proofs.hearing.hear_next.Goals as goal

pub returns-in-Nothing : goal.returns-in-Nothing
returns-in-Nothing g c = (Nothing, calls_same (ap (λ l. AsksLine (line_heard l) ∷ []) c.in-Nothing.is) c.in_ok-line.ensures.heard, refl, refl)

pub returns-in-Closed : goal.returns-in-Closed
returns-in-Closed g c = (Closed, calls_same (ap (λ l. AsksLine (line_heard l) ∷ []) c.in-Closed.is) c.in_ok-line.ensures.heard, c.forget.ensures, refl)
