use Rattle.simulator_recovery.proofs.Words.Basics.{◌∷◌}
use Rattle.simulator_recovery.proofs.points.drives_end_with_their_reports.Goals as goal

pub returns : goal.returns
returns c = λ between later more flowing place side since good few long many below driving.
    let r = c.reports_of_drives_come_back.ensures between later more flowing place side since good few long many below driving
    in record { front = r.front; rest = r.last ∷ r.rest; parts = r.parts; reports = r.reports }
