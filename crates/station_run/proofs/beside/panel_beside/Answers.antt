use Rattle.station_run.proofs.PanelsBeside.{onto}
use Rattle.station_run.proofs.beside.panel_beside.Goals as goal

pub returns-in-Ok-clause-done : goal.returns-in-Ok-clause-done
returns-in-Ok-clause-done g c =
    onto c.attend_prepared.result.ended
    (λ attended. record { first = c.in-Ok.prepared.station; lines = c.in-Ok.prepared.script.items; prepared = c.in-Ok.ensures.prepared; attended = attended })
    c.attend_prepared.ensures
