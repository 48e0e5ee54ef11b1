use Rattle.station_run.proofs.RunEnds.{early_is_of_run}
use Rattle.station_run.proofs.machine.run_watched.Goals as goal

pub returns-clause-done : goal.returns-clause-done
returns-clause-done g c = λ zero.
    let ran = c.run-status.ensures.done zero
    in (ran.0, ran.1, record { readings_old = _; readings_new = _; text = _; last = _; run = ran.2 })

pub returns-clause-told : goal.returns-clause-told
returns-clause-told g c = λ one.
    let ended = c.run-status.ensures.told one
    in (ended.0, ((early_is_of_run ended.1.0.0, ended.1.0.1), ended.1.1), ended.2)
