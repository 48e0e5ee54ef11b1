use Rattle.std.proofs.Common.{[], subst}
use Rattle.station_panel.specs.Opened.{page_of}
use Rattle.station_panel.specs.station_drive.declared.sockets.Sockets.{Sockets}
use Rattle.station_run.specs.Panels.{IsAttendedSomehow}
use Rattle.station_run.specs.StationRuns.{StationRunView}
use Rattle.station_run.proofs.RunEnds.{can_run, machine_explains, run_explains}
use Rattle.station_run.proofs.panel_machine.panel.Goals as goal

pub returns-in-Ok-open_panel-clause-done : goal.returns-in-Ok-open_panel-clause-done
returns-in-Ok-open_panel-clause-done g c = λ zero.
    record { first = c.in-Ok.prepared.station; lines = c.in-Ok.prepared.script.items; prepared = c.in-Ok.ensures.prepared; attended = subst (λ (v : StationRunView Sockets). IsAttendedSomehow (page_of c.args.asked.now.page) c.args.asked.now.limits v.engine.station) c.over-station.ensures (c.attend_browsers.ensures.done zero) }

pub returns-in-Ok-open_panel-clause-explains : goal.returns-in-Ok-open_panel-clause-explains
returns-in-Ok-open_panel-clause-explains g c = λ one.
    let ended = c.attend_browsers.ensures.told one
    in (ended.0, (run_explains c.args.asked.now.page.layout.now [] ended.0 (can_run c.in-Ok.ensures.prepared) ended.1.0, ended.1.1), ended.2)

pub returns-in-Err-open_panel-clause-explains : goal.returns-in-Err-open_panel-clause-explains
returns-in-Err-open_panel-clause-explains g c = λ one.
    let failure = c.in-Err-open_panel.failure
    in (failure, (machine_explains c.args.asked.now.page.layout.now [] failure (can_run c.in-Ok.ensures.prepared) c.in-Err-open_panel.ensures, c.tell-in-Err-open_panel.ensures.status), c.tell-in-Err-open_panel.ensures.told)
