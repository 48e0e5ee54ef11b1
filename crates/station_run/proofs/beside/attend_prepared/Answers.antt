use Rattle.std.proofs.Common.{subst}
use Rattle.std.specs.Result.{OnOk}
use Rattle.station_panel.specs.Opened.{page_of}
use Rattle.station_panel.specs.station_drive.declared.sockets.Sockets.{Sockets}
use Rattle.station_run.specs.Panels.{IsAttendedSomehow}
use Rattle.station_run.specs.StationRuns.{StationRunView}
use Rattle.station_run.proofs.beside.attend_prepared.Goals as goal

pub returns-in-Ok : goal.returns-in-Ok
returns-in-Ok g c =
    subst (λ (v : StationRunView Sockets). OnOk c.attend_shared.result.ended (IsAttendedSomehow (page_of c.args.asked.now.page) c.args.asked.now.limits v.engine.station)) c.over-station.ensures c.attend_shared.ensures
