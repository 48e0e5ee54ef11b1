use Rattle.std.proofs.Common.{subst}
use Rattle.std.specs.Result.{OnOk}
use Rattle.station_panel.specs.Opened.{page_of}
use Rattle.station_panel.specs.station_drive.Engines.{EngineView}
use Rattle.station_record.specs.replay.simulator.World.{View}
use Rattle.station_run.specs.Panels.{IsAttended}
use Rattle.station_run.specs.StationRuns.{StationRunView}
use Rattle.station_run.proofs.PanelWorlds.{attended}
use Rattle.station_run.proofs.prepared.StationRun.attend.Goals as goal

pub returns-clause-done : goal.returns-clause-done
returns-clause-done g c =
    let parts = c.into_parts-station.ensures in
    let served = c.serve-served in
    let page = page_of c.args.asked.now.page in
    let limits = c.args.asked.now.limits in
    let old = g.C.Clock.readings c.args.clock.now in
    let new = g.C.Clock.readings served.new.clock in
    let text = g.W.Write.contents served.result.recorder in
    subst (λ (v : StationRunView g.row.N.Denot). OnOk c.tell_ending.result (IsAttended g.N.Datagrams page limits v.engine old new text)) c.self.view_is
    (subst (λ (engine : EngineView View g.row.N.Denot). OnOk c.tell_ending.result (IsAttended g.N.Datagrams page limits engine old new text))
    (λ i. record { station = parts.station i; net = parts.net i; text = parts.text i })
    (attended g.N.Datagrams page limits _ old new text c.tell_ending.result served.result.ended c.tell_ending.ensures.well served.ensures.done))
