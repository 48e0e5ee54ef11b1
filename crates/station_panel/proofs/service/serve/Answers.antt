use Rattle.std.proofs.Common.{◌∙◌, subst}
use Rattle.station_panel.specs.DisturbedNetwork.{DisturbedView, undisturbed}
use Rattle.station_panel.specs.Opened.{IsOpened, page_of}
use Rattle.station_panel.specs.Served.{IsBroken, broken}
use Rattle.station_drive.specs.Engines.{EngineView}
use Rattle.station_panel.proofs.Turn.{err_met}
use Rattle.station_panel.proofs.service.serve.Goals as goal

pub returns-clause-stopped : goal.returns-clause-stopped
returns-clause-stopped g c =
    let s = g.S.Station in
    let parts = c.into_parts-station.ensures in
    let room = c.in-Ok.ensures in
    let page = page_of c.args.asked.now.page in
    let desk = c.in-Ok.room.desk in
    let opened = subst (λ (station : g.row.S.Denot). IsOpened (s.site station) (g.S.Pictured.lines station) page desk) parts.station room.desk in
    err_met c.attend_engine.result.ended (λ b. broken desk opened
    (subst (λ (engine : EngineView g.row.S.Denot (DisturbedView g.row.N.Denot)). IsBroken s g.N.Datagrams g.S.Pictured c.args.asked.now.limits engine desk (g.C.Clock.readings c.args.clock.now) (g.W.Write.contents c.attend_engine.result.recorder))
    (λ i. record { station = (room.station ∙ parts.station) i; net = (room.net ∙ (λ j. undisturbed (s.site (parts.station j)) (parts.net j))) i; text = parts.text i }) b))
    c.attend_engine.ensures.stopped
