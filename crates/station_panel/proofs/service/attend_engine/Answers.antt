use Rattle.std.proofs.Common.{◌∙◌, Result, ap, sym, subst}
use Rattle.std.specs.Result.{IfOk, OnErr}
use Rattle.station_panel.specs.DisturbedNetwork.{disturbance}
use Rattle.station_panel.specs.Served.{IsAttended, IsBroken, seen_engine}
use Rattle.station_panel.specs.declared.ending.Ending.{Ending}
use Rattle.station_panel.specs.declared.ending.PanelFault.{PanelFault}
use Rattle.station_panel.proofs.FromItsBeginning.{attended_until, broken_after, stays_unbegun}
use Rattle.station_panel.proofs.Turn.{stopped}
use Rattle.station_panel.proofs.service.attend_engine.Goals.{in-Ok-attend, in-Err-attend}
use Rattle.station_panel.proofs.service.attend_engine.Goals as goal

pub returns-in-Err-clause-stopped : goal.returns-in-Err-clause-stopped
returns-in-Err-clause-stopped g c =
    stopped c.not_begun.result.ended (stays_unbegun g.S.Station g.N.Datagrams g.S.Pictured c.args.limits (seen_engine c.args.engine) c.args.desk c.read-first.result _ _
    (sym (ap (λ recorder. g.W.Write.contents recorder) c.not_begun.ensures.recorder ∙ c.into_outside-recorder.ensures.text)))

pub returns-clause-done : goal.returns-clause-done
returns-clause-done g c =
    let read = g.C.Clock.readings in
    let is = λ (ended : Result Ending PanelFault). IfOk ended (IsAttended g.S.Station g.N.Datagrams g.S.Pictured c.args.limits (seen_engine c.args.engine) c.args.desk (read c.args.clock.now) (read c.attend.new.clock) (g.W.Write.contents c.into_recorder.result)) in
    elim c.match-attend.branch [
      | in-Ok-attend w ↦ subst is (sym w.ended-is) (attended_until g.S.Station g.N.Datagrams g.S.Pictured c.args.limits (seen_engine c.args.engine) c.args.desk c.read-first.result
          (λ i. record { station = c.args.engine.station.station; net = disturbance c.args.engine.net; run = c.in-Ok.ensures.course i; desk = c.args.desk; faults = c.in-Ok.ensures.faults i; orders = c.in-Ok.ensures.orders i; text = c.args.engine.text })
          (sym c.into_recorder.ensures) _ _ _ w.in-Ok-attend.ending c.read-first.ensures.told w.in-Ok-attend.ensures.done)
      | in-Err-attend w ↦ subst is (sym w.ended-is) tt
    ]

pub returns-clause-stopped : goal.returns-clause-stopped
returns-clause-stopped g c =
    let is = λ (ended : Result Ending PanelFault). OnErr ended (IsBroken g.S.Station g.N.Datagrams g.S.Pictured c.args.limits (seen_engine c.args.engine) c.args.desk (g.C.Clock.readings c.args.clock.now) (g.W.Write.contents c.into_recorder.result)) in
    elim c.match-attend.branch [
      | in-Ok-attend w ↦ subst is (sym w.ended-is) tt
      | in-Err-attend w ↦ subst is (sym w.ended-is) (broken_after g.S.Station g.N.Datagrams g.S.Pictured c.args.limits (seen_engine c.args.engine) c.args.desk c.read-first.result
          (λ i. record { station = c.args.engine.station.station; net = disturbance c.args.engine.net; run = c.in-Ok.ensures.course i; desk = c.args.desk; faults = c.in-Ok.ensures.faults i; orders = c.in-Ok.ensures.orders i; text = c.args.engine.text })
          (sym c.into_recorder.ensures) _ w.in-Err-attend.ensures.stopped)
    ]
