use Rattle.std.proofs.Common.{[], ◌∷◌, refl, sym, ap, ◌∙◌, subst, take, arith}
use Rattle.std.proofs.lemmas.Result.{on_err_weaker, on_ok_weaker}
use Rattle.std.specs.Io.KnownBytes.{Appends}
use Rattle.replay_lines.specs.Written.{event_line}
use Rattle.station_drive.specs.Doings.{Applying}
use Rattle.station_drive.proofs.Composed.{stops_none, stops_unmoved, stopped, unchanged, happened, event_called, event_text}
use Rattle.station_drive.proofs.Rows.{failed}
use Rattle.station_drive.proofs.engine.Engine.perform.Goals as goal

pub returns-in_err-line-clause-stopped : goal.returns-in_err-line-clause-stopped
returns-in_err-line-clause-stopped g c = stopped c.from_residual.result (stops_none _ _)

pub returns-then-lacks_memory-clause-stopped : goal.returns-then-lacks_memory-clause-stopped
returns-then-lacks_memory-clause-stopped g c =
    let s = g.S.Station in
    let same = unchanged s.does c.args.event.now (s.state c.self.inside.station) c.apply.result _ (sym c.recorded-answer.ensures ∙ c.lacks_memory.ensures.0 c.if-lacks_memory.true) c.apply.ensures.applies in
    rw (← c.self.view_is) (stops_unmoved (Applying c.args.event.now ∷ []) _ _ c.apply.ensures.site same refl refl)

pub returns-clause-done : goal.returns-clause-done
returns-clause-done g c =
    let s = g.S.Station in
    let event = c.args.event.now in
    let old = s.state c.self.inside.station in
    let site = s.site c.self.inside.station in
    let done = happened s.does event old c.apply.result _ (λ e. failed c.lacks_memory.result c.lacks_memory.ensures c.if-lacks_memory.false (c.recorded-answer.ensures ∙ e)) c.apply.ensures.applies in
    let line = event_text s.does site event old _ _ _ (c.in_ok-line.ensures ∙ ap (λ p. event_line p event) c.table.ensures) (c.table-2.ensures ∙ c.apply.ensures.site) (c.recorded-answer.ensures ∙ done.0) in
    rw (← c.self.view_is)
    (on_ok_weaker c.write_line.result
    (λ h. record {
      same_site = c.apply.ensures.site;
      state_is = done.1;
      called = event_called s.does g.N.Datagrams.carries event old _ c.sent_count-before.result _ _ done.1 c.sent_count-before.ensures c.send_from.ensures;
      written = subst (Appends (g.W.Write.contents c.self.inside.recorder) (g.W.Write.contents c.write_line.new.recorder)) line h;
    })
    c.write_line.ensures.done)

pub returns-clause-stopped : goal.returns-clause-stopped
returns-clause-stopped g c =
    let s = g.S.Station in
    let event = c.args.event.now in
    let old = s.state c.self.inside.station in
    let site = s.site c.self.inside.station in
    let done = happened s.does event old c.apply.result _ (λ e. failed c.lacks_memory.result c.lacks_memory.ensures c.if-lacks_memory.false (c.recorded-answer.ensures ∙ e)) c.apply.ensures.applies in
    let line = event_text s.does site event old _ _ _ (c.in_ok-line.ensures ∙ ap (λ p. event_line p event) c.table.ensures) (c.table-2.ensures ∙ c.apply.ensures.site) (c.recorded-answer.ensures ∙ done.0) in
    rw (← c.self.view_is)
    (on_err_weaker c.write_line.result
    (λ h. record {
      same_site = c.apply.ensures.site;
      count = 1;
      within = omega arith;
      state_is = done.1;
      called = event_called s.does g.N.Datagrams.carries event old _ c.sent_count-before.result _ _ done.1 c.sent_count-before.ensures c.send_from.ensures;
      taken = h.0;
      written = subst (λ l. Appends (g.W.Write.contents c.self.inside.recorder) (g.W.Write.contents c.write_line.new.recorder) (take h.0 l)) line h.1;
      lines = omega arith;
    })
    c.write_line.ensures.stopped)
