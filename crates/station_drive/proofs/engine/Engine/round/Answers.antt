use Rattle.std.proofs.Common.{◌∙◌, [], ◌∷◌, length, map, ap, arith}
use Rattle.replay_lines.specs.Names.{node_names}
use Rattle.station_drive.specs.Doings.{Applying}
use Rattle.station_drive.specs.Inside.{waiting}
use Rattle.station_drive.specs.Rounds.{due, passed, reaches, ticks, time_passes}
use Rattle.station_drive.proofs.Composed.{performs_rest, performs_same, performs_then, stopped, stops_all, stops_before, stops_same, stops_then}
use Rattle.station_drive.proofs.Rows.{silent_rest}
use Rattle.station_drive.proofs.engine.Engine.round.Goals as goal

-- a round that is cut off where time goes on, and no node hears
pub returns-in_err-pass-clause-stopped : goal.returns-in_err-pass-clause-stopped
returns-in_err-pass-clause-stopped g c =
    let site = g.S.Station.site c.args.self.now.station in
    let quiet = silent_rest [] (length (node_names site)) (omega arith) in
    let time = stops_same (ap (λ e. Applying (time_passes site e) ∷ []) c.elapsed.ensures) c.in_err-pass.ensures.stopped in
    stopped c.from_residual.result (record { heard = quiet.heard; each = quiet.counted; stops = stops_before _ time })

-- where nodes hear
pub returns-in_err-hear_all-clause-stopped : goal.returns-in_err-hear_all-clause-stopped
returns-in_err-hear_all-clause-stopped g c =
    let site = g.S.Station.site c.args.self.now.station in
    let time = performs_same (ap (λ e. Applying (time_passes site e) ∷ []) c.elapsed.ensures) c.in_ok-pass.ensures.done in
    let heard = c.in_err-hear_all.ensures.stopped in
    let each = heard.1 ∙ ap (λ p. length (node_names p)) time.same_site in
    stopped c.from_residual-in_err-hear_all.result (record { heard = heard.0; each = each; stops = stops_then time (stops_before _ heard.2) })

-- where lines of the script are applied
pub returns-in_err-apply_due-clause-stopped : goal.returns-in_err-apply_due-clause-stopped
returns-in_err-apply_due-clause-stopped g c =
    let site = g.S.Station.site c.args.self.now.station in
    let time = performs_same (ap (λ e. Applying (time_passes site e) ∷ []) c.elapsed.ensures) c.in_ok-pass.ensures.done in
    let course = c.course.view_is in
    let at_script = ap (λ n. map Applying (due n (waiting c.course.inside.left.applied c.course.inside.left.lines.now))) c.passed.ensures ∙ ap (λ k. map Applying (due (passed c.args.course.now c.args.reading) k.left)) course in
    let heard = c.in_ok-hear_all.ensures.done in
    let each = heard.1 ∙ ap (λ p. length (node_names p)) time.same_site in
    stopped c.from_residual-in_err-apply_due.result (record { heard = heard.0; each = each; stops = stops_then time (stops_then heard.2 (stops_before _ (stops_same at_script c.in_err-apply_due.ensures.stopped))) })

-- where what is asked for is applied
pub returns-in_err-apply_asked-clause-stopped : goal.returns-in_err-apply_asked-clause-stopped
returns-in_err-apply_asked-clause-stopped g c =
    let site = g.S.Station.site c.args.self.now.station in
    let time = performs_same (ap (λ e. Applying (time_passes site e) ∷ []) c.elapsed.ensures) c.in_ok-pass.ensures.done in
    let course = c.course.view_is in
    let at_script = ap (λ n. map Applying (due n (waiting c.course.inside.left.applied c.course.inside.left.lines.now))) c.passed.ensures ∙ ap (λ k. map Applying (due (passed c.args.course.now c.args.reading) k.left)) course in
    let heard = c.in_ok-hear_all.ensures.done in
    let each = heard.1 ∙ ap (λ p. length (node_names p)) time.same_site in
    let script = performs_same at_script c.in_ok-apply_due.ensures.done in
    stopped c.from_residual-in_err-apply_asked.result (record { heard = heard.0; each = each; stops = stops_then time (stops_then heard.2 (stops_then script (stops_before _ c.in_err-apply_asked.ensures.stopped))) })

-- where points reach their end positions
pub returns-in_err-reach_all-clause-stopped : goal.returns-in_err-reach_all-clause-stopped
returns-in_err-reach_all-clause-stopped g c =
    let site = g.S.Station.site c.args.self.now.station in
    let time = performs_same (ap (λ e. Applying (time_passes site e) ∷ []) c.elapsed.ensures) c.in_ok-pass.ensures.done in
    let course = c.course.view_is in
    let at_script = ap (λ n. map Applying (due n (waiting c.course.inside.left.applied c.course.inside.left.lines.now))) c.passed.ensures ∙ ap (λ k. map Applying (due (passed c.args.course.now c.args.reading) k.left)) course in
    let heard = c.in_ok-hear_all.ensures.done in
    let each = heard.1 ∙ ap (λ p. length (node_names p)) time.same_site in
    let script = performs_same at_script c.in_ok-apply_due.ensures.done in
    let asked = c.in_ok-apply_asked.ensures.done in
    let at_ends = ap (λ d. map Applying (reaches c.args.jammed.now c.args.reading 0 d)) c.deref.ensures.value ∙ ap (λ k. map Applying (reaches c.args.jammed.now c.args.reading 0 k.drives)) course in
    stopped c.from_residual-in_err-reach_all.result (record { heard = heard.0; each = each; stops = stops_then time (stops_then heard.2 (stops_then script (stops_then asked (stops_before _ (stops_same at_ends c.in_err-reach_all.ensures.stopped))))) })

-- where nodes tick
pub returns-in_err-tick_all-clause-stopped : goal.returns-in_err-tick_all-clause-stopped
returns-in_err-tick_all-clause-stopped g c =
    let site = g.S.Station.site c.args.self.now.station in
    let time = performs_same (ap (λ e. Applying (time_passes site e) ∷ []) c.elapsed.ensures) c.in_ok-pass.ensures.done in
    let course = c.course.view_is in
    let at_script = ap (λ n. map Applying (due n (waiting c.course.inside.left.applied c.course.inside.left.lines.now))) c.passed.ensures ∙ ap (λ k. map Applying (due (passed c.args.course.now c.args.reading) k.left)) course in
    let heard = c.in_ok-hear_all.ensures.done in
    let each = heard.1 ∙ ap (λ p. length (node_names p)) time.same_site in
    let script = performs_same at_script c.in_ok-apply_due.ensures.done in
    let asked = c.in_ok-apply_asked.ensures.done in
    let at_ends = ap (λ d. map Applying (reaches c.args.jammed.now c.args.reading 0 d)) c.deref.ensures.value ∙ ap (λ k. map Applying (reaches c.args.jammed.now c.args.reading 0 k.drives)) course in
    let reached = performs_same at_ends c.in_ok-reach_all.ensures.done in
    let same = reached.same_site ∙ (asked.same_site ∙ (script.same_site ∙ (heard.2.same_site ∙ time.same_site))) in
    let at_ticks = ap (λ p. map Applying (ticks (length (node_names p)))) same in
    stopped c.from_residual-in_err-tick_all.result (record { heard = heard.0; each = each; stops = stops_then time (stops_then heard.2 (stops_then script (stops_then asked (stops_then reached (stops_same at_ticks c.in_err-tick_all.ensures.stopped))))) })

-- where the record isn't handed on
pub returns-in_err-flush-clause-stopped : goal.returns-in_err-flush-clause-stopped
returns-in_err-flush-clause-stopped g c =
    let site = g.S.Station.site c.args.self.now.station in
    let time = performs_same (ap (λ e. Applying (time_passes site e) ∷ []) c.elapsed.ensures) c.in_ok-pass.ensures.done in
    let course = c.course.view_is in
    let at_script = ap (λ n. map Applying (due n (waiting c.course.inside.left.applied c.course.inside.left.lines.now))) c.passed.ensures ∙ ap (λ k. map Applying (due (passed c.args.course.now c.args.reading) k.left)) course in
    let heard = c.in_ok-hear_all.ensures.done in
    let each = heard.1 ∙ ap (λ p. length (node_names p)) time.same_site in
    let script = performs_same at_script c.in_ok-apply_due.ensures.done in
    let asked = c.in_ok-apply_asked.ensures.done in
    let at_ends = ap (λ d. map Applying (reaches c.args.jammed.now c.args.reading 0 d)) c.deref.ensures.value ∙ ap (λ k. map Applying (reaches c.args.jammed.now c.args.reading 0 k.drives)) course in
    let reached = performs_same at_ends c.in_ok-reach_all.ensures.done in
    let same = reached.same_site ∙ (asked.same_site ∙ (script.same_site ∙ (heard.2.same_site ∙ time.same_site))) in
    let at_ticks = ap (λ p. map Applying (ticks (length (node_names p)))) same in
    let ticked = performs_rest (performs_same at_ticks c.in_ok-tick_all.ensures.done) c.flush.ensures in
    let all = performs_then time (performs_then heard.2 (performs_then script (performs_then asked (performs_then reached ticked)))) in
    stopped c.from_residual-in_err-flush.result (record { heard = heard.0; each = each; stops = (stops_all all).0 })

pub returns-clause-done : goal.returns-clause-done
returns-clause-done g c =
    let site = g.S.Station.site c.args.self.now.station in
    let time = performs_same (ap (λ e. Applying (time_passes site e) ∷ []) c.elapsed.ensures) c.in_ok-pass.ensures.done in
    let course = c.course.view_is in
    let at_script = ap (λ n. map Applying (due n (waiting c.course.inside.left.applied c.course.inside.left.lines.now))) c.passed.ensures ∙ ap (λ k. map Applying (due (passed c.args.course.now c.args.reading) k.left)) course in
    let heard = c.in_ok-hear_all.ensures.done in
    let each = heard.1 ∙ ap (λ p. length (node_names p)) time.same_site in
    let script = performs_same at_script c.in_ok-apply_due.ensures.done in
    let asked = c.in_ok-apply_asked.ensures.done in
    let at_ends = ap (λ d. map Applying (reaches c.args.jammed.now c.args.reading 0 d)) c.deref.ensures.value ∙ ap (λ k. map Applying (reaches c.args.jammed.now c.args.reading 0 k.drives)) course in
    let reached = performs_same at_ends c.in_ok-reach_all.ensures.done in
    let same = reached.same_site ∙ (asked.same_site ∙ (script.same_site ∙ (heard.2.same_site ∙ time.same_site))) in
    let at_ticks = ap (λ p. map Applying (ticks (length (node_names p)))) same in
    let ticked = performs_rest (performs_same at_ticks c.in_ok-tick_all.ensures.done) c.flush.ensures in
    let all = performs_then time (performs_then heard.2 (performs_then script (performs_then asked (performs_then reached ticked)))) in
    record { heard = heard.0; each = each; performs = all }
