use Rattle.std.proofs.Common.{◌≡◌, ◌≤◌, ◌+◌, ◌∷◌, drop, take, length, sym, ap, ◌∙◌, refl, arith}
use Rattle.std.proofs.Math.ListN.{drop_of_length-le}
use Rattle.std.proofs.Math.Seq.{take-length}
use Rattle.std.proofs.lemmas.List.{drop_more, length-drop}
use Rattle.station_drive.specs.Inside.{rises}
use Rattle.station_drive.specs.Rounds.{not_due}
use Rattle.station_drive.proofs.WaitingLines.{not_due_more, rises_drop}
use Rattle.station_drive.proofs.waiting_lines.behind.Goals as goal

pub loop-place-init : goal.loop-place-init
loop-place-init c = λ applied h. refl

pub returns-then-passed-time-clause-left : goal.returns-then-passed-time-clause-left
returns-then-passed-time-clause-left c =
    let behind = drop c.loop-place.place c.args.lines.now in
    let whole = ap (λ n. take n behind) (sym (length-drop c.loop-place.place c.args.lines.now)) ∙ take-length behind in
    λ applied h. ap (not_due applied) whole ∙ c.loop-place.invariant applied h

pub returns-then-passed-time-clause-in_order : goal.returns-then-passed-time-clause-in_order
returns-then-passed-time-clause-in_order c =
    let behind = drop c.loop-place.place c.args.lines.now in
    let whole = ap (λ n. take n behind) (sym (length-drop c.loop-place.place c.args.lines.now)) ∙ take-length behind in
    λ order. ap (rises 0) whole ∙ rises_drop c.loop-place.place c.args.lines.now order

pub loop-place-preserved : goal.loop-place-preserved
loop-place-preserved c =
    let lines = c.args.lines.now in
    let place = c.loop-place.place in
    let line = c.index-lines-place.result in
    let rest = drop (place + 1) lines in
    let left : drop place lines ≡ line ∷ rest = drop_more lines place line c.loop-place-test.true ∙ ap (λ e. e ∷ rest) (sym c.index-lines-place.is) in
    let is_due = c.if-passed-time.false in
    λ applied h. sym (ap (not_due applied) left ∙ not_due_more applied line rest (omega (arith, is_due, h))) ∙ c.loop-place.invariant applied h

pub returns-clause-left : goal.returns-clause-left
returns-clause-left c =
    let lines = c.args.lines.now in
    let past : length lines ≤ c.loop-place.place = omega arith in
    λ applied h. sym (ap (not_due applied) (drop_of_length-le lines past)) ∙ c.loop-place.invariant applied h
