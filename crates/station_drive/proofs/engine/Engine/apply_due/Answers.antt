use Rattle.std.proofs.Common.{◌≡◌, ℕ, ◌+◌, List, [], ◌∷◌, ◌++◌, true, false, drop, get_or, map, sym, ap, subst, ◌∙◌, refl, append-nil}
use Rattle.std.proofs.lemmas.List.{drop_more, map-append}
use Rattle.simulator_event.specs.declared.event.Event.{Event}
use Rattle.station_drive.specs.Doings.{Applying}
use Rattle.station_drive.specs.Inside.{rises, waiting}
use Rattle.station_drive.specs.Rounds.{due}
use Rattle.station_drive.proofs.Composed.{performs_none, performs_push, performs_same, stopped, stops_before, stops_then, stops_same}
use Rattle.station_drive.proofs.Rows.{moved}
use Rattle.station_drive.proofs.WaitingLines.{due_later, due_waiting, none_due_from, rises_drop}
use Rattle.station_drive.proofs.engine.Engine.apply_due.Goals as goal
use Rattle.station_drive.proofs.engine.Engine.apply_due.Goals.{then-passed-time+else-script, else-passed-time+then-waits+in_ok-perform, else-passed-time+else-waits}

pub loop-place-init : goal.loop-place-init
loop-place-init g c = ([], refl, performs_none _)

-- in a script in order none is due after a line that isn't
pub returns-then-script-clause-done : goal.returns-then-script-clause-done
returns-then-script-clause-done g c =
    let lines = c.args.script.now.lines.now in
    let applied = c.args.script.now.applied in
    let passed = c.args.passed in
    let place = c.loop-place.place in
    let line = get_or lines place c.index-script-place.result in
    let rest = drop (place + 1) lines in
    let left : drop place lines ≡ line ∷ rest = drop_more lines place c.index-script-place.result c.loop-place-test.true in
    let before = c.loop-place.invariant in
    let order : rises 0 (line ∷ rest) ≡ true = subst (λ (l : List (ℕ × Event)). rises 0 l ≡ true) left (rises_drop place lines (c.args.script.now.sound c.if-script.true)) in
    let none : due passed (waiting applied (drop place lines)) ≡ [] = ap (λ (l : List (ℕ × Event)). due passed (waiting applied l)) left ∙ none_due_from applied passed line rest c.if-passed-time.true order in
    performs_same (ap (λ (l : List Event). map Applying l) (sym (append-nil before.0) ∙ (ap (λ (l : List Event). before.0 ++ l) (sym none) ∙ before.1))) before.2

pub returns-in_err-perform-clause-stopped : goal.returns-in_err-perform-clause-stopped
returns-in_err-perform-clause-stopped g c =
    let lines = c.args.script.now.lines.now in
    let applied = c.args.script.now.applied in
    let passed = c.args.passed in
    let place = c.loop-place.place in
    let line = get_or lines place c.index-script-place.result in
    let rest = drop (place + 1) lines in
    let left : drop place lines ≡ line ∷ rest = drop_more lines place c.index-script-place.result c.loop-place-test.true in
    let before = c.loop-place.invariant in
    let behind : List Event = due passed (waiting applied rest) in
    let next = ap (λ (l : List (ℕ × Event)). due passed (waiting applied l)) left ∙ due_waiting applied passed line rest true (sym c.waits.ensures ∙ c.if-waits.true) c.if-passed-time.false in
    let all : (before.0 ++ line.1 ∷ []) ++ behind ≡ due passed (waiting applied lines) = moved before.0 _ _ line.1 behind next before.1 in
    stopped c.from_residual.result
    (stops_same (sym (map-append Applying (before.0 ++ line.1 ∷ []) behind) ∙ ap (λ (l : List Event). map Applying l) all)
    (stops_before (map Applying behind)
    (stops_same (sym (map-append Applying before.0 (line.1 ∷ []))) (stops_then before.2 c.in_err-perform.ensures.stopped))))

pub loop-place-preserved : goal.loop-place-preserved
loop-place-preserved g c =
    let lines = c.args.script.now.lines.now in
    let applied = c.args.script.now.applied in
    let passed = c.args.passed in
    let place = c.loop-place.place in
    let line = get_or lines place c.index-script-place.result in
    let rest = drop (place + 1) lines in
    let left : drop place lines ≡ line ∷ rest = drop_more lines place c.index-script-place.result c.loop-place-test.true in
    let before = c.loop-place.invariant in
    elim c.if-passed-time.branch [
      | then-passed-time+else-script w ↦ rw (w.self-is) (
        before.0,
        ap (λ (l : List Event). before.0 ++ l) (sym (ap (λ (l : List (ℕ × Event)). due passed (waiting applied l)) left ∙ due_later applied passed line rest w.if-passed-time.true)) ∙ before.1,
        before.2,
      )
      | else-passed-time+then-waits+in_ok-perform w ↦ rw (w.self-is) (
        before.0 ++ line.1 ∷ [],
        moved before.0 _ _ line.1 _
            (ap (λ (l : List (ℕ × Event)). due passed (waiting applied l)) left ∙ due_waiting applied passed line rest true (sym w.waits.ensures ∙ w.if-waits.true) w.if-passed-time.false)
            before.1,
        performs_push before.0 before.2 w.in_ok-perform.ensures.done,
      )
      | else-passed-time+else-waits w ↦ rw (w.self-is) (
        before.0,
        ap (λ (l : List Event). before.0 ++ l)
            (sym (ap (λ (l : List (ℕ × Event)). due passed (waiting applied l)) left
            ∙ due_waiting applied passed line rest false (sym w.waits.ensures ∙ w.if-waits.false) w.if-passed-time.false))
            ∙ before.1,
        before.2,
      )
    ]
