use Rattle.std.proofs.Common.{◌≡◌, ◌≢◌, ◌+◌, ◌∷◌, ◌∙◌, drop, sym, ap, refl}
use Rattle.std.proofs.lemmas.List.{drop_more}
use Rattle.replay_lines.proofs.AgreedSoFar.{goes_on, ends, closes, failed}
use Rattle.replay_lines.proofs.agreement.replay.Goals as goal

pub returns-then-not-branch : goal.returns-then-not-branch
returns-then-not-branch g c =
    let station = g.S.Station in
    let entries = c.args.entries.now in
    let entry = c.index-entries-place.result in
    let place = c.loop-place.place in
    let left : drop place entries ≡ entry ∷ drop (place + 1) entries =
    drop_more entries place entry c.loop-place-test.true ∙ ap (λ e. e ∷ drop (place + 1) entries) (sym c.index-entries-place.is) in
    let other : station.does.answer (station.state c.loop-place.station) entry.event ≢ entry.answer = failed c.in_ok-agrees.field-0 c.in_ok-agrees.ensures.same c.if-not-branch.true in
    (place, refl, ends station.does entries _ _ place entry left other c.loop-place.invariant)

pub loop-place-preserved : goal.loop-place-preserved
loop-place-preserved g c =
    let station = g.S.Station in
    let entries = c.args.entries.now in
    let entry = c.index-entries-place.result in
    let place = c.loop-place.place in
    let left : drop place entries ≡ entry ∷ drop (place + 1) entries =
    drop_more entries place entry c.loop-place-test.true ∙ ap (λ e. e ∷ drop (place + 1) entries) (sym c.index-entries-place.is) in
    let same : station.does.answer (station.state c.loop-place.station) entry.event ≡ entry.answer = c.in_ok-agrees.ensures.same.0 c.if-not-branch.false in
    goes_on station.does entries _ _ _ place entry left same c.in_ok-agrees.ensures.happens c.loop-place.invariant

pub returns : goal.returns
returns g c =
    let station = g.S.Station in
    closes station.does c.args.entries.now _ _ c.loop-place.place c.loop-place-test.false c.loop-place.invariant
