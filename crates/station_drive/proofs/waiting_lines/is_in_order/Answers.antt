use Rattle.std.proofs.Common.{◌≡◌, ◌≤◌, ◌+◌, ◌∷◌, drop, length, sym, ap, ◌∙◌, refl, arith}
use Rattle.std.proofs.Math.ListN.{drop_of_length-le}
use Rattle.std.proofs.lemmas.List.{drop_more}
use Rattle.station_drive.specs.Inside.{rises}
use Rattle.station_drive.proofs.WaitingLines.{rises_less, rises_more}
use Rattle.station_drive.proofs.waiting_lines.is_in_order.Goals as goal

pub loop-place-init : goal.loop-place-init
loop-place-init c = refl

pub returns-then-time-earlier : goal.returns-then-time-earlier
returns-then-time-earlier c =
    let script = c.args.script.now in
    let place = c.loop-place.place in
    let line = c.index-script-place.result in
    let rest = drop (place + 1) script in
    let left : drop place script ≡ line ∷ rest = drop_more script place line c.loop-place-test.true ∙ ap (λ e. e ∷ rest) (sym c.index-script-place.is) in
    sym (c.loop-place.invariant ∙ (ap (rises c.loop-place.earlier) left ∙ rises_less c.loop-place.earlier line rest c.if-time-earlier.true))

pub loop-place-preserved : goal.loop-place-preserved
loop-place-preserved c =
    let script = c.args.script.now in
    let place = c.loop-place.place in
    let line = c.index-script-place.result in
    let rest = drop (place + 1) script in
    let left : drop place script ≡ line ∷ rest = drop_more script place line c.loop-place-test.true ∙ ap (λ e. e ∷ rest) (sym c.index-script-place.is) in
    c.loop-place.invariant ∙ (ap (rises c.loop-place.earlier) left ∙ rises_more c.loop-place.earlier line rest c.if-time-earlier.false)

pub returns : goal.returns
returns c =
    let script = c.args.script.now in
    let past : length script ≤ c.loop-place.place = omega arith in
    sym (c.loop-place.invariant ∙ ap (rises c.loop-place.earlier) (drop_of_length-le script past))
