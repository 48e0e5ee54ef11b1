use Rattle.std.proofs.Common.{◌≡◌, ◌+◌, List, [], ◌∷◌, ◌++◌, drop, get_or, map, Option, None, sym, ap, ◌∙◌, refl, append_assoc}
use Rattle.std.proofs.Math.Numerals.{add-one}
use Rattle.std.proofs.lemmas.List.{drop_more, map-append}
use Rattle.simulator_event.specs.declared.event.Event.{Event}
use Rattle.station_drive.specs.declared.course.Drive.{Drive}
use Rattle.station_drive.specs.Doings.{Applying}
use Rattle.station_drive.specs.Rounds.{reach, reaches, unless_jammed}
use Rattle.station_drive.proofs.Composed.{performs_none, performs_then, performs_same, stopped, stops_before, stops_then, stops_same}
use Rattle.station_drive.proofs.engine.Engine.reach_all.Goals as goal

pub loop-place-init : goal.loop-place-init
loop-place-init g c = ([], refl, performs_none _)

pub returns-in_err-reach-clause-stopped : goal.returns-in_err-reach-clause-stopped
returns-in_err-reach-clause-stopped g c =
    let before = c.loop-place.invariant in
    let drives = c.args.drives.now in
    let place = c.loop-place.place in
    let drive : Option Drive = get_or drives place None in
    let rest = drop (place + 1) drives in
    let jammed = c.args.jammed.now in
    let now : List Event = reach c.args.reading place (unless_jammed jammed place drive) in
    let at_drive = ap (λ d. map Applying (reach c.args.reading place d)) c.unless_jammed.ensures in
    let later : List Event = reaches jammed c.args.reading (place + 1) rest in
    let left : drop place drives ≡ drive ∷ rest = drop_more drives place None c.loop-place-test.true in
    let all : (before.0 ++ now) ++ later ≡ reaches jammed c.args.reading 0 drives =
    append_assoc before.0 now later
    ∙ (ap (λ l. before.0 ++ l) (ap (λ n. now ++ reaches jammed c.args.reading n rest) (add-one place) ∙ sym (ap (reaches jammed c.args.reading place) left)) ∙ before.1) in
    stopped c.from_residual.result
    (stops_same (sym (map-append Applying (before.0 ++ now) later) ∙ ap (λ (l : List Event). map Applying l) all)
    (stops_before (map Applying later)
    (stops_same (sym (map-append Applying before.0 now)) (stops_then before.2 (stops_same at_drive c.in_err-reach.ensures.stopped)))))

pub loop-place-preserved : goal.loop-place-preserved
loop-place-preserved g c =
    let before = c.loop-place.invariant in
    let drives = c.args.drives.now in
    let place = c.loop-place.place in
    let drive : Option Drive = get_or drives place None in
    let rest = drop (place + 1) drives in
    let jammed = c.args.jammed.now in
    let now : List Event = reach c.args.reading place (unless_jammed jammed place drive) in
    let at_drive = ap (λ d. map Applying (reach c.args.reading place d)) c.unless_jammed.ensures in
    let left : drop place drives ≡ drive ∷ rest = drop_more drives place None c.loop-place-test.true in (
      before.0 ++ now,
      append_assoc before.0 now (reaches jammed c.args.reading (place + 1) rest)
          ∙ (ap (λ l. before.0 ++ l) (ap (λ n. now ++ reaches jammed c.args.reading n rest) (add-one place) ∙ sym (ap (reaches jammed c.args.reading place) left)) ∙ before.1),
      performs_same (sym (map-append Applying before.0 now)) (performs_then before.2 (performs_same at_drive c.in_ok-reach.ensures.done)),
    )
