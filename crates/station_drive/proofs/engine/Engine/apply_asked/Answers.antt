use Rattle.std.proofs.Common.{◌≡◌, ◌+◌, List, [], ◌∷◌, ◌++◌, drop, map, sym, ap, ◌∙◌, refl, append_assoc}
use Rattle.std.proofs.lemmas.List.{drop_more, map-append}
use Rattle.simulator_event.specs.declared.event.Event.{Event}
use Rattle.station_drive.specs.Doings.{Applying}
use Rattle.station_drive.proofs.Composed.{performs_none, performs_push, stopped, stops_before, stops_same, stops_then}
use Rattle.station_drive.proofs.engine.Engine.apply_asked.Goals as goal

pub loop-place-init : goal.loop-place-init
loop-place-init g c = ([], refl, performs_none _)

pub returns-in_err-perform-clause-stopped : goal.returns-in_err-perform-clause-stopped
returns-in_err-perform-clause-stopped g c =
    let asked = c.args.asked.now in
    let place = c.loop-place.place in
    let event : Event = c.index-asked-place.result in
    let rest = drop (place + 1) asked in
    let left : drop place asked ≡ event ∷ rest = drop_more asked place c.index-asked-place.result c.loop-place-test.true ∙ ap (λ (e : Event). e ∷ rest) (sym c.index-asked-place.is) in
    let before = c.loop-place.invariant in
    let all : (before.0 ++ event ∷ []) ++ rest ≡ asked = append_assoc before.0 (event ∷ []) rest ∙ (ap (λ (l : List Event). before.0 ++ l) (sym left) ∙ before.1) in
    stopped c.from_residual.result
    (stops_same (sym (map-append Applying (before.0 ++ event ∷ []) rest) ∙ ap (λ (l : List Event). map Applying l) all)
    (stops_before (map Applying rest)
    (stops_same (sym (map-append Applying before.0 (event ∷ []))) (stops_then before.2 c.in_err-perform.ensures.stopped))))

pub loop-place-preserved : goal.loop-place-preserved
loop-place-preserved g c =
    let asked = c.args.asked.now in
    let place = c.loop-place.place in
    let event : Event = c.index-asked-place.result in
    let rest = drop (place + 1) asked in
    let left : drop place asked ≡ event ∷ rest = drop_more asked place c.index-asked-place.result c.loop-place-test.true ∙ ap (λ (e : Event). e ∷ rest) (sym c.index-asked-place.is) in
    let before = c.loop-place.invariant in (
      before.0 ++ event ∷ [],
      append_assoc before.0 (event ∷ []) rest ∙ (ap (λ (l : List Event). before.0 ++ l) (sym left) ∙ before.1),
      performs_push before.0 before.2 c.in_ok-perform.ensures.done,
    )
