use Rattle.std.proofs.Common.{◌∙◌, Some, ap, sym}
use Rattle.std.specs.List.{position}
use Rattle.std.specs.Str.{bytes_eq}
use Rattle.station_plan.specs.Faces.{aspect_state, known, occupancy_state, state_for}
use Rattle.station_plan.proofs.seen_words.state_word.Goals as goal

pub returns-in-Section : goal.returns-in-Section
returns-in-Section c =
    let l = c.args.layout.now in
    let name = c.in-Section.name in
    let seen = c.in-Some.seen in
    let place = c.place_of-place.ensures ∙ (ap (λ word. position (λ section. bytes_eq section word) c.sections.result.now) c.as_str.ensures
    ∙ ap (λ sections. position (λ section. bytes_eq section name) sections) c.sections.ensures) in
    let occupancy = c.known.ensures ∙ (ap (λ list. known list c.place_of-place.result) c.deref.ensures.value ∙ ap (λ place. known seen.occupancies.items place) place) in
    c.occupancy_words.ensures ∙ (ap occupancy_state occupancy
    ∙ sym (ap (λ seen. state_for l seen c.args.subject.now) c.in-Some.is ∙ ap (λ subject. state_for l (Some seen) subject) c.in-Section.is))

pub returns-in-Signal : goal.returns-in-Signal
returns-in-Signal c =
    let l = c.args.layout.now in
    let name = c.in-Signal.name in
    let seen = c.in-Some.seen in
    let place = c.place_of-place-in-Signal.ensures ∙ (ap (λ word. position (λ signal. bytes_eq signal.name word) c.signals.result.now) c.as_str-in-Signal.ensures
    ∙ ap (λ signals. position (λ signal. bytes_eq signal.name name) signals) c.signals.ensures) in
    let aspect = c.known-in-Signal.ensures ∙ (ap (λ list. known list c.place_of-place-in-Signal.result) c.deref-in-Signal.ensures.value ∙ ap (λ place. known seen.aspects.items place) place) in
    c.aspect_words.ensures ∙ (ap aspect_state aspect
    ∙ sym (ap (λ seen. state_for l seen c.args.subject.now) c.in-Some.is ∙ ap (λ subject. state_for l (Some seen) subject) c.in-Signal.is))
