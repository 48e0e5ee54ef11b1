use Rattle.std.proofs.Common.{◌∙◌, ℕ, List, ap, length, refl, sym}
use Rattle.std.proofs.lemmas.Option.{slice_get_read}
use Rattle.std.specs.Prelude.{option_and_then, slice_get}
use Rattle.layout_text.specs.Written.{DetectorText, LayoutText}
use Rattle.station_layout.specs.Search.{first_of}
use Rattle.station_layout.specs.SharedAdvice.{shared_with}
use Rattle.station_layout.specs.declared.advice.Common.TheVariants as common
use Rattle.station_layout.proofs.shared.detector_shared.Goals as goal

pub returns : goal.returns
returns c =
    let told_of = λ (names : List (List ℕ)). first_of (λ section. shared_with c.args.written.now c.args.place (common.Section section)) names in
    let lookup = c.in_ok-detector.ensures.lookup in
    let entries = c.deref.ensures.value ∙ ap (λ (w : LayoutText). w.detectors) c.written.view_is in
    let here = slice_get_read c.deref.result.now (length c.deref.result.now) c.saturating_sub.result c.in_ok-detector.detector.now refl lookup.3.0 lookup.1 in
    let found = ap (slice_get c.args.written.now.detectors) (sym c.saturating_sub.ensures) ∙ (ap (λ ds. slice_get ds c.saturating_sub.result) (sym entries) ∙ here) in
    c.first_shared.ensures ∙ (ap told_of c.sections.ensures ∙ sym (ap (λ d. option_and_then (λ (d : DetectorText). told_of d.sections) d) found))
