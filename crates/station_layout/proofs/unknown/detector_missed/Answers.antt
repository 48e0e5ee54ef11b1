use Rattle.std.proofs.Common.{◌≡◌, ◌∙◌, Some, ap, length, refl, sym}
use Rattle.std.proofs.lemmas.Option.{slice_get_read}
use Rattle.std.specs.Prelude.{option_and_then, slice_get}
use Rattle.layout_text.specs.Written.{DetectorText, LayoutText}
use Rattle.station_layout.specs.UnknownAdvice.{first_missed}
use Rattle.station_layout.specs.declared.advice.Missed.TheVariants as missing
use Rattle.station_layout.specs.declared.field_key.FieldKey.TheVariants as key
use Rattle.station_layout.proofs.unknown.detector_missed.Goals as goal

pub returns : goal.returns
returns c =
    let missed_of = λ (d : DetectorText). first_missed c.args.written.now c.args.place key.Sections (λ name. missing.Section name) 0 d.sections in
    let told : c.first_missed.result ≡ first_missed c.args.written.now c.args.place key.Sections (λ name. missing.Section name) 0 c.sections-sections.result.now = c.first_missed.ensures in
    let lookup = c.in_ok-get.ensures.lookup in
    let entries = c.deref.ensures.value ∙ ap (λ (w : LayoutText). w.detectors) c.written.view_is in
    let here = slice_get_read c.deref.result.now (length c.deref.result.now) c.args.before c.in_ok-get.field-0.now refl lookup.3.0 lookup.1 in
    let found : slice_get c.args.written.now.detectors c.args.before ≡ Some c.in_ok-get.field-0.now = ap (λ ds. slice_get ds c.args.before) (sym entries) ∙ here in
    told ∙ (ap (λ names. first_missed c.args.written.now c.args.place key.Sections (λ name. missing.Section name) 0 names) c.sections-sections.ensures
    ∙ sym (ap (λ d. option_and_then missed_of d) found))
