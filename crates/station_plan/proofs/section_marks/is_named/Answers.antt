use Rattle.std.proofs.Common.{◌∙◌, ap, ap₂, length, refl, sym}
use Rattle.std.proofs.lemmas.Option.{slice_get_past, slice_get_read}
use Rattle.std.specs.Prelude.{slice_get}
use Rattle.std.specs.Str.{bytes_eq}
use Rattle.station_plan.specs.Faces.{is_name}
use Rattle.station_plan.proofs.section_marks.is_named.Goals as goal

pub returns-in-Some : goal.returns-in-Some
returns-in-Some c =
    let place = c.args.section.0 in
    let lookup = c.in-Some.ensures.lookup in
    let here = slice_get_read c.sections.result.now (length c.sections.result.now) place c.in-Some.other.now refl lookup.3.0 lookup.1 in
    let found = ap (λ sections. slice_get sections place) (sym c.sections.ensures) ∙ here in
    c.eq.ensures ∙ (ap₂ bytes_eq c.as_str.ensures c.as_str-in-Some.ensures ∙ sym (ap (is_name c.args.name.now) found))

pub returns-in-None : goal.returns-in-None
returns-in-None c =
    let place = c.args.section.0 in
    let past = slice_get_past c.sections.result.now place c.in-None.ensures.lookup.3 in
    sym (ap (is_name c.args.name.now) (ap (λ sections. slice_get sections place) (sym c.sections.ensures) ∙ past))
