use Rattle.std.proofs.Common.{◌∙◌, ap, length, refl, sym}
use Rattle.std.proofs.lemmas.Option.{slice_get_past, slice_get_read}
use Rattle.station_plan.specs.Faces.{entry, known}
use Rattle.station_plan.proofs.seen_words.known.Goals as goal

pub returns-in-Some-get : goal.returns-in-Some-get
returns-in-Some-get o c =
    let lookup = c.in-Some-get.ensures.lookup in
    let here = slice_get_read c.args.list.now (length c.args.list.now) c.in-Some.place c.in-Some-get.entry.now refl lookup.3.0 lookup.1 in
    sym (ap (known c.args.list.now) c.in-Some.is ∙ ap entry here)

pub returns-in-None-get : goal.returns-in-None-get
returns-in-None-get o c =
    let past = slice_get_past c.args.list.now c.in-Some.place c.in-None-get.ensures.lookup.3 in
    sym (ap (known c.args.list.now) c.in-Some.is ∙ ap entry past)
