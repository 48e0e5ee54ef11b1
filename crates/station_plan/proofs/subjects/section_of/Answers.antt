use Rattle.std.proofs.Common.{◌∙◌, ap, length, refl, sym, Option}
use Rattle.std.proofs.lemmas.Option.{slice_get_past, slice_get_read}
use Rattle.std.specs.Option.{option_map}
use Rattle.std.specs.Prelude.{slice_get}
use Rattle.control_table.specs.Topology.{section_of}
use Rattle.control_table.specs.layout.declared.entries.Track.{Track}
use Rattle.control_table.specs.layout.declared.entries.Point.{Point}
use Rattle.station_plan.proofs.subjects.section_of.Goals as goal

pub returns-in-Some : goal.returns-in-Some
returns-in-Some c =
    let place = c.in-Track.track.0 in
    let lookup = c.in-Some.ensures.lookup in
    let here = slice_get_read c.tracks.result.now (length c.tracks.result.now) place c.in-Some.entry.now refl lookup.3.0 lookup.1 in
    let found = ap (λ tracks. slice_get tracks place) (sym c.tracks.ensures) ∙ here in
    sym (ap (section_of c.args.layout.now) c.in-Track.is ∙ ap (λ (found : Option Track). option_map (λ track. track.section) found) found)

pub returns-in-None : goal.returns-in-None
returns-in-None c =
    let place = c.in-Track.track.0 in
    let past = slice_get_past c.tracks.result.now place c.in-None.ensures.lookup.3 in
    let none = ap (λ tracks. slice_get tracks place) (sym c.tracks.ensures) ∙ past in
    sym (ap (section_of c.args.layout.now) c.in-Track.is ∙ ap (λ (found : Option Track). option_map (λ track. track.section) found) none)

pub returns-in-Some-get : goal.returns-in-Some-get
returns-in-Some-get c =
    let place = c.in-Point.point.0 in
    let lookup = c.in-Some-get.ensures.lookup in
    let here = slice_get_read c.points.result.now (length c.points.result.now) place c.in-Some-get.entry.now refl lookup.3.0 lookup.1 in
    let found = ap (λ points. slice_get points place) (sym c.points.ensures) ∙ here in
    sym (ap (section_of c.args.layout.now) c.in-Point.is ∙ ap (λ (found : Option Point). option_map (λ point. point.section) found) found)

pub returns-in-None-get : goal.returns-in-None-get
returns-in-None-get c =
    let place = c.in-Point.point.0 in
    let past = slice_get_past c.points.result.now place c.in-None-get.ensures.lookup.3 in
    let none = ap (λ points. slice_get points place) (sym c.points.ensures) ∙ past in
    sym (ap (section_of c.args.layout.now) c.in-Point.is ∙ ap (λ (found : Option Point). option_map (λ point. point.section) found) none)
