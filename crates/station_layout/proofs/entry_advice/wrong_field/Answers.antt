use Rattle.std.proofs.Common.{◌∙◌, ap}
use Rattle.std.proofs.lemmas.Bool.{ne_eqb}
use Rattle.std.specs.Prelude.{option_and_then}
use Rattle.toml.specs.View.{table_view}
use Rattle.station_layout.specs.EntryAdvice.{first_wrong, wrong_field}
use Rattle.station_layout.specs.FieldKeys.{all_keys}
use Rattle.station_layout.proofs.entry_advice.wrong_field.Goals as goal

pub returns : goal.returns
unfolding wrong_field
returns c =
    let place = c.args.place in
    let told = ap (option_and_then (λ fields. first_wrong place fields (all_keys place.table))) c.in_ok-fields.ensures in
    rw (ne_eqb place.entry 0 c.if-place-eq0.false) (c.first_wrong.ensures ∙ (ap (first_wrong place (table_view c.in_ok-fields.fields.now)) c.keys_of.ensures ∙ told))
