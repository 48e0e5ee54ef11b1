-- Which key of an entry is missing, or has another value than is wanted: the first one in the order in which keys are read.
use Rattle.std.specs.Prelude.{ℕ, ◌==◌, ◌-◌, ◌&&◌, List, [], ◌∷◌, Option, Some, None, is_none, option_and_then, if◌then◌else◌}
use Rattle.std.specs.Option.{option_map, option_or, unwrap_or}
use Rattle.toml.specs.Data.{Data, Members, as_table, at, get_member}
use Rattle.layout_text.specs.Messages.{table_text}
use Rattle.layout_text.specs.declared.fault.Place.{Place}
use Rattle.layout_text.specs.declared.fault.TableName.{TableName}
use Rattle.layout_text.specs.declared.fault.TableName.TheVariants as named
use Rattle.station_layout.specs.FieldKeys.{all_keys, is_required, key_text, kind_of}
use Rattle.station_layout.specs.ValueForms.{misfit}
use Rattle.station_layout.specs.declared.advice.EntryAdvice.{EntryAdvice}
use Rattle.station_layout.specs.declared.advice.EntryAdvice.TheVariants.{Absent, Missing, Wrong}
use Rattle.station_layout.specs.declared.advice.Spot.TheVariants.{Entry}
use Rattle.station_layout.specs.declared.field_key.FieldKey.{FieldKey}

-- The value of an entry. Place 0 is the key itself, and the station is a table of its own.
abbrev pub data_in : TableName → ℕ → Data → Option Data
data_in named.Station n d = Some d
data_in table n d = if n == 0 then Some d else at (n - 1) d

unfoldable pub entry_data : Place → Members → Option Data
entry_data place document = option_and_then (data_in place.table place.entry) (get_member (table_text place.table) document)

-- ---- a key that is missing

abbrev pub first_lacking : Members → List FieldKey → Option FieldKey
first_lacking fields [] = None
first_lacking fields (key ∷ keys) = if is_required key && is_none (get_member (key_text key) fields) then Some key else first_lacking fields keys

abbrev pub lacking_in : Place → Data → Option FieldKey
lacking_in place d = option_and_then (λ fields. first_lacking fields (all_keys place.table)) (as_table d)

abbrev pub missing_told : Members → Place → Option EntryAdvice
missing_told document place =
    if place.entry == 0 then Some (Absent place.table)
    else option_map (Missing place) (option_and_then (lacking_in place) (entry_data place document))

-- ---- a value of another kind or form

abbrev pub wrong_at : Place → Members → FieldKey → Option EntryAdvice
wrong_at place fields key = option_and_then (misfit place key) (get_member (key_text key) fields)

abbrev pub first_wrong : Place → Members → List FieldKey → Option EntryAdvice
first_wrong place fields [] = None
first_wrong place fields (key ∷ keys) = option_or (wrong_at place fields key) (first_wrong place fields keys)

unfoldable pub wrong_field : Place → Data → Option EntryAdvice
wrong_field place d = if place.entry == 0 then None else option_and_then (λ fields. first_wrong place fields (all_keys place.table)) (as_table d)

abbrev pub wrong_told : Members → Place → Option EntryAdvice
wrong_told document place = option_map (λ d. unwrap_or (wrong_field place d) (Wrong (Entry place) (kind_of d))) (entry_data place document)
