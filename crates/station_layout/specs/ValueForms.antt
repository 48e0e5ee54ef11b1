-- Whether values have the form that their key wants, and what is wrong with them.
use Rattle.std.specs.Prelude.{ℕ, ℤ, pos, ◌==◌, ◌&&◌, ◌||◌, nat_le, Bool, true, false, List, length, codes, Option, Some, None, is_some, if◌then◌else◌}
use Rattle.std.specs.Char.{is_ascii_hexdigit}
use Rattle.std.specs.List.{list_all, list_any, before_first, after_first}
use Rattle.std.specs.Str.{bytes_eq}
use Rattle.toml.specs.Data.{Data, Items, no_items, item, Members, no_members, member, as_str, as_array, as_table, as_integer}
use Rattle.control_table.specs.sci_telegram.Words.{aspect_of_word, side_of_word}
use Rattle.layout_text.specs.Values.{is_dot, is_name, route_aspect}
use Rattle.layout_text.specs.declared.fault.Place.{Place}
use Rattle.station_layout.specs.FieldKeys.{item_key, kind_of}
use Rattle.station_layout.specs.Places.{counted, some_and}
use Rattle.station_layout.specs.declared.advice.EntryAdvice.{EntryAdvice}
use Rattle.station_layout.specs.declared.advice.EntryAdvice.TheVariants.{Wrong}
use Rattle.station_layout.specs.declared.advice.Spot.TheVariants.{Field, Item}
use Rattle.station_layout.specs.declared.field_key.FieldKey.{FieldKey}
use Rattle.station_layout.specs.declared.field_key.FieldKey.TheVariants as key

-- ---- texts

abbrev pub is_end_word : List ℕ → Bool
is_end_word word = bytes_eq word (codes "a") || bytes_eq word (codes "b") || bytes_eq word (codes "tip") || bytes_eq word (codes "left") || bytes_eq word (codes "right") || bytes_eq word (codes "end")

-- a port is written as the name of its element, a dot and its word
abbrev pub is_port_text : List ℕ → Bool
is_port_text text = if list_any is_dot text then is_name (before_first is_dot text) && is_end_word (after_first is_dot text) else false

abbrev pub is_aspect_word : List ℕ → Bool
is_aspect_word word = is_some (route_aspect (aspect_of_word word))

-- 32 hexadecimal digits
abbrev pub is_code_text : List ℕ → Bool
is_code_text text = (length text == 32) && list_all is_ascii_hexdigit text

-- a text has the form that its key wants
unfoldable pub text_fits : FieldKey → List ℕ → Bool
text_fits key.Name text = is_name text
text_fits key.Section text = is_name text
text_fits key.Entry text = is_name text
text_fits key.Exit text = is_name text
text_fits key.At text = is_port_text text
text_fits key.Code text = is_code_text text
text_fits key.Aspect text = is_aspect_word text
text_fits _ text = false

-- ---- values that are no arrays

-- an identity: 1 to 4294967295
abbrev pub is_id_number : Option ℤ → Bool
is_id_number (Some (pos n)) = nat_le 1 n && nat_le n 4294967295
is_id_number _ = false

abbrev pub is_id : Data → Bool
is_id d = is_id_number (as_integer d)

-- a member is a point with its side
abbrev pub is_side_word : List ℕ → Bool
is_side_word word = is_some (side_of_word word)

abbrev pub side_fits : List ℕ → Data → Bool
side_fits point side = some_and (λ word. is_name point && is_side_word word) (as_str side)

abbrev pub sides_fit : Members → Bool
sides_fit no_members = true
sides_fit (member point side rest) = if side_fits point side then sides_fit rest else false

abbrev pub are_sides : Data → Bool
are_sides d = some_and sides_fit (as_table d)

-- it has the form that its key wants
unfoldable pub fits : FieldKey → Data → Bool
fits key.Id d = is_id d
fits key.Points d = are_sides d
fits key.Flank d = are_sides d
fits k d = some_and (text_fits k) (as_str d)

-- ---- what is wrong with a value

-- The first item of the array under a key that isn't as another key wants its value, counted from 1 after so many others.
abbrev pub unfit_item : Place → FieldKey → FieldKey → ℕ → Items → Option EntryAdvice
unfit_item place key one n no_items = None
unfit_item place key one n (item d ds) =
    if fits one d then unfit_item place key one (counted n) ds else Some (Wrong (Item place key (counted n)) (kind_of d))

-- It isn't as its key wants it: an array by an item, and otherwise itself.
abbrev pub unfit_value : Place → FieldKey → Data → Option EntryAdvice
unfit_value place key d = if fits key d then None else Some (Wrong (Field place key) (kind_of d))

abbrev pub unfit_items : Place → FieldKey → FieldKey → Data → Option Items → Option EntryAdvice
unfit_items place key one d None = unfit_value place key d
unfit_items place key one d (Some items) = unfit_item place key one 0 items

abbrev pub misfit_by : Place → FieldKey → Data → Option FieldKey → Option EntryAdvice
misfit_by place key d None = unfit_value place key d
misfit_by place key d (Some one) = unfit_items place key one d (as_array d)

unfoldable pub misfit : Place → FieldKey → Data → Option EntryAdvice
misfit place key d = misfit_by place key d (item_key key)
