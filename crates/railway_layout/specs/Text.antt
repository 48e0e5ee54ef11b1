-- What the text of a railway writes: the tests for missing keys and wrong kinds, in reading order.
use Rattle.std.specs.Prelude.{ℕ, ℤ, pos, ◌&&◌, Bool, false, nat_le, List, codes, Option, Some, None, is_some, Ok, Err, if◌then◌else◌}
use Rattle.std.specs.Option.{ok_or}
use Rattle.toml.specs.Data.{Data, Items, Members, get_member, as_str, as_array, as_table, as_integer}
use Rattle.toml.specs.Parse.{parse_document}
use Rattle.layout_text.specs.Values.{item_list, is_name}
use Rattle.railway_layout.specs.declared.fault.Place.{Place}
use Rattle.railway_layout.specs.declared.fault.Place.TheVariants.{Station, Line, First, Second}
use Rattle.railway_layout.specs.declared.fault.TextFault.TheVariants.{Toml, MissingKey, WrongKind}
use Rattle.railway_layout.specs.Reading.{Read, ◌>>=◌, each_of}
use Rattle.railway_layout.specs.Written.{StationText, EndText, LineText, RailwayText}

-- ---- values

-- the value of a field that has to be there
abbrev pub field_at : List ℕ → Place → Members → Read Data
field_at key place members = ok_or (get_member key members) (MissingKey place)

abbrev pub text_at : Place → Data → Read (List ℕ)
text_at place d = ok_or (as_str d) (WrongKind place)

abbrev pub items_or_fault : Place → Option Items → Read (List Data)
items_or_fault place None = Err (WrongKind place)
items_or_fault place (Some ds) = Ok (item_list ds)

-- the items of an array, as a list
abbrev pub array_at : Place → Data → Read (List Data)
array_at place d = items_or_fault place (as_array d)

abbrev pub table_at : Place → Data → Read Members
table_at place d = ok_or (as_table d) (WrongKind place)

-- a name has 1 to 20 of A to Z, a to z, 0 to 9 and `-`
abbrev pub name_of : Place → List ℕ → Read (List ℕ)
name_of place text = if is_name text then Ok text else Err (WrongKind place)

unfoldable pub name_at : Place → Data → Read (List ℕ)
name_at place d = text_at place d >>= λ text. name_of place text

-- an identity: 1 to 4294967295
abbrev pub id_of : Place → Option ℤ → Read ℕ
id_of place (Some (pos n)) = if nat_le 1 n && nat_le n 4294967295 then Ok n else Err (WrongKind place)
id_of place _ = Err (WrongKind place)

abbrev pub id_at : Place → Data → Read ℕ
id_at place d = id_of place (as_integer d)

-- the names of a list, all at one place
abbrev pub name_in_list : Place → ℕ → Data → Read (List ℕ)
name_in_list place n d = name_at place d

unfoldable pub names_at : Place → Data → Read (List (List ℕ))
names_at place d = array_at place d >>= λ items. each_of (name_in_list place) 1 items

-- ---- fields that have to be there

unfoldable pub name_field : List ℕ → Place → Members → Read (List ℕ)
name_field key place fields = field_at key place fields >>= λ d. name_at place d

unfoldable pub text_field : List ℕ → Place → Members → Read (List ℕ)
text_field key place fields = field_at key place fields >>= λ d. text_at place d

unfoldable pub id_field : List ℕ → Place → Members → Read ℕ
id_field key place fields = field_at key place fields >>= λ d. id_at place d

unfoldable pub names_field : List ℕ → Place → Members → Read (List (List ℕ))
names_field key place fields = field_at key place fields >>= λ d. names_at place d

-- ---- the entries

unfoldable pub station_at : ℕ → Data → Read StationText
station_at n d = do
  fields ← table_at (Station n) d
  name ← name_field (codes "name") (Station n) fields
  layout ← text_field (codes "layout") (Station n) fields
  Ok (record { name = name; layout = layout })

unfoldable pub end_at : Place → Data → Read EndText
end_at place d = do
  fields ← table_at place d
  station ← name_field (codes "station") place fields
  border ← name_field (codes "border") place fields
  lock ← name_field (codes "lock") place fields
  clear ← name_field (codes "clear") place fields
  part ← names_field (codes "part") place fields
  id ← id_field (codes "id") place fields
  Ok (record { station = station; border = border; lock = lock; clear = clear; part = part; id = id })

unfoldable pub end_field : List ℕ → Place → Members → Read EndText
end_field key place fields = field_at key place fields >>= λ d. end_at place d

unfoldable pub line_at : ℕ → Data → Read LineText
line_at n d = do
  fields ← table_at (Line n) d
  name ← name_field (codes "name") (Line n) fields
  first ← end_field (codes "first") (First n) fields
  second ← end_field (codes "second") (Second n) fields
  Ok (record { name = name; first = first; second = second })

-- ---- the two lists

-- the items of the array under a key, which itself has the number 0
unfoldable pub items_at : List ℕ → Place → Members → Read (List Data)
items_at key place document = field_at key place document >>= λ d. array_at place d

unfoldable pub stations_in : Members → Read (List StationText)
stations_in document = items_at (codes "station") (Station 0) document >>= λ items. each_of station_at 1 items

unfoldable pub lines_in : Members → Read (List LineText)
lines_in document = items_at (codes "line") (Line 0) document >>= λ items. each_of line_at 1 items

-- all that a railway's text writes; other keys are ignored
unfoldable pub railway_of : Members → Read RailwayText
railway_of document = do
  stations ← stations_in document
  lines ← lines_in document
  Ok (record { stations = stations; lines = lines })

-- the document that a text is, where it is TOML
abbrev pub document_of : Option Members → Read Members
document_of None = Err Toml
document_of (Some document) = Ok document

-- what a text writes, or its first fault
unfoldable pub railway_in : List ℕ → Read RailwayText
railway_in text = document_of (parse_document text) >>= λ document. railway_of document

-- ---- what is a railway's

-- there is a document, and it has lines
abbrev pub has_lines : Option Members → Bool
has_lines None = false
has_lines (Some document) = is_some (get_member (codes "line") document)

-- a text is a railway's, sound or not: it is TOML and has the key `line`, which no layout has
unfoldable pub is_railway : List ℕ → Bool
is_railway text = has_lines (parse_document text)
