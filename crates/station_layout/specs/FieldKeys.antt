-- The keys of entries, and what may stand under them.
use Rattle.std.specs.Prelude.{ℕ, Bool, true, false, List, [], ◌∷◌, codes, Option, Some, None}
use Rattle.std.specs.Fmt.{signed_decimal}
use Rattle.toml.specs.Data.{Data, string, integer, float, boolean, datetime, array, table}
use Rattle.layout_text.specs.declared.fault.TableName.{TableName}
use Rattle.layout_text.specs.declared.fault.TableName.TheVariants as named
use Rattle.station_layout.specs.declared.field_key.FieldKey.{FieldKey}
use Rattle.station_layout.specs.declared.field_key.FieldKey.TheVariants as key
use Rattle.station_layout.specs.declared.field_key.Kind.{Kind}
use Rattle.station_layout.specs.declared.field_key.Kind.TheVariants as kind

abbrev pub key_text : FieldKey → List ℕ
key_text key.Name = codes "name"
key_text key.Id = codes "id"
key_text key.Code = codes "key"
key_text key.Section = codes "section"
key_text key.Sections = codes "sections"
key_text key.At = codes "at"
key_text key.Entry = codes "entry"
key_text key.Exit = codes "exit"
key_text key.Path = codes "path"
key_text key.Points = codes "points"
key_text key.Flank = codes "flank"
key_text key.Approach = codes "approach"
key_text key.Extra = codes "extra"
key_text key.Aspect = codes "aspect"

-- what has to stand under a key
abbrev pub form_words : FieldKey → List ℕ
form_words key.Name = codes "a name: 1 to 20 of A to Z, a to z, 0 to 9 and `-`"
form_words key.Id = codes "an integer from 1 to 4294967295"
form_words key.Code = codes "a text of 32 hexadecimal digits"
form_words key.Section = codes "a name: 1 to 20 of A to Z, a to z, 0 to 9 and `-`"
form_words key.Sections = codes "an array of names: each 1 to 20 of A to Z, a to z, 0 to 9 and `-`"
form_words key.At = codes "a port: a name, a dot, and `a`, `b`, `tip`, `left`, `right` or `end`"
form_words key.Entry = codes "a name: 1 to 20 of A to Z, a to z, 0 to 9 and `-`"
form_words key.Exit = codes "a name: 1 to 20 of A to Z, a to z, 0 to 9 and `-`"
form_words key.Path = codes "an array of ports: each a name, a dot, and `a`, `b`, `tip`, `left`, `right` or `end`"
form_words key.Points = codes "a table of points, each with `left` or `right`"
form_words key.Flank = codes "a table of points, each with `left` or `right`"
form_words key.Approach = codes "an array of names: each 1 to 20 of A to Z, a to z, 0 to 9 and `-`"
form_words key.Extra = codes "an array of names: each 1 to 20 of A to Z, a to z, 0 to 9 and `-`"
form_words key.Aspect = codes "`proceed` or `slow`"

-- the key that wants of its value what this one wants of each item of its array
abbrev pub item_key : FieldKey → Option FieldKey
item_key key.Sections = Some key.Name
item_key key.Path = Some key.At
item_key key.Approach = Some key.Name
item_key key.Extra = Some key.Name
item_key _ = None

-- an entry that may have the key has to have it
unfoldable pub is_required : FieldKey → Bool
is_required key.Code = false
is_required key.Flank = false
is_required key.Approach = false
is_required key.Extra = false
is_required key.Aspect = false
is_required _ = true

-- all keys of an entry, in the order in which they are read
unfoldable pub all_keys : TableName → List FieldKey
all_keys named.Station = key.Name ∷ key.Id ∷ key.Code ∷ []
all_keys named.Track = key.Name ∷ key.Section ∷ []
all_keys named.Point = key.Name ∷ key.Id ∷ key.Section ∷ []
all_keys named.Signal = key.Name ∷ key.Id ∷ key.At ∷ []
all_keys named.Detector = key.Name ∷ key.Id ∷ key.Sections ∷ []
all_keys named.Route = key.Name ∷ key.Entry ∷ key.Exit ∷ key.Path ∷ key.Points ∷ key.Flank ∷ key.Approach ∷ key.Extra ∷ key.Aspect ∷ []
all_keys _ = []

-- what kind of value stands in a text
abbrev pub kind_of : Data → Kind
kind_of (string s) = kind.Text
kind_of (integer z) = kind.Integer z
kind_of (float x) = kind.Float
kind_of (boolean b) = kind.Boolean
kind_of (datetime dt) = kind.DateTime
kind_of (array ds) = kind.Array
kind_of (table ms) = kind.Table

unfoldable pub kind_word : Kind → List ℕ
kind_word kind.Text = codes "a text"
kind_word (kind.Integer z) = codes "an integer"
kind_word kind.Float = codes "a float"
kind_word kind.Boolean = codes "a boolean"
kind_word kind.DateTime = codes "a date or a time"
kind_word kind.Array = codes "an array"
kind_word kind.Table = codes "a table"

-- An integer is told itself, of other values the kind.
unfoldable pub kind_words : Kind → List ℕ
kind_words (kind.Integer z) = signed_decimal z
kind_words k = kind_word k
