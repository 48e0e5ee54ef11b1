-- What the key `slow` of points says.
use Rattle.std.specs.Prelude.{ℕ, List, Option, Some, None, codes, Ok, Err, if◌then◌else◌}
use Rattle.std.specs.Option.{ok_or}
use Rattle.std.specs.Str.{bytes_eq}
use Rattle.toml.specs.Data.{Data, Members, get_member}
use Rattle.toml.specs.Parse.{parse_document}
use Rattle.layout_text.specs.FirstFault.{Read, ◌>>=◌, each_of}
use Rattle.layout_text.specs.Text.{document_of}
use Rattle.layout_text.specs.Values.{array_at, field_at, table_at, text_at}
use Rattle.layout_text.specs.declared.fault.LayoutFault.TheVariants.{WrongKind}
use Rattle.layout_text.specs.declared.fault.Place.{Place}
use Rattle.layout_text.specs.declared.fault.TableName.TheVariants as named
use Rattle.route_derivation.specs.declared.slow.SlowLegs.{SlowLegs}
use Rattle.route_derivation.specs.declared.slow.SlowLegs.TheVariants as legs

-- the legs that a word names
abbrev pub legs_of_word : List ℕ → Option SlowLegs
legs_of_word word =
    if bytes_eq word (codes "left") then Some legs.Left
    else if bytes_eq word (codes "right") then Some legs.Right
    else if bytes_eq word (codes "both") then Some legs.Both
    else None

abbrev pub legs_at : Place → Data → Read SlowLegs
legs_at place d = text_at place d >>= λ word. ok_or (legs_of_word word) (WrongKind place)

-- a point without the key has no slow leg
abbrev pub legs_or_none : Place → Option Data → Read SlowLegs
legs_or_none place None = Ok legs.Neither
legs_or_none place (Some d) = legs_at place d

unfoldable pub slow_at : Place → Data → Read SlowLegs
slow_at place d = table_at place d >>= λ fields. legs_or_none place (get_member (codes "slow") fields)

-- the points of a document
abbrev pub points_place : Place
points_place = record { table = named.Point; entry = 0 }

unfoldable pub points_in : Members → Read (List Data)
points_in document = field_at (codes "point") points_place document >>= λ d. array_at points_place d

unfoldable pub slow_in : Members → Read (List SlowLegs)
slow_in document = points_in document >>= λ points. each_of slow_at named.Point 1 points

-- the slow legs of all points of a text, in its order
unfoldable pub slow_legs_in : List ℕ → Read (List SlowLegs)
slow_legs_in text = document_of (parse_document text) >>= λ document. slow_in document
