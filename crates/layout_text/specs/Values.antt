-- The values of a TOML text, in the forms that a layout has. A value that has another form is of a wrong kind.
use Rattle.std.specs.Prelude.{ℕ, ◌+◌, ◌*◌, ◌&&◌, ◌==◌, slice_index, ℤ, pos, nat_le, Bool, List, [], ◌∷◌, length, codes, Option, Some, None, Result, Ok, Err, if◌then◌else◌}
use Rattle.std.specs.Option.{ok_or}
use Rattle.std.specs.Int.{w32, from_le_bytes}
use Rattle.hex.specs.declared.error.FromHexError.{FromHexError}
use Rattle.hex.specs.Hex.{decode_sized}
use Rattle.std.specs.List.{list_all, list_any, before_first, after_first}
use Rattle.std.specs.Str.{bytes_eq}
use Rattle.toml.specs.Data.{Data, Items, no_items, item, Members, get_member, as_str, as_array, as_table, as_integer}
use Rattle.sci_telegram.specs.Names.{is_name_byte}
use Rattle.sci_telegram.specs.Words.{aspect_of_word, side_of_word}
use Rattle.layout_text.specs.declared.fault.LayoutFault.TheVariants.{MissingKey, WrongKind}
use Rattle.layout_text.specs.declared.fault.Place.{Place}
use Rattle.layout_text.specs.declared.entries.End.{End}
use Rattle.layout_text.specs.declared.entries.End.TheVariants as end
use Rattle.sci_telegram.specs.declared.message.Aspect.{Aspect}
use Rattle.sci_telegram.specs.declared.message.Aspect.TheVariants.{Stop, Proceed, Slow}
use Rattle.sci_telegram.specs.declared.message.Side.{Side}
use Rattle.layout_text.specs.declared.entries.PortName.{PortName}
use Rattle.layout_text.specs.FirstFault.{Read, ◌>>=◌}

-- the value of a field that has to be there
abbrev pub field_at : List ℕ → Place → Members → Read Data
field_at key place members = ok_or (get_member key members) (MissingKey place)

abbrev pub text_at : Place → Data → Read (List ℕ)
text_at place d = ok_or (as_str d) (WrongKind place)

-- the items of an array, as a list
abbrev pub item_list : Items → List Data
item_list no_items = []
item_list (item d ds) = d ∷ item_list ds

abbrev pub items_or_fault : Place → Option Items → Read (List Data)
items_or_fault place None = Err (WrongKind place)
items_or_fault place (Some ds) = Ok (item_list ds)

abbrev pub array_at : Place → Data → Read (List Data)
array_at place d = items_or_fault place (as_array d)

abbrev pub table_at : Place → Data → Read Members
table_at place d = ok_or (as_table d) (WrongKind place)

-- the form of a name: 1 to 20 of A to Z, a to z, 0 to 9 and `-`
abbrev pub is_name : List ℕ → Bool
is_name text = nat_le 1 (length text) && nat_le (length text) 20 && list_all is_name_byte text

abbrev pub name_of : Place → List ℕ → Read (List ℕ)
name_of place text = if is_name text then Ok text else Err (WrongKind place)

unfoldable pub name_at : Place → Data → Read (List ℕ)
name_at place d = text_at place d >>= λ text. name_of place text

-- an identity: 1 to 4294967295
abbrev pub id_of : Place → Option ℤ → Read ℕ
id_of place (Some (pos n)) = if nat_le 1 n && nat_le n 4294967295 then Ok n else Err (WrongKind place)
id_of place _ = Err (WrongKind place)

abbrev pub id_at : Place → Data → Read ℕ
id_at place d = id_of place (as_integer d)

-- the words for ports
abbrev pub end_of : List ℕ → Option End
end_of word =
    if bytes_eq word (codes "a") then Some end.A
    else if bytes_eq word (codes "b") then Some end.B
    else if bytes_eq word (codes "tip") then Some end.Tip
    else if bytes_eq word (codes "left") then Some end.Left
    else if bytes_eq word (codes "right") then Some end.Right
    else if bytes_eq word (codes "end") then Some end.End
    else None

-- a port is written as the name of its element, a dot and its word
abbrev pub is_dot : ℕ → Bool
is_dot byte = byte == 46

unfoldable pub port_of : Place → List ℕ → Read PortName
port_of place text =
    if list_any is_dot text
    then (do
      element ← name_of place (before_first is_dot text)
      end ← ok_or (end_of (after_first is_dot text)) (WrongKind place)
      Ok (record { element = element; end = end }))
    else Err (WrongKind place)

unfoldable pub port_at : Place → Data → Read PortName
port_at place d = text_at place d >>= λ text. port_of place text

-- a side is the word `left` or `right`
unfoldable pub side_at : Place → Data → Read Side
side_at place d = do
  word ← text_at place d
  ok_or (side_of_word word) (WrongKind place)

-- the aspect of a route is the word `proceed` or `slow`: no route leads to a stop
abbrev pub route_aspect : Option Aspect → Option Aspect
route_aspect None = None
route_aspect (Some Stop) = None
route_aspect (Some Proceed) = Some Proceed
route_aspect (Some Slow) = Some Slow

unfoldable pub aspect_at : Place → Data → Read Aspect
aspect_at place d = do
  word ← text_at place d
  ok_or (route_aspect (aspect_of_word word)) (WrongKind place)

-- a key is 32 hexadecimal digits: four registers, each with its low-order byte first
abbrev pub register : List ℕ → ℕ → ℕ
register bytes n = from_le_bytes w32 (slice_index bytes (4 * n) ∷ slice_index bytes (4 * n + 1) ∷ slice_index bytes (4 * n + 2) ∷ slice_index bytes (4 * n + 3) ∷ [])

abbrev pub registers : Place → Result (List ℕ) FromHexError → Read (List ℕ)
registers place (Err _) = Err (WrongKind place)
registers place (Ok bytes) = Ok (register bytes 0 ∷ register bytes 1 ∷ register bytes 2 ∷ register bytes 3 ∷ [])

abbrev pub key_of : Place → List ℕ → Read (List ℕ)
key_of place text = registers place (decode_sized text 16)

unfoldable pub key_at : Place → Data → Read (List ℕ)
key_at place d = text_at place d >>= λ text. key_of place text
