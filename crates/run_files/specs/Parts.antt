-- A text in parts, at whole lines.
use Rattle.std.specs.Prelude.{◌==◌, ◌&&◌, ◌-◌, ◌<◌, ◌≡◌, ◌≢◌, ℕ, Bool, true, nat_le, List, [], ◌∷◌, ◌++◌, get_or, length, if◌then◌else◌}

-- its last byte is a line feed
abbrev pub ends_line : List ℕ → Bool
ends_line bytes = get_or bytes (length bytes - 1) 0 == 10

-- A part is full with the first line at whose end it has `size` bytes or more.
abbrev pub is_full : ℕ → List ℕ → Bool
is_full size part = ends_line part && nat_le size (length part)

-- the parts that are full, and the one to which bytes are written
pub record Parts : Type 0 where
  pub closed : List (List ℕ)
  pub opened : List ℕ

-- nothing is written yet
abbrev pub nothing : Parts
nothing = record { closed = []; opened = [] }

-- an empty part behind the others
abbrev pub next_part : Parts → Parts
next_part parts = record { closed = parts.closed ++ parts.opened ∷ []; opened = [] }

-- these bytes stand behind those of the last part
abbrev pub with_opened : List ℕ → Parts → Parts
with_opened bytes parts = record parts { opened = parts.opened ++ bytes }

-- Behind a full part the next one begins.
abbrev pub ready : ℕ → Parts → Parts
ready size parts = if is_full size parts.opened then next_part parts else parts

-- one more byte
abbrev pub with_byte : ℕ → ℕ → Parts → Parts
with_byte size byte parts = with_opened (byte ∷ []) (ready size parts)

-- these bytes, one after another
abbrev pub written : ℕ → List ℕ → Parts → Parts
written size [] parts = parts
written size (byte ∷ bytes) parts = written size bytes (with_byte size byte parts)

-- all parts in their order
abbrev pub all_parts : Parts → List (List ℕ)
all_parts parts = parts.closed ++ parts.opened ∷ []

-- the parts of a text
abbrev pub parts_of : ℕ → List ℕ → List (List ℕ)
parts_of size text = all_parts (written size text nothing)

-- what stands in them, one behind the other
abbrev pub joined : List (List ℕ) → List ℕ
joined [] = []
joined (part ∷ parts) = part ++ joined parts

-- Without its last line a part is shorter than `size`: so is each beginning of it that ends with a line.
abbrev pub IsLongerByItsLastLine : ℕ → List ℕ → Type 0
IsLongerByItsLastLine size part = (front last : List ℕ) → part ≡ front ++ last → last ≢ [] → ends_line front ≡ true → length front < size

abbrev pub AllAre : (List ℕ → Type 0) → List (List ℕ) → Type 0
AllAre P [] = Unit {0}
AllAre P (part ∷ parts) = P part × AllAre P parts
