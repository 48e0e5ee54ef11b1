-- Which bytes are a name, and the field of a telegram that a name stands in (this profile).
use Rattle.std.specs.Prelude.{◌≡◌, ℕ, ◌-◌, ◌≤◌, Bool, ◌||◌, ◌&&◌, ◌==◌, nat_le, IsTrue, List, ◌++◌, length, replicate}
use Rattle.std.specs.Char.{is_ascii_alphanumeric}
use Rattle.std.specs.List.{list_all, before_first}

-- A to Z, a to z, 0 to 9 and the hyphen
abbrev pub is_name_byte : ℕ → Bool
is_name_byte byte = is_ascii_alphanumeric byte || byte == 45

-- a name has 1 to 20 such bytes
abbrev pub is_name : List ℕ → Bool
is_name bytes = nat_le 1 (length bytes) && nat_le (length bytes) 20 && list_all is_name_byte bytes

pub record IsName (bytes : List ℕ) : Type 0 where
  pub some : 1 ≤ length bytes
  pub most : length bytes ≤ 20
  pub each : IsTrue (list_all is_name_byte bytes)

-- the field of 20 bytes in which a name stands: the name, and behind it only `_`
abbrev pub name_field : List ℕ → List ℕ
name_field name = name ++ replicate (20 - length name) 95

-- what stands in a field before the first `_`
abbrev pub is_padding : ℕ → Bool
is_padding byte = byte == 95

abbrev pub name_in : List ℕ → List ℕ
name_in field = before_first is_padding field

-- a field that a name stands in
pub record IsNameField (field : List ℕ) : Type 0 where
  pub name : IsName (name_in field)
  pub spelled : field ≡ name_field (name_in field)
