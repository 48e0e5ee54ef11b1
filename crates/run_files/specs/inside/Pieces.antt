-- What contracts inside the crate say. No promise names any of it.
use Rattle.std.specs.Prelude.{◌==◌, ◌&&◌, ◌-◌, ℕ, suc, nat_le, List, [], ◌∷◌, if◌then◌else◌}

-- How many of these bytes go to a part that lacks so many of its size: all, or those up to the line feed with which it is full.
abbrev pub piece : ℕ → List ℕ → ℕ
piece missing [] = 0
piece missing (byte ∷ bytes) = if byte == 10 && nat_le missing 1 then 1 else suc (piece (missing - 1) bytes)
