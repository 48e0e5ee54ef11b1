-- The form of a node's name.
use Rattle.std.specs.Prelude.{ℕ, nat_le, ◌&&◌, Bool, List, length}
use Rattle.std.specs.List.{list_all}
use Rattle.control_table.specs.sci_telegram.Names.{is_name_byte}

-- 1 to 20 of A to Z, a to z, 0 to 9 and `-`
abbrev pub is_name : List ℕ → Bool
is_name key = nat_le 1 (length key) && nat_le (length key) 20 && list_all is_name_byte key
