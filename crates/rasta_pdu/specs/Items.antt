-- Which lists of bytes are items, and how many of them a PDU carries.
use Rattle.std.specs.Prelude.{ℕ, ◌≤◌, List, length, All}

-- an item has 1 to 61 bytes
pub record IsItem (bytes : List ℕ) : Type 0 where
  pub some : 1 ≤ length bytes
  pub most : length bytes ≤ 61

-- a data PDU has 1 to 3 items
pub record AreItems (items : List (List ℕ)) : Type 0 where
  pub some : 1 ≤ length items
  pub most : length items ≤ 3
  pub each : All IsItem items
