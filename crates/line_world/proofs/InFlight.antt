-- The datagrams of a line, gone through one after another.
use Rattle.std.proofs.Common.{◌≡◌, ◌++◌, ℕ, List, drop, take}
use Rattle.line_world.specs.Happens.{without_oldest}
use Rattle.line_world.specs.State.{Flying}

-- none before this place has these bytes
abbrev pub IsPast : (bytes : List ℕ) → List Flying → (place : ℕ) → Type 0
IsPast bytes flying place = without_oldest bytes flying ≡ take place flying ++ without_oldest bytes (drop place flying)
