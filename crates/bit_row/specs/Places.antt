-- Sets of numbers.
use Rattle.std.specs.Prelude.{ℕ, ◌<◌, ◌≤◌, IsTrue}
use Rattle.std.specs.Ordering.{nat_cmp}
use Rattle.std.specs.Coded.{Coded, coded_ℕ}
use Rattle.std.specs.FinSet.{FinSet, contains, code}

-- A set of numbers.
abbrev pub Places : Type 0
Places = FinSet nat_cmp

-- Its code, for a value that holds such sets.
abbrev pub places_code : Coded Places
places_code = code coded_ℕ

-- A number is in a set.
abbrev pub Has : Places → ℕ → Type 0
Has s k = IsTrue (contains s k)

-- Some number is in a set.
abbrev pub HasSome : Places → Type 0
HasSome s = (k : ℕ) × Has s k

-- Two sets have a number in common.
abbrev pub Meet : Places → Places → Type 0
Meet s t = (k : ℕ) × Has s k × Has t k

-- Each number of one set is in the other.
abbrev pub IsPart : Places → Places → Type 0
IsPart s t = (k : ℕ) → Has s k → Has t k

-- A number is the least of a set.
abbrev pub IsLeast : Places → ℕ → Type 0
IsLeast s k = Has s k × ((j : ℕ) → Has s j → k ≤ j)

-- Each number of a set is below 64.
abbrev pub IsWithin : Places → Type 0
IsWithin s = (k : ℕ) → Has s k → k < 64
