-- The set that the bits of a number are.
use Rattle.std.specs.Prelude.{ℕ, zero, suc, ◌+◌, ◌^◌, ◌==◌, if◌then◌else◌}
use Rattle.std.specs.Int.{bit_at}
use Rattle.std.specs.FinSet.{empty, insert, contains}
use Rattle.bit_row.specs.Places.{Places}

-- The places below w at which a number has a 1.
unfoldable pub places_below : ℕ → ℕ → Places
places_below n zero = empty
places_below n (suc k) = if bit_at n k == 1 then insert (places_below n k) k else places_below n k

unfoldable pub places : ℕ → Places
places n = places_below n 64

-- The number below 2 ^ w that has a 1 at each place of a set.
unfoldable pub number_below : Places → ℕ → ℕ
number_below s zero = 0
number_below s (suc k) = number_below s k + (if contains s k then 2 ^ k else 0)

unfoldable pub number : Places → ℕ
number s = number_below s 64
