-- A clock that doesn't fall.
use Rattle.std.specs.Prelude.{ℕ, ◌+◌, ◌/◌, min, nat_lt, if◌then◌else◌}

-- the largest number of 64 bits
abbrev pub largest : ℕ
largest = 18446744073709551615

-- The reading so many nanoseconds after the first. It isn't less than the latest.
abbrev pub reading_behind : ℕ → ℕ → ℕ → ℕ
reading_behind first latest nanos =
    let now = min (first + nanos / 1000000) largest in if nat_lt now latest then latest else now
