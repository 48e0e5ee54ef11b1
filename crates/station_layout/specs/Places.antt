-- Places in a text, by line and column.
use Rattle.std.specs.Prelude.{ℕ, ◌+◌, ◌-◌, ◌^◌, ◌==◌, ◌&&◌, Bool, false, List, Option, Some, None, min, nat_le, nat_lt, if◌then◌else◌}
use Rattle.std.specs.List.{fold}
use Rattle.station_layout.specs.declared.text_place.TextPlace.{TextPlace}

-- one more, up to the greatest number
abbrev pub counted : ℕ → ℕ
counted n = min (n + 1) (2 ^ 64 - 1)

-- there is a value, and it passes a test
abbrev pub some_and : {A : Type 0} → (A → Bool) → Option A → Bool
some_and test None = false
some_and test (Some x) = test x

-- a byte that goes on with a character
abbrev pub goes_on : ℕ → Bool
goes_on byte = nat_le 128 byte && nat_lt byte 192

-- The place after one more byte. After the end of a line stands the first column of the next one.
abbrev pub behind : TextPlace → ℕ → TextPlace
behind at byte =
    if byte == 10 then record { line = counted at.line; column = 1 }
    else (if goes_on byte then at else record { line = at.line; column = counted at.column })

-- the place after a text
abbrev pub place_behind : List ℕ → TextPlace
place_behind text = fold behind (record { line = 1; column = 1 }) text
