-- The checksum of RFC 791 (3.1) and RFC 768: the one's complement of the one's complement sum of 16-bit words.
use Rattle.std.specs.Prelude.{ℕ, ◌+◌, ◌-◌, ◌*◌, ◌%◌, ◌==◌, if◌then◌else◌, List, [], ◌∷◌}

-- the 16-bit words of bytes, high-order byte first, added up; a last byte without a second one has a zero byte behind it
unfoldable pub word_sum : List ℕ → ℕ
word_sum [] = 0
word_sum (high ∷ []) = high * 256
word_sum (high ∷ low ∷ more) = (high * 256 + low) + word_sum more

-- A sum of words as one word: what doesn't fit in 16 bits is added at the low end until all does. So it is the sum modulo
-- 65535, and a sum that isn't 0 doesn't become 0 (`carries_go_around` is its law).
abbrev pub folded : ℕ → ℕ
folded sum = if sum == 0 then 0 else (sum - 1) % 65535 + 1

-- the one's complement sum of the 16-bit words of bytes
abbrev pub ones_sum : List ℕ → ℕ
ones_sum bytes = folded (word_sum bytes)

-- its one's complement
abbrev pub checksum : List ℕ → ℕ
checksum bytes = 65535 - ones_sum bytes
