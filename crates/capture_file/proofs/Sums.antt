-- Sums of words, and what makes them all ones.
use Rattle.std.specs.Prelude.{slice_index}
use Rattle.std.specs.Int.{w16, from_be_bytes}
use Rattle.std.proofs.Common.{◌≡◌, ℕ, ◌+◌, ◌-◌, ◌*◌, ◌%◌, ◌<◌, ◌≤◌, List, [], ◌∷◌, ◌++◌, length, take, drop, refl, arith}
use Rattle.capture_file.specs.Checksum.{word_sum, folded}
use Rattle.capture_file.specs.Internet.{shown_checksum}

-- behind whole words the sum goes on
pub word_sum-append : (xs ys : List ℕ) → length xs % 2 ≡ 0 → word_sum (xs ++ ys) ≡ word_sum xs + word_sum ys
unfolding word_sum
word_sum-append [] ys even = omega arith
word_sum-append (high ∷ []) ys even = absurd (omega (arith, even))
word_sum-append (high ∷ low ∷ more) ys even =
    let rest = word_sum-append more ys (omega (arith, even)) in
    omega (arith, rest)

-- the first word of at least two bytes
pub next_word : (xs word rest : List ℕ) → 2 ≤ length xs → word ≡ take 2 xs → rest ≡ drop 2 xs → word_sum xs ≡ from_be_bytes w16 word + word_sum rest
unfolding word_sum
next_word [] word rest long w r = absurd (omega (arith, long))
next_word (high ∷ []) word rest long w r = absurd (omega (arith, long))
next_word (high ∷ low ∷ more) word rest long w r = rw (w, r) (omega arith)

-- a last byte without a second one
pub last_byte : (xs : List ℕ) → length xs < 2 → 0 < length xs → word_sum xs ≡ slice_index xs 0 * 256
unfolding word_sum
last_byte [] few some = absurd (omega (arith, some))
last_byte (high ∷ []) few some = refl
last_byte (high ∷ low ∷ more) few some = absurd (omega (arith, few))

pub none_left : (xs : List ℕ) → length xs ≡ 0 → word_sum xs ≡ 0
unfolding word_sum
none_left [] e = refl
none_left (x ∷ xs) e = absurd (omega (arith, e))

-- With its complement a sum is all ones, also where a complement of zero is told as all ones.
pub all_ones : (sum told : ℕ) → told ≡ 65535 - folded sum → folded (sum + told) ≡ 65535
all_ones sum told e = grind (arith, e)

pub all_ones_shown : (sum told : ℕ) → told ≡ shown_checksum (65535 - folded sum) → folded (sum + told) ≡ 65535
all_ones_shown sum told e = grind (arith, e)
