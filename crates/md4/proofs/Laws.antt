-- What holds of every digest and of every padding.
use Rattle.std.proofs.Common.{◌≡◌, ℕ, zero, suc, ◌+◌, ◌-◌, ◌*◌, ◌%◌, ◌^◌, ◌<◌, List, ◌∷◌, ◌++◌, length, replicate, refl, arith, length-append}
use Rattle.std.proofs.lemmas.List.{length-replicate}
use Rattle.std.proofs.lemmas.List.Elements.{All-append, All-cons, All-nil}
use Rattle.std.specs.Int.{w32, w64, to_le_bytes, byte_at, bytes_low_first}
use Rattle.std.specs.List.{All}
use Rattle.std.specs.Prelude.{slice_index}
use Rattle.md4.specs.Md4.{padding, padded, digest, after_all}

-- ---- digests

-- a digest has sixteen bytes
pub length-digest : (start message : List ℕ) → length (digest start message) ≡ 16
unfolding digest
length-digest start message = refl

IsByte : ℕ → Type 0
IsByte b = b < 2 ^ 8

byte_at-IsByte : (i n : ℕ) → IsByte (byte_at i n)
unfolding IsByte
byte_at-IsByte zero n = omega arith
byte_at-IsByte (suc i) n = omega arith

bytes_low_first-IsByte : (i k n : ℕ) → All IsByte (bytes_low_first i k n)
bytes_low_first-IsByte i zero n = All-nil IsByte
bytes_low_first-IsByte i (suc k) n = All-cons IsByte (byte_at i n) (bytes_low_first (suc i) k n) (byte_at-IsByte i n) (bytes_low_first-IsByte (suc i) k n)

-- each is a byte
pub digest-IsByte : (start message : List ℕ) → All (λ b. b < 2 ^ 8) (digest start message)
unfolding digest IsByte
digest-IsByte start message =
    let part : ℕ → List ℕ = λ k. to_le_bytes w32 (slice_index (after_all start (padded message)) k) in
    let bytes : (k : ℕ) → All IsByte (part k) = λ k. bytes_low_first-IsByte 0 4 (slice_index (after_all start (padded message)) k) in
    let two : All IsByte (part 0 ++ part 1) = All-append IsByte (part 0) (part 1) (bytes 0) (bytes 1) in
    let three : All IsByte (part 0 ++ part 1 ++ part 2) = All-append IsByte (part 0 ++ part 1) (part 2) two (bytes 2) in
    All-append IsByte (part 0 ++ part 1 ++ part 2) (part 3) three (bytes 3)

-- ---- paddings

-- a padded message is longer by the mark, the length and fewer than 64 zero bytes
pub length-padded : (message : List ℕ) → length (padded message) ≡ length message + 9 + (55 + 64 - length message % 64) % 64
unfolding padding
length-padded message =
    let n : ℕ = (55 + 64 - length message % 64) % 64 in
    let bits : List ℕ = to_le_bytes w64 (length message * 8 % 2 ^ 64) in
    let zeros : List ℕ = 0x80 ∷ replicate n 0 in
    omega (arith, length-append message (zeros ++ bits), length-append zeros bits, length-replicate {A = ℕ} n 0)

-- a padded message is whole blocks
pub padded_is_whole : (message : List ℕ) → length (padded message) % 64 ≡ 0
padded_is_whole message = omega (arith, length-padded message)

-- the last message that has room in its first block for the mark and the length, the first that has
-- not, and those on either side of a whole block
pub padded_55 : (message : List ℕ) → length message ≡ 55 → length (padded message) ≡ 64
padded_55 message e = omega (arith, length-padded message)

pub padded_56 : (message : List ℕ) → length message ≡ 56 → length (padded message) ≡ 128
padded_56 message e = omega (arith, length-padded message)

pub padded_63 : (message : List ℕ) → length message ≡ 63 → length (padded message) ≡ 128
padded_63 message e = omega (arith, length-padded message)

pub padded_64 : (message : List ℕ) → length message ≡ 64 → length (padded message) ≡ 128
padded_64 message e = omega (arith, length-padded message)
