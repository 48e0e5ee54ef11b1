-- MD4 as RFC 1320 has it, on lists of numbers, from any four words to start with. A byte is a number
-- below 2 ^ 8, a word one below 2 ^ 32, and sums of words are modulo 2 ^ 32. Section numbers are the
-- RFC's.
use Rattle.std.specs.Prelude.{ℕ, zero, suc, ◌+◌, ◌-◌, ◌*◌, ◌/◌, ◌%◌, ◌^◌, nat_lt, List, [], ◌∷◌, ◌++◌, length, take, drop, replicate, bit_and, bit_or, bit_xor, slice_index, if◌then◌else◌}
use Rattle.std.specs.Int.{w32, w64, bit_not, rotate_left, from_le_bytes, to_le_bytes}

-- ---- the padded message (3.1, 3.2)

-- what follows a message of n bytes: the byte 1000 0000, zero bytes until the length is 56 modulo 64,
-- and the length in bits, modulo 2 ^ 64, as eight bytes, low-order byte first
unfoldable pub padding : ℕ → List ℕ
padding n = 0x80 ∷ replicate ((55 + 64 - n % 64) % 64) 0 ++ to_le_bytes w64 (n * 8 % 2 ^ 64)

-- a message and its padding
abbrev pub padded : List ℕ → List ℕ
padded message = message ++ padding (length message)

-- ---- the three rounds (3.4)

-- the functions F, G and H, bit by bit: x chooses between y and z, most of the three, an odd number
-- of the three
abbrev pub choice : ℕ → ℕ → ℕ → ℕ
choice x y z = bit_or (bit_and x y) (bit_and (bit_not w32 x) z)

abbrev pub majority : ℕ → ℕ → ℕ → ℕ
majority x y z = bit_or (bit_or (bit_and x y) (bit_and x z)) (bit_and y z)

abbrev pub parity : ℕ → ℕ → ℕ → ℕ
parity x y z = bit_xor (bit_xor x y) z

-- a round of sixteen steps: its function, what each step adds, the order in which the steps read the
-- block's words, and the shifts, four of which come in turn
pub record Round : Type 0 where
  pub mix : ℕ → ℕ → ℕ → ℕ
  pub constant : ℕ
  pub order : List ℕ
  pub shifts : List ℕ

abbrev pub first_round : Round
first_round = record {
  mix = choice;
  constant = 0;
  order = 0 ∷ 1 ∷ 2 ∷ 3 ∷ 4 ∷ 5 ∷ 6 ∷ 7 ∷ 8 ∷ 9 ∷ 10 ∷ 11 ∷ 12 ∷ 13 ∷ 14 ∷ 15 ∷ [];
  shifts = 3 ∷ 7 ∷ 11 ∷ 19 ∷ [];
}

abbrev pub second_round : Round
second_round = record {
  mix = majority;
  constant = 0x5a827999;
  order = 0 ∷ 4 ∷ 8 ∷ 12 ∷ 1 ∷ 5 ∷ 9 ∷ 13 ∷ 2 ∷ 6 ∷ 10 ∷ 14 ∷ 3 ∷ 7 ∷ 11 ∷ 15 ∷ [];
  shifts = 3 ∷ 5 ∷ 9 ∷ 13 ∷ [];
}

abbrev pub third_round : Round
third_round = record {
  mix = parity;
  constant = 0x6ed9eba1;
  order = 0 ∷ 8 ∷ 4 ∷ 12 ∷ 2 ∷ 10 ∷ 6 ∷ 14 ∷ 1 ∷ 9 ∷ 5 ∷ 13 ∷ 3 ∷ 11 ∷ 7 ∷ 15 ∷ [];
  shifts = 3 ∷ 9 ∷ 11 ∷ 15 ∷ [];
}

-- the round of step i, which counts from 0 to 47
abbrev pub round_of : ℕ → Round
round_of i = if nat_lt i 16 then first_round else if nat_lt i 32 then second_round else third_round

-- ---- one block, as one sequence of words: the four words before it, then one for each step. A list
-- of them has the newest first.

-- the word that a round's step adds to the sequence: of the four before it the oldest, the round's
-- function of the other three, newest first, a word of the block and the round's constant are
-- added, and the sum is turned left
abbrev pub next_word : Round → ℕ → ℕ → List ℕ → ℕ
next_word round word shift words =
    rotate_left w32
    ((slice_index words 3 + round.mix (slice_index words 0) (slice_index words 1) (slice_index words 2) + word + round.constant) % 2 ^ 32)
    shift

-- the sequence with one word more
abbrev pub with_word : Round → ℕ → ℕ → List ℕ → List ℕ
with_word round word shift words = next_word round word shift words ∷ words

-- the sequence with the word of step i, over the sixteen words of a block
abbrev pub with_next : ℕ → List ℕ → List ℕ → List ℕ
with_next i block words =
    with_word (round_of i) (slice_index block (slice_index (round_of i).order (i % 16)))
    (slice_index (round_of i).shifts (i % 4)) words

-- the sequence after n steps: it begins with the registers A, D, C, B
unfoldable pub sequence : List ℕ → List ℕ → ℕ → List ℕ
sequence registers block zero =
    slice_index registers 1 ∷ slice_index registers 2 ∷ slice_index registers 3 ∷ slice_index registers 0 ∷ []
sequence registers block (suc n) = with_next n block (sequence registers block n)

-- the newest four words of a sequence as the registers A, B, C, D: A is the oldest, and then come D,
-- C and B
abbrev pub newest : List ℕ → List ℕ
newest words = slice_index words 3 ∷ slice_index words 0 ∷ slice_index words 1 ∷ slice_index words 2 ∷ []

-- word k of a block of bytes, low-order byte first
abbrev pub word : List ℕ → ℕ → ℕ
word bytes k =
    from_le_bytes w32
    (slice_index bytes (4 * k) ∷ slice_index bytes (4 * k + 1) ∷ slice_index bytes (4 * k + 2) ∷ slice_index bytes (4 * k + 3) ∷ [])

-- the first n words of a block of bytes
unfoldable pub block_words : List ℕ → ℕ → List ℕ
block_words bytes zero = []
block_words bytes (suc n) = block_words bytes n ++ word bytes n ∷ []

-- four words added to four, each to its own
abbrev pub sums : List ℕ → List ℕ → List ℕ
sums registers others =
    (slice_index registers 0 + slice_index others 0) % 2 ^ 32
    ∷ (slice_index registers 1 + slice_index others 1) % 2 ^ 32
    ∷ (slice_index registers 2 + slice_index others 2) % 2 ^ 32
    ∷ (slice_index registers 3 + slice_index others 3) % 2 ^ 32
    ∷ []

-- the registers after a block of 64 bytes
unfoldable pub after_block : List ℕ → List ℕ → List ℕ
after_block registers bytes = sums registers (newest (sequence registers (block_words bytes 16) 48))

-- ---- the digest

-- the registers after the first n blocks of some bytes
unfoldable pub after_blocks : List ℕ → List ℕ → ℕ → List ℕ
after_blocks registers bytes zero = registers
after_blocks registers bytes (suc n) = after_blocks (after_block registers (take 64 bytes)) (drop 64 bytes) n

-- the registers after all whole blocks of some bytes
abbrev pub after_all : List ℕ → List ℕ → List ℕ
after_all registers bytes = after_blocks registers bytes (length bytes / 64)

-- the registers A, B, C, D as sixteen bytes, each with its low-order byte first (3.5)
abbrev pub register_bytes : List ℕ → List ℕ
register_bytes registers =
    to_le_bytes w32 (slice_index registers 0) ++ to_le_bytes w32 (slice_index registers 1)
    ++ to_le_bytes w32 (slice_index registers 2) ++ to_le_bytes w32 (slice_index registers 3)

-- the digest of a message, from four words to start with
unfoldable pub digest : List ℕ → List ℕ → List ℕ
digest start message = register_bytes (after_all start (padded message))
