-- What the bits of a number say of its places.
use Rattle.std.proofs.Common.{◌≡◌, ℕ, zero, suc, ◌+◌, ◌-◌, ◌*◌, ◌/◌, ◌%◌, ◌^◌, ◌<◌, ◌≤◌, ◌≢◌, ◌⊎◌, ◌==◌, Bool, true, false, cond, not, ◌&&◌, ◌||◌, nat_lt, nat_eq, ⊎_elim, ◌↔◌, IsTrue, MatchBool, refl, sym, ap, ◌∙◌, arith, if◌then◌else◌, min, max, bit_and, bit_or}
use Rattle.std.specs.Int.{bit_at, bit_not, trailing_zeros, w64}
use Rattle.std.specs.Ordering.{nat_cmp, eq_by_cmp}
use Rattle.std.specs.FinSet.{contains, empty, insert, remove, union, intersection, difference, contains-empty, contains-insert, contains-remove, contains-union, contains-intersection, contains-difference, members, same_set, nat_cmp-IsAntisymmetric}
use Rattle.std.specs.Cmp.{nat_cmp_total, unsigned_tied}
use Rattle.std.proofs.Math.Nat.{mod-eq_of_lt, mod-one}
use Rattle.std.proofs.lemmas.Nat.{pow_below, mod-pow-add, pow_pos, one_shl, or_lt, and_le_l}
use Rattle.std.proofs.lemmas.Bool.{cases_eq, cases_lt}
use Rattle.std.proofs.lemmas.Nat.Bits.{bit_at-trailing_zeros, bit_at-lt, bit_at-zero, bit_at-pow_same, bit_at-pow_other, shr_and_one, bit_at_or, bit_at_and, bit_at_not, bit_at_set_same, bit_at_set_other, bit_at_clear_same, bit_at_clear_other}
use Rattle.bit_row.specs.Places.{Places, Has, HasSome, IsLeast, IsPart, IsWithin, Meet}
use Rattle.bit_row.specs.Bits.{places_below, places, number_below, number}

-- ---- the places of a number

-- a place of a row one longer: the last, or one before
has_step : (n w k : ℕ) (has set : Bool) → has ≡ (nat_lt k w && (bit_at n k == 1)) → (bit_at n w == 1) ≡ set
    → cond set ((k == w) || has) has ≡ (nat_lt k (suc w) && (bit_at n k == 1))
has_step n w k has true h e = grind arith
has_step n w k has false h e = grind arith

put : (s : Places) (k w : ℕ) (set : Bool) → contains (cond set (insert s w) s) k ≡ cond set ((k == w) || contains s k) (contains s k)
put s k w true = contains-insert nat_cmp_total s w k ∙ ap (λ b. b || contains s k) (unsigned_tied k w)
put s k w false = refl

none : (k : ℕ) (b : Bool) → false ≡ (nat_lt k 0 && b)
none k b = grind arith

contains-places_below : (n w k : ℕ) → contains (places_below n w) k ≡ (nat_lt k w && (bit_at n k == 1))
unfolding places_below
contains-places_below n zero k = contains-empty nat_cmp k ∙ none k _
contains-places_below n (suc w) k = put (places_below n w) k w (bit_at n w == 1) ∙ has_step n w k _ _ (contains-places_below n w k) refl

pub contains-places : (n k : ℕ) → contains (places n) k ≡ (nat_lt k 64 && (bit_at n k == 1))
unfolding places
contains-places n k = contains-places_below n 64 k

-- ---- and back

bits_step : (n w low : ℕ) (set : Bool) → low ≡ n % 2 ^ w → set ≡ (bit_at n w == 1) → low + cond set (2 ^ w) 0 ≡ n % 2 ^ suc w
bits_step n w low set l s =
    let one : suc w ≡ 1 + w = omega arith in
    let split : n % 2 ^ suc w ≡ bit_at n w * 2 ^ w + n % 2 ^ w = ap (λ j. n % 2 ^ j) one ∙ mod-pow-add n 1 w in
    let small = bit_at-lt n w in grind arith

within_bit : (w k : ℕ) (b : Bool) → w ≤ 64 → k < w → (nat_lt k 64 && b) ≡ b
within_bit w k b l h = grind arith

number-below : (n w : ℕ) → w ≤ 64 → number_below (places n) w ≡ n % 2 ^ w
unfolding number_below
number-below n zero l = sym (mod-one n)
number-below n (suc w) l =
    bits_step n w _ _ (number-below n w (omega arith)) (contains-places n w ∙ within_bit (suc w) w _ l (omega arith))

pub number-places : (n : ℕ) → n < 2 ^ 64 → number (places n) ≡ n
unfolding number
number-places n h = number-below n 64 (omega arith) ∙ mod-eq_of_lt h

-- ---- operations on words are those on sets

same : (s t : Places) → ((k : ℕ) → contains s k ≡ contains t k) → s ≡ t
same s t each = same_set nat_cmp_total nat_cmp-IsAntisymmetric s t each

pub places-zero : places 0 ≡ empty
places-zero = same _ _ (λ k. contains-places 0 k ∙ (let z = bit_at-zero k in grind arith) ∙ sym (contains-empty nat_cmp k))

one_bit : (k j : ℕ) → bit_at (2 ^ k) j ≡ (if j == k then 1 else 0)
one_bit k j =
    ⊎_elim (λ e. ap (λ i. bit_at (2 ^ k) i) e ∙ bit_at-pow_same k ∙ (grind arith)) (λ ne. bit_at-pow_other k j ne ∙ (grind arith)) (cases_eq j k)

either : (x y z : ℕ) (low : Bool) → x ≡ max y z → y < 2 → z < 2 → (low && (x == 1)) ≡ ((low && (y == 1)) || (low && (z == 1)))
either x y z low e p q = grind arith

pub places-or : (a b : ℕ) → places (bit_or a b) ≡ union (places a) (places b)
places-or a b = same _ _ (λ k.
    contains-places (bit_or a b) k ∙ either _ _ _ _ (bit_at_or a b k) (bit_at-lt a k) (bit_at-lt b k)
    ∙ (λ i. sym (contains-places a k) i || sym (contains-places b k) i)
    ∙ sym (contains-union nat_cmp_total (places a) (places b) k))

common : (x y z : ℕ) (low : Bool) → x ≡ min y z → y < 2 → z < 2 → (low && (x == 1)) ≡ ((low && (y == 1)) && (low && (z == 1)))
common x y z low e p q = grind arith

pub places-and : (a b : ℕ) → places (bit_and a b) ≡ intersection (places a) (places b)
places-and a b = same _ _ (λ k.
    contains-places (bit_and a b) k ∙ common _ _ _ _ (bit_at_and a b k) (bit_at-lt a k) (bit_at-lt b k)
    ∙ (λ i. sym (contains-places a k) i && sym (contains-places b k) i)
    ∙ sym (contains-intersection nat_cmp_total (places a) (places b) k))

-- the mask of one place
single : (k : ℕ) → k < 64 → (1 * 2 ^ k) % 18446744073709551616 ≡ 2 ^ k
single k h = one_shl k 64 h

or_one : (a k j : ℕ) → bit_at (bit_or a (2 ^ k)) j ≡ max (bit_at a j) (if j == k then 1 else 0)
or_one a k j = bit_at_or a (2 ^ k) j ∙ ap (max (bit_at a j)) (one_bit k j)

place_added : (low : Bool) (x y j k : ℕ) → k < 64 → low ≡ nat_lt j 64 → x ≡ max y (if j == k then 1 else 0) → y < 2 → (low && (x == 1)) ≡ ((j == k) || (low && (y == 1)))
place_added low x y j k h l e q = grind arith

pub places-with : (a k : ℕ) → k < 64 → places (bit_or a ((1 * 2 ^ k) % 18446744073709551616)) ≡ insert (places a) k
places-with a k h = ap (λ m. places (bit_or a m)) (single k h) ∙ same _ _ (λ j.
    contains-places (bit_or a (2 ^ k)) j ∙ place_added _ _ _ j k h refl (or_one a k j) (bit_at-lt a j)
    ∙ (λ i. sym (unsigned_tied j k) i || sym (contains-places a j) i)
    ∙ sym (contains-insert nat_cmp_total (places a) k j))

outside : (low : Bool) (x y z j : ℕ) → low ≡ nat_lt j 64 → (j < 64 → x ≡ min y (1 - z)) → y < 2 → z < 2 → (low && (x == 1)) ≡ ((low && (y == 1)) && not (low && (z == 1)))
outside true x y z j l e p q = let d : x ≡ min y (1 - z) = e (grind arith) in grind arith
outside false x y z j l e p q = refl

pub places-minus : (a b : ℕ) → b < 2 ^ 64 → places (bit_and a (18446744073709551615 - b)) ≡ difference (places a) (places b)
places-minus a b h = same _ _ (λ j.
    contains-places (bit_and a (18446744073709551615 - b)) j
    ∙ outside _ _ _ _ j refl (λ low. bit_at_and a (18446744073709551615 - b) j ∙ ap (min (bit_at a j)) (bit_at_not w64 b j h low)) (bit_at-lt a j) (bit_at-lt b j)
    ∙ (λ i. sym (contains-places a j) i && not (sym (contains-places b j) i))
    ∙ sym (contains-difference nat_cmp_total (places a) (places b) j))

but_one : (has : Bool) (x j k : ℕ) → k < 64 → x ≡ (if j == k then 1 else 0) → (has && not (nat_lt j 64 && (x == 1))) ≡ (not (j == k) && has)
but_one true x j k h e = grind arith
but_one false x j k h e = grind arith

pub places-without : (a k : ℕ) → k < 64 → places (bit_and a (18446744073709551615 - (1 * 2 ^ k) % 18446744073709551616)) ≡ remove (places a) k
places-without a k h =
    ap (λ m. places (bit_and a (18446744073709551615 - m))) (single k h) ∙ places-minus a (2 ^ k) (pow_below k 64 h) ∙ same _ _ (λ j.
    contains-difference nat_cmp_total (places a) (places (2 ^ k)) j
    ∙ ap (λ b. contains (places a) j && not b) (contains-places (2 ^ k) j)
    ∙ but_one _ _ j k h (one_bit k j)
    ∙ (λ i. not (sym (unsigned_tied j k) i) && contains (places a) j)
    ∙ sym (contains-remove nat_cmp_total (places a) k j))

pub number-or : (a b : ℕ) → a < 2 ^ 64 → b < 2 ^ 64 → number (places (bit_or a b)) ≡ bit_or a b
number-or a b p q = number-places _ (or_lt 64 a b p q)

pub number-and : (a b : ℕ) → a < 2 ^ 64 → number (places (bit_and a b)) ≡ bit_and a b
number-and a b p = number-places _ (let h = and_le_l a b in omega arith)

pub contains-shift : (a k : ℕ) → k < 64 → (bit_and (a / 2 ^ k) 1 == 1) ≡ contains (places a) k
contains-shift a k h = ap (λ b. b == 1) (shr_and_one a k) ∙ sym (within_bit 64 k _ (omega arith) h) ∙ sym (contains-places a k)

-- ---- what a row has

pub record IsBit (n k : ℕ) : Type 0 where
  pub low : k < 64
  pub one : bit_at n k ≡ 1

bit_of : (n k : ℕ) (has : Bool) → has ≡ (nat_lt k 64 && (bit_at n k == 1)) → IsTrue has → IsBit n k
bit_of n k has e h = record { low = grind arith; one = grind arith }

of_bit : (n k : ℕ) (has : Bool) → has ≡ (nat_lt k 64 && (bit_at n k == 1)) → IsBit n k → IsTrue has
of_bit n k has e h = let l = h.low in let o = h.one in grind arith

pub has_bit : (n k : ℕ) → Has (places n) k → IsBit n k
has_bit n k h = bit_of n k _ (contains-places n k) h

pub bit_has : (n k : ℕ) → IsBit n k → Has (places n) k
bit_has n k h = of_bit n k _ (contains-places n k) h

pub within : (n : ℕ) → IsWithin (places n)
within n k h = (has_bit n k h).low

pub least : (n : ℕ) → n ≢ 0 → n < 2 ^ 64 → IsLeast (places n) (trailing_zeros w64 n)
least n some fits =
    let lowest = bit_at-trailing_zeros w64 n (omega arith) fits in (
      bit_has n _ (record { low = lowest.0; one = lowest.1 }),
      λ j h.
          ⊎_elim (λ below. absurd (let z = lowest.2 j below in let o = (has_bit n j h).one in omega arith)) (λ from. from) (cases_lt j (trailing_zeros w64 n)),
    )

both : (a b k : ℕ) → IsBit (bit_and a b) k → IsBit a k × IsBit b k
both a b k h = let e = bit_at_and a b k in let l = h.low in let o = h.one in let p = bit_at-lt a k in let q = bit_at-lt b k in
    (record { low = l; one = omega arith }, record { low = l; one = omega arith })

both_of : (a b k : ℕ) → IsBit a k → IsBit b k → bit_and a b ≢ 0
both_of a b k h g z =
    let e = bit_at_and a b k in let p = h.one in let q = g.one in let n = ap (λ m. bit_at m k) z ∙ bit_at-zero k in
    omega arith

meet_of : (a b : ℕ) → a < 2 ^ 64 → bit_and a b ≢ 0 → Meet (places a) (places b)
meet_of a b p some =
    let first = least (bit_and a b) some (let h = and_le_l a b in omega arith) in
    let parts = both a b _ (has_bit _ _ first.0) in
    (_, bit_has a _ parts.0, bit_has b _ parts.1)

pub meets : (a b : ℕ) → a < 2 ^ 64 → IsTrue (not (bit_and a b == 0)) ↔ Meet (places a) (places b)
meets a b p = (λ h. meet_of a b p (λ z. grind arith), λ h. let ne = both_of a b h.0 (has_bit a _ h.1) (has_bit b _ h.2) in grind arith)

part_of : (a b : ℕ) → b < 2 ^ 64 → bit_and a (18446744073709551615 - b) ≡ 0 → IsPart (places a) (places b)
part_of a b fits z k h =
    let bit = has_bit a k h in
    let e = bit_at_and a (18446744073709551615 - b) k in
    let n = ap (λ m. bit_at m k) z ∙ bit_at-zero k in
    let c = bit_at_not w64 b k fits bit.low in
    let o = bit.one in let q = bit_at-lt b k in
    bit_has b k (record { low = bit.low; one = omega arith })

none_left : (a b : ℕ) → a < 2 ^ 64 → b < 2 ^ 64 → IsPart (places a) (places b) → bit_and a (18446744073709551615 - b) ≢ 0 → ⊥
none_left a b p q part some =
    let first = least (bit_and a (18446744073709551615 - b)) some (let h = and_le_l a (18446744073709551615 - b) in omega arith) in
    let parts = both a (18446744073709551615 - b) _ (has_bit _ _ first.0) in
    let bit = has_bit b _ (part _ (bit_has a _ parts.0)) in
    let c = bit_at_not w64 b (trailing_zeros w64 (bit_and a (18446744073709551615 - b))) q bit.low in
    let o = bit.one in let r = parts.1.one in omega arith

pub parts : (a b : ℕ) → a < 2 ^ 64 → b < 2 ^ 64 → IsTrue (bit_and a (18446744073709551615 - b) == 0) ↔ IsPart (places a) (places b)
parts a b p q = (λ h. part_of a b q (grind arith), λ h. let none = none_left a b p q h in grind arith)

beyond : (n k : ℕ) → 64 ≤ k → (nat_lt k 64 && (bit_at n k == 1)) ≡ false
beyond n k h = grind arith

pub contains-beyond : (a k : ℕ) → 64 ≤ k → contains (places a) k ≡ false
contains-beyond a k h = contains-places a k ∙ beyond a k h

pub ruleset rows = (number-places, number-or, number-and, places-zero, places-or, places-and, places-with, places-minus, places-without, contains-shift, contains-beyond, within, least, meets, parts)

-- ---- whether a row has a place at all

pub some-or-none : (n : ℕ) (b : Bool) → b ≡ (n == 0) → n < 2 ^ 64 → MatchBool b (places n ≡ empty) (HasSome (places n))
some-or-none n true e fits = let z : n ≡ 0 = grind arith in ap places z ∙ places-zero
some-or-none n false e fits = let ne : n ≢ 0 = (λ z. grind arith) in (trailing_zeros w64 n, (least n ne fits).0)
