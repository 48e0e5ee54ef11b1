-- How far one number is after another.
use Rattle.std.proofs.Common.{◌≡◌, ◌&&◌, refl, ◌≤◌, ◌<◌, ◌+◌, ◌-◌, ◌%◌, ℕ, suc, nat_le, Bool, true, false, arith}
use Rattle.std.proofs.lemmas.Bool.{leb-true}
use Rattle.std.proofs.lemmas.Bool.Decides.{nat_tests}
use Rattle.datagram_hold.specs.Sequence.{distance, is_ahead, is_behind, next_to}

and_first : (one other : Bool) → (one && other) ≡ true → one ≡ true
and_first true other e = refl
and_first false other e = e

and_second : (one other : Bool) → (one && other) ≡ true → other ≡ true
and_second true other e = e
and_second false other e = cc

pub up : (from to : ℕ) → from ≤ to → to < 4294967296 → distance from to ≡ to - from
up from to le lt = omega arith

pub round : (from to : ℕ) → to < from → from < 4294967296 → distance from to ≡ to + (4294967296 - from)
round from to lt small = omega arith

pub nearer : (last number k : ℕ) → last < 4294967296 → number < 4294967296 → distance last number ≡ suc k → distance (next_to last) number ≡ k
nearer last number k small numbered e = omega arith

pub same : (last number : ℕ) → last < 4294967296 → number < 4294967296 → distance last number ≡ 0 → number ≡ last
same last number small numbered e = omega arith

pub next_one : (last number : ℕ) → last < 4294967296 → number < 4294967296 → distance last number ≡ 1 → number ≡ next_to last
next_one last number small numbered e = omega arith

pub again : (last : ℕ) → last < 4294967296 → is_behind (next_to last) last ≡ true
again last small = grind (arith, nat_tests)

pub one_nearer : (last number : ℕ) → last < 4294967296 → number < 4294967296 → 1 ≤ distance last number → suc (distance (next_to last) number) ≡ distance last number
one_nearer last number small numbered some = omega arith

pub one_farther : (last number : ℕ) → last < 4294967296 → number < 4294967296 → distance (next_to last) number ≤ 8 → distance last number ≡ suc (distance (next_to last) number)
one_farther last number small numbered few = omega arith

pub before : ℕ → ℕ
before expected = (expected + 4294967295) % 4294967296

pub before_small : (expected : ℕ) → before expected < 4294967296
unfolding before
before_small expected = omega arith

pub next_to_before : (expected : ℕ) → expected < 4294967296 → next_to (before expected) ≡ expected
unfolding before
next_to_before expected small = omega arith

pub next_small : (last : ℕ) → next_to last < 4294967296
next_small last = omega arith

pub not_early_again : (last : ℕ) → last < 4294967296 → is_ahead (next_to last) last ≡ false
not_early_again last small = let far : distance (next_to last) last ≡ 4294967295 = omega arith in grind (arith, nat_tests)

pub not_ahead_of_itself : (number : ℕ) → number < 4294967296 → is_ahead number number ≡ false
not_ahead_of_itself number small = let none : distance number number ≡ 0 = omega arith in grind (arith, nat_tests)

pub not_behind_itself : (number : ℕ) → number < 4294967296 → is_behind number number ≡ false
not_behind_itself number small = let none : distance number number ≡ 0 = omega arith in grind (arith, nat_tests)

pub early : (expected number : ℕ) → 1 ≤ distance expected number → distance expected number ≤ 8 → is_ahead expected number ≡ true
early expected number some few = grind (arith, nat_tests)

-- what is behind isn't ahead
pub behind_not_early : (expected number : ℕ) → expected < 4294967296 → number < 4294967296 → is_behind expected number ≡ true → is_ahead expected number ≡ false
behind_not_early expected number small numbered e =
    let least = leb-true 1 (distance number expected) (and_first (nat_le 1 (distance number expected)) (nat_le (distance number expected) 256) e) in
    let most = leb-true (distance number expected) 256 (and_second (nat_le 1 (distance number expected)) (nat_le (distance number expected) 256) e) in
    let far : 8 < distance expected number = omega arith in
    grind (arith, nat_tests)
