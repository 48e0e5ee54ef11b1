-- Numbers of PDUs, and the items that wait under them.
use Rattle.rasta_core_recovery.proofs.Words.Basics.{◌≡◌, ℕ, zero, suc, ◌+◌, ◌-◌, ◌^◌, ◌<◌, ◌≤◌, Bool, true, false, nat_le, List, [], ◌∷◌, ◌++◌, length, take, if◌then◌else◌, refl, ap, arith, leb-true, leb-false}
use Rattle.rasta_core_recovery.proofs.Words.Links.{wire, before, distance, still_waiting, retagged, Unconfirmed, Rises}
use Rattle.rasta_core.specs.EndFlow.{later as waiting_from}

-- ---- numbers of fewer than 2^31 PDUs

-- a PDU at most 200 ahead is the one with that number
pub ahead_is : (first expected place : ℕ) → expected < 2 ^ 31 → place < 2 ^ 31
    → distance (wire first expected) (wire first place) ≤ 200 → place ≡ expected + distance (wire first expected) (wire first place)
ahead_is first expected place e p d = omega (arith, d)

-- what a sequence number confirms
pub behind_is : (first sent expected : ℕ) → 1 ≤ expected → expected ≤ sent → sent < 2 ^ 31
    → sent - 1 - distance (wire first (expected - 1)) (wire first (before sent)) ≡ expected - 1
behind_is first sent expected some most fits = omega arith

-- the next one expected
pub next_is : (expected ahead : ℕ) → expected + ahead < 2 ^ 31 → wire expected (ahead + 1) ≡ expected + ahead + 1
next_is expected ahead fits = omega arith

pub before_is : (count : ℕ) → 1 ≤ count → count < 2 ^ 31 → before count ≡ count - 1
before_is count some fits = omega arith

-- a number stands once
pub wire_once : (first one other : ℕ) → one < 2 ^ 31 → other < 2 ^ 31 → wire first one ≡ wire first other → one ≡ other
wire_once first one other fits also same = omega (arith, same)

-- ---- what waits from a number on

pub waits_most : (number : ℕ) (waiting : List Unconfirmed) → waiting_from number waiting ≤ length waiting
waits_most number [] = omega arith
waits_most number (first ∷ others) = choose (nat_le number first.tag) (waits_most number others)
  where
    choose : (a : Bool) → waiting_from number others ≤ length others → (if a then suc (waiting_from number others) else waiting_from number others) ≤ suc (length others)
    choose true few = omega (arith, few)
    choose false few = omega (arith, few)

-- dropping what is confirmed below a number changes nothing from there on
pub drops_below : (confirmed number : ℕ) (waiting : List Unconfirmed) → confirmed < number → waiting_from number (still_waiting confirmed waiting) ≡ waiting_from number waiting
unfolding still_waiting
drops_below confirmed number [] below = refl
drops_below confirmed number (first ∷ others) below = choose (nat_le first.tag confirmed) refl (drops_below confirmed number others below)
  where
    not_later : nat_le first.tag confirmed ≡ true → (b : Bool) → nat_le number first.tag ≡ b → waiting_from number others ≡ (if b then suc (waiting_from number others) else waiting_from number others)
    not_later e true f = absurd (omega (arith, leb-true _ _ e, leb-true _ _ f, below))
    not_later e false f = refl

    by_tag : nat_le first.tag confirmed ≡ true → waiting_from number others ≡ waiting_from number (first ∷ others)
    by_tag e = not_later e (nat_le number first.tag) refl

    choose : (a : Bool) → nat_le first.tag confirmed ≡ a → waiting_from number (still_waiting confirmed others) ≡ waiting_from number others
        → waiting_from number (if a then still_waiting confirmed others else first ∷ others) ≡ waiting_from number (first ∷ others)
    choose true e same = let t = by_tag e in omega (arith, same, t)
    choose false e same = refl

-- all that wait from some number on
pub all_later : (low high number : ℕ) (waiting : List Unconfirmed) → Rises low high waiting → number ≤ low → waiting_from number waiting ≡ length waiting
all_later low high number [] rises below = refl
all_later low high number (first ∷ others) rises below = choose (nat_le number first.tag) refl (all_later (first.tag + 1) high number others rises.2 (omega (arith, rises.0, below)))
  where
    choose : (a : Bool) → nat_le number first.tag ≡ a → waiting_from number others ≡ length others → (if a then suc (waiting_from number others) else waiting_from number others) ≡ suc (length others)
    choose true e all = ap suc all
    choose false e all = absurd (omega (arith, leb-false _ _ e, rises.0, below))

-- what still waits waits above what is confirmed
pub still_above : (confirmed low high : ℕ) (waiting : List Unconfirmed) → Rises low high waiting → length (still_waiting confirmed waiting) ≤ waiting_from (confirmed + 1) waiting
unfolding still_waiting
still_above confirmed low high [] rises = omega arith
still_above confirmed low high (first ∷ others) rises = choose (nat_le first.tag confirmed) refl (nat_le (confirmed + 1) first.tag) refl (still_above confirmed (first.tag + 1) high others rises.2)
  where
    choose : (a : Bool) → nat_le first.tag confirmed ≡ a → (b : Bool) → nat_le (confirmed + 1) first.tag ≡ b → length (still_waiting confirmed others) ≤ waiting_from (confirmed + 1) others
        → length (if a then still_waiting confirmed others else first ∷ others) ≤ (if b then suc (waiting_from (confirmed + 1) others) else waiting_from (confirmed + 1) others)
    choose true e true f few = omega (arith, few)
    choose true e false f few = few
    choose false e true f few = let all = all_later (first.tag + 1) high (confirmed + 1) others rises.2 (omega (arith, leb-false _ _ e)) in omega (arith, all)
    choose false e false f few = absurd (omega (arith, leb-false _ _ e, leb-false _ _ f))

-- what waits again waits under new numbers
pub again_later : (count number : ℕ) (waiting : List Unconfirmed) → number ≤ count → waiting_from number (retagged count waiting) ≡ length waiting
unfolding retagged
again_later count number [] below = refl
again_later count number (first ∷ others) below = choose (nat_le number count) refl (again_later (count + 1) number others (omega (arith, below)))
  where
    choose : (a : Bool) → nat_le number count ≡ a → waiting_from number (retagged (count + 1) others) ≡ length others
        → (if a then suc (waiting_from number (retagged (count + 1) others)) else waiting_from number (retagged (count + 1) others)) ≡ suc (length others)
    choose true e all = ap suc all
    choose false e all = absurd (omega (arith, leb-false _ _ e, below))

-- an item that is given waits under the next number
pub given_later : (number : ℕ) (waiting : List Unconfirmed) (one : Unconfirmed) → number ≤ one.tag → waiting_from number (waiting ++ one ∷ []) ≡ waiting_from number waiting + 1
given_later number [] one below = choose (nat_le number one.tag) refl
  where
    choose : (a : Bool) → nat_le number one.tag ≡ a → (if a then suc 0 else 0) ≡ 0 + 1
    choose true e = refl
    choose false e = absurd (omega (arith, leb-false _ _ e, below))
given_later number (first ∷ others) one below = choose (nat_le number first.tag) (given_later number others one below)
  where
    choose : (a : Bool) → waiting_from number (others ++ one ∷ []) ≡ waiting_from number others + 1
        → (if a then suc (waiting_from number (others ++ one ∷ [])) else waiting_from number (others ++ one ∷ [])) ≡ (if a then suc (waiting_from number others) else waiting_from number others) + 1
    choose true same = omega (arith, same)
    choose false same = same

-- ---- lists

pub count_one : {X : Type 0} (list : List X) (one : X) → length (list ++ one ∷ []) ≡ length list + 1
count_one [] one = refl
count_one (first ∷ list) one = let e = count_one list one in omega (arith, e)

pub at_most : {X : Type 0} (n : ℕ) (list : List X) → length (take n list) ≤ n
at_most zero list = omega arith
at_most (suc n) [] = omega arith
at_most (suc n) (first ∷ others) = let few = at_most n others in omega (arith, few)
