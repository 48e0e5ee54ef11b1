-- What an end has given, and what waits of it.
use Rattle.rasta_core_recovery.proofs.Words.Basics.{ℕ, ◌+◌, ◌^◌, ◌≤◌, ◌<◌, Bool, true, false, nat_le, List, [], ◌∷◌, ◌++◌, if◌then◌else◌, arith, suc}
use Rattle.rasta_core_recovery.proofs.Words.Links.{LinkState, still_waiting, Unconfirmed}
use Rattle.rasta_core.specs.EndFlow.{later as waiting_from}

-- From one link to another in a connection: what is sent and given doesn't fall, and no more waits under the PDUs from a number on
-- than waited so before, and what was given since.
pub record Grows (l k : LinkState) : Type 0 where
  pub sent : l.sent ≤ k.sent
  pub waits : k.given < 2 ^ 32 → (l.given ≤ k.given) × ((number : ℕ) → number ≤ l.sent → waiting_from number k.waiting + l.given ≤ k.given + waiting_from number l.waiting)

pub grows_none : (l : LinkState) → Grows l l
grows_none l = record { sent = omega arith; waits = λ few. (omega arith, λ number most. omega arith) }

pub grows_then : (l k j : LinkState) → Grows l k → Grows k j → Grows l j
grows_then l k j a b = record {
  sent = omega (arith, a.sent, b.sent);
  waits = λ few. let y = b.waits few in let x = a.waits (omega (arith, few, y.0)) in
      (omega (arith, x.0, y.0), λ number most. let u = x.1 number most in let v = y.1 number (omega (arith, most, a.sent)) in omega (arith, u, v));
}

-- what was confirmed waits no longer
pub fewer_wait : (confirmed number : ℕ) (waiting : List Unconfirmed) → waiting_from number (still_waiting confirmed waiting) ≤ waiting_from number waiting
unfolding still_waiting
fewer_wait confirmed number [] = omega arith
fewer_wait confirmed number (first ∷ others) = choose (fewer_wait confirmed number others) (nat_le first.tag confirmed)
  where
    no_less : (b : Bool) → waiting_from number others ≤ (if b then suc (waiting_from number others) else waiting_from number others)
    no_less true = omega arith
    no_less false = omega arith

    both : waiting_from number (still_waiting confirmed others) ≤ waiting_from number others → waiting_from number others ≤ waiting_from number (first ∷ others)
        → waiting_from number (still_waiting confirmed others) ≤ waiting_from number (first ∷ others)
    both e f = omega (arith, e, f)

    choose : waiting_from number (still_waiting confirmed others) ≤ waiting_from number others → (a : Bool) → waiting_from number (if a then still_waiting confirmed others else first ∷ others) ≤ waiting_from number (first ∷ others)
    choose few false = omega arith
    choose few true = both few (no_less (nat_le number first.tag))

-- an item that is given waits under the next PDU
pub one_more_waits : (number : ℕ) (waiting : List Unconfirmed) (one : Unconfirmed) → waiting_from number (waiting ++ one ∷ []) ≤ waiting_from number waiting + 1
one_more_waits number [] one = choose (nat_le number one.tag)
  where
    choose : (a : Bool) → (if a then suc 0 else 0) ≤ 0 + 1
    choose true = omega arith
    choose false = omega arith
one_more_waits number (first ∷ others) one = choose (nat_le number first.tag) (one_more_waits number others one)
  where
    choose : (a : Bool) → waiting_from number (others ++ one ∷ []) ≤ waiting_from number others + 1
        → (if a then suc (waiting_from number (others ++ one ∷ [])) else waiting_from number (others ++ one ∷ [])) ≤ (if a then suc (waiting_from number others) else waiting_from number others) + 1
    choose true few = omega (arith, few)
    choose false few = few
