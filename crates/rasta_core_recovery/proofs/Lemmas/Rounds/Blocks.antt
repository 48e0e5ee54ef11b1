-- How many items still wait, and how many PDUs a retransmission has.
use Rattle.rasta_core_recovery.proofs.Words.Basics.{◌≡◌, ℕ, ◌+◌, ◌≤◌, Bool, true, false, nat_le, if◌then◌else◌, List, [], ◌∷◌, ◌++◌, length, refl, arith}
use Rattle.rasta_core_recovery.proofs.Words.Links.{repeated, retagged, still_waiting, Header, Pdu, RetransmissionResponse, Unconfirmed}

pub still_fewer : (confirmed : ℕ) (waiting : List Unconfirmed) → length (still_waiting confirmed waiting) ≤ length waiting
unfolding still_waiting
still_fewer confirmed [] = omega arith
still_fewer confirmed (first ∷ others) = choose (nat_le first.tag confirmed) (still_fewer confirmed others)
  where
    choose : (b : Bool) → length (still_waiting confirmed others) ≤ length others → length (if b then still_waiting confirmed others else first ∷ others) ≤ length (first ∷ others)
    choose true e = omega (arith, e)
    choose false e = omega arith

pub retagged_as_many : (number : ℕ) (waiting : List Unconfirmed) → length (retagged number waiting) ≡ length waiting
unfolding retagged
retagged_as_many number [] = refl
retagged_as_many number (first ∷ others) = let e = retagged_as_many (number + 1) others in omega (arith, e)

pub repeated_as_many : (h : Header) (number : ℕ) (waiting : List Unconfirmed) → length (repeated h number waiting) ≡ length waiting
unfolding repeated
repeated_as_many h number [] = refl
repeated_as_many h number (first ∷ others) = let e = repeated_as_many h (number + 1) others in omega (arith, e)

pub as_many_both : {X : Type 0} (xs ys : List X) → length (xs ++ ys) ≡ length xs + length ys
as_many_both [] ys = omega arith
as_many_both (x ∷ xs) ys = let e = as_many_both xs ys in omega (arith, e)

-- an answer, and so many PDUs after it at most
pub record IsBlock (most : ℕ) (ps : List Pdu) : Type 0 where
  pub first : Pdu
  pub rest : List Pdu
  pub are : ps ≡ first ∷ rest
  pub answers : first.body ≡ RetransmissionResponse
  pub few : length rest ≤ most
