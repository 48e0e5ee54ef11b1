-- What waits after a PDU that was taken waits above what that confirms.
use Rattle.rasta_core_recovery.proofs.Words.Basics.{ℕ, ◌+◌, ◌<◌, ◌≡◌, Bool, true, false, nat_le, List, [], ◌∷◌, if◌then◌else◌, refl, arith, leb-false}
use Rattle.rasta_core_recovery.proofs.Words.Links.{Each, retagged, still_waiting, Unconfirmed, Rises}

abbrev pub AllAbove : ℕ → List Unconfirmed → Type 0
AllAbove confirmed waiting = Each (λ (held : Unconfirmed). confirmed < held.tag) waiting

rises_above : (confirmed low high : ℕ) (waiting : List Unconfirmed) → confirmed < low → Rises low high waiting → AllAbove confirmed waiting
rises_above confirmed low high [] below rises = tt
rises_above confirmed low high (first ∷ others) below rises =
    let at = rises.0 in (omega (arith, below, at), rises_above confirmed (first.tag + 1) high others (omega (arith, below, at)) rises.2)

pub still_above : (confirmed low high : ℕ) (waiting : List Unconfirmed) → Rises low high waiting → AllAbove confirmed (still_waiting confirmed waiting)
unfolding still_waiting
still_above confirmed low high [] rises = tt
still_above confirmed low high (first ∷ others) rises = choose (nat_le first.tag confirmed) refl (still_above confirmed (first.tag + 1) high others rises.2)
  where
    choose : (b : Bool) → nat_le first.tag confirmed ≡ b → AllAbove confirmed (still_waiting confirmed others) → AllAbove confirmed (if b then still_waiting confirmed others else first ∷ others)
    choose true e rest = rest
    choose false e rest = let over = leb-false _ _ e in (over, rises_above confirmed (first.tag + 1) high others (omega (arith, over)) rises.2)

pub retagged_above : (confirmed number : ℕ) (waiting : List Unconfirmed) → confirmed < number → AllAbove confirmed (retagged number waiting)
unfolding retagged
retagged_above confirmed number [] below = tt
retagged_above confirmed number (first ∷ others) below = (below, retagged_above confirmed (number + 1) others (omega (arith, below)))
