-- Rounds at work, one after another.
use Rattle.rasta_core_recovery.proofs.Words.Basics.{◌≡◌, ℕ, zero, suc, ◌-◌, ◌≤◌, ◌<◌, true, refl, subst, arith}
use Rattle.rasta_core_recovery.proofs.Words.Links.{Names, is_asking}
use Rattle.rasta_core_recovery.proofs.Lemmas.Rounds.Links.{Pair}
use Rattle.rasta_core_recovery.proofs.Lemmas.Rounds.Acts.{WorkRound, behind}
use Rattle.rasta_core_recovery.proofs.Lemmas.Rounds.Facts.{Facts}
use Rattle.rasta_core_recovery.proofs.Lemmas.Rounds.Pasts.{Past}
use Rattle.rasta_core_recovery.proofs.Lemmas.ComingUp.Seen.{BothIn}
use Rattle.rasta_core_recovery.proofs.Lemmas.FirstRound.FirstGrants.{Asking}
use Rattle.rasta_core_recovery.proofs.Lemmas.FirstRound.FirstHears.{Below}
use Rattle.rasta_core_recovery.proofs.Lemmas.FirstRound.FirstRises.{Climbs}

-- what is so of two ends after each round, and before the first
pub record Sound (names : Names) (p : Pair) : Type 0 where
  pub facts : Facts names p
  pub client_past : Past p.client
  pub server_past : Past p.server
  pub below : BothIn p → Below p
  pub asking : is_asking p.client ≡ true → Asking names p

-- from one pair to another in so many rounds
abbrev pub Run : Names → ℕ → Pair → Pair → Type 0
Run names zero p z = p ≡ z
Run names (suc n) p z = (r : WorkRound p) × Sound names (behind p r) × Run names n (behind p r) z

-- after the first of them what both have sent doesn't fall
abbrev pub Climb : (names : Names) (n : ℕ) (p z : Pair) → Run names n p z → Type 0
Climb names zero p z run = Unit {0}
Climb names (suc n) p z run = BothIn (behind p run.0) → Climbs (behind p run.0)

-- the pair after so many of them
abbrev pub reached : (k : ℕ) (names : Names) (n : ℕ) (p z : Pair) → Run names n p z → Pair
reached zero names n p z run = p
reached (suc k) names zero p z run = p
reached (suc k) names (suc n) p z run = reached k names n (behind p run.0) z run.2

-- So many rounds, and the pairs between them.
pub record Rounds (names : Names) (n : ℕ) (z : Pair) (at : ℕ → Pair) : Type 0 where
  pub sound : (k : ℕ) → k ≤ n → Sound names (at k)
  pub round : (k : ℕ) → k < n → (r : WorkRound (at k)) × (at (suc k) ≡ behind (at k) r)
  pub rest : (k : ℕ) → k ≤ n → Run names (n - k) (at k) z

pub rounds_of : (names : Names) (n : ℕ) (p z : Pair) → Sound names p → (run : Run names n p z) → Rounds names n z (λ k. reached k names n p z run)
rounds_of names n p z sound run = record { sound = λ k most. sounds k n p sound run most; round = λ k lt. rounds k n p run lt; rest = λ k most. rests k n p run most }
  where
    sounds : (k n : ℕ) (p : Pair) → Sound names p → (run : Run names n p z) → k ≤ n → Sound names (reached k names n p z run)
    sounds zero n p s run most = s
    sounds (suc k) zero p s run most = s
    sounds (suc k) (suc n) p s run most = sounds k n (behind p run.0) run.1 run.2 (omega (arith, most))

    rounds : (k n : ℕ) (p : Pair) (run : Run names n p z) → k < n → (r : WorkRound (reached k names n p z run)) × (reached (suc k) names n p z run ≡ behind (reached k names n p z run) r)
    rounds k zero p run lt = absurd (omega (arith, lt))
    rounds zero (suc n) p run lt = (run.0, refl)
    rounds (suc k) (suc n) p run lt = rounds k n (behind p run.0) run.2 (omega (arith, lt))

    rests : (k n : ℕ) (p : Pair) (run : Run names n p z) → k ≤ n → Run names (n - k) (reached k names n p z run) z
    rests zero n p run most = subst (λ (m : ℕ). Run names m p z) (omega arith) run
    rests (suc k) zero p run most = absurd (omega (arith, most))
    rests (suc k) (suc n) p run most = subst (λ (m : ℕ). Run names m (reached k names n (behind p run.0) z run.2) z) (omega arith) (rests k n (behind p run.0) run.2 (omega (arith, most)))

-- the same from the second of them on
pub shifted : (names : Names) (n : ℕ) (z : Pair) (at : ℕ → Pair) → 1 ≤ n → Rounds names n z at → Rounds names (n - 1) z (λ k. at (suc k))
shifted names n z at some rounds = record {
  sound = λ k most. rounds.sound (suc k) (omega (arith, some, most));
  round = λ k lt. rounds.round (suc k) (omega (arith, some, lt));
  rest = λ k most. subst (λ (m : ℕ). Run names m (at (suc k)) z) (omega (arith, some)) (rounds.rest (suc k) (omega (arith, some, most)));
}

-- the rounds but for the last
pub record Last (names : Names) (n : ℕ) (p z : Pair) : Type 0 where
  pub before : Pair
  pub run : Run names n p before
  pub round : WorkRound before
  pub ends : behind before round ≡ z

pub last_of : (names : Names) (n : ℕ) (p z : Pair) → Run names (suc n) p z → Last names n p z
last_of names zero p z (r, s, e) = record { before = p; run = refl; round = r; ends = e }
last_of names (suc n) p z (r, s, run) = let l = last_of names n (behind p r) z run in record { before = l.before; run = (r, s, l.run); round = l.round; ends = l.ends }

pub last_climbs : (names : Names) (n : ℕ) (p z : Pair) (run : Run names (suc n) p z) → Climb names (suc n) p z run
    → Climb names n p (last_of names n p z run).before (last_of names n p z run).run
unfolding last_of
last_climbs names zero p z run climbs = tt
last_climbs names (suc n) p z (r, s, run) climbs = climbs

-- as the pair after the first round
pub climbs_then : (names : Names) (n : ℕ) (p z : Pair) (run : Run names n p z) → 1 ≤ n → Climb names n p z run → BothIn (reached 1 names n p z run)
    → Climbs (reached 1 names n p z run)
climbs_then names zero p z run some climbs both = absurd (omega (arith, some))
climbs_then names (suc n) p z run some climbs both = climbs both
