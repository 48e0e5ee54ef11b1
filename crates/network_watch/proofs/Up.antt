-- Since when a link is up, by its rounds.
use Rattle.std.proofs.Common.{◌≡◌, ◌≤◌, ◌<◌, ◌+◌, ◌-◌, ◌⊎◌, inl, inr, ℕ, Bool, true, false, List, [], ◌∷◌, Option, Some, None, if◌then◌else◌, refl, subst, arith}
use Rattle.std.proofs.lemmas.Bool.{le-leb, leb-false, leb-true}
use Rattle.network_watch.specs.Histories.{IsUpBy, IsUpSince, Rises, RisesTo, Round, after}
use Rattle.network_watch.specs.Links.{begun, is_long, is_up_long, still_used, used_after}
use Rattle.network_watch.specs.declared.link_watch.LinkUse.{LinkUse}

-- ---- readings that rise

pub rises_more : (low high : ℕ) (rounds : List Round) → low ≤ high → RisesTo low rounds → RisesTo high rounds
rises_more low high [] le rises = tt
rises_more low high (last ∷ rounds) le rises = (omega (arith, le, rises.0), rises.1)

pub rises_within : (reading : ℕ) (rounds : List Round) → RisesTo reading rounds → Rises rounds
rises_within reading [] rises = tt
rises_within reading (last ∷ rounds) rises = rises.1

-- ---- what is kept of a link

-- A link is up since then and no longer; or it isn't up.
abbrev pub Fits : List Round → Option LinkUse → Type 0
Fits rounds None = (since reading : ℕ) → RisesTo reading rounds → IsUpSince since reading rounds → ⊥
Fits rounds (Some used) =
    ((reading : ℕ) → reading < used.last + 1500 → IsUpSince used.since reading rounds)
    × ((since reading : ℕ) → RisesTo reading rounds → IsUpSince since reading rounds → (used.since ≤ since) × (reading < used.last + 1500))

-- the first of them was sent no later
first_or : (last since reading : ℕ) (by_it : Type 0) → last ≤ reading → (by_it → since ≤ last) → (last ≡ since) ⊎ by_it → since ≤ reading
first_or last since reading by_it le earlier (inl is) = subst (λ s. s ≤ reading) is le
first_or last since reading by_it le earlier (inr it) = let before = earlier it in omega (arith, before, le)

first_by : (sent : Bool) (last : Round) (since reading : ℕ) (before by_it : Type 0) → last.reading ≤ reading → (by_it → since ≤ last.reading) → (before → since ≤ reading)
    → IsUpBy sent last since reading before by_it → since ≤ reading
first_by true last since reading before by_it le earlier same up = first_or last.reading since reading by_it le earlier up.1
first_by false last since reading before by_it le earlier same up = same up

since_first : (since reading : ℕ) (rounds : List Round) → RisesTo reading rounds → IsUpSince since reading rounds → since ≤ reading
since_first since reading [] rises up = absurd up
since_first since reading (last ∷ rounds) rises up =
    first_by last.sent last since reading (IsUpSince since reading rounds) (IsUpSince since last.reading rounds) rises.0
    (λ before. since_first since last.reading rounds rises.1 before) (λ before. since_first since reading rounds (rises_more last.reading reading rounds rises.0 rises.1) before) up

begun_fits : (sent first second : Bool) (end : ℕ) (rounds : List Round) → RisesTo end rounds → ((since reading : ℕ) → end ≤ reading → RisesTo reading rounds → IsUpSince since reading rounds → ⊥)
    → Fits (record { sent = sent; first = first; second = second; reading = end } ∷ rounds) (begun sent end)
begun_fits false first second end rounds rises never = λ since reading later up. never since reading later.0 (rises_more end reading rounds later.0 later.1) up
begun_fits true first second end rounds rises never = (λ reading within. (within, inl refl), known)
  where
    earlier : (since : ℕ) → (end ≡ since) ⊎ IsUpSince since end rounds → end ≤ since
    earlier since (inl is) = subst (λ s. end ≤ s) is (omega arith)
    earlier since (inr before) = absurd (never since end (omega arith) rises before)

    known : (since reading : ℕ) → RisesTo reading (record { sent = true; first = first; second = second; reading = end } ∷ rounds)
        → IsUpSince since reading (record { sent = true; first = first; second = second; reading = end } ∷ rounds) → (end ≤ since) × (reading < end + 1500)
    known since reading later up = (earlier since up.1, up.0)

still_fits : (sent first second : Bool) (end : ℕ) (rounds : List Round) (used : LinkUse) → end < used.last + 1500 → RisesTo end rounds → Fits rounds (Some used)
    → Fits (record { sent = sent; first = first; second = second; reading = end } ∷ rounds) (Some (still_used sent end used))
still_fits false first second end rounds used within rises fits = (fits.0, λ since reading later up. fits.1 since reading (rises_more end reading rounds later.0 later.1) up)
still_fits true first second end rounds used within rises fits = (λ reading within_it. (within_it, inr (fits.0 end within)), known)
  where
    earlier : (since : ℕ) → (end ≡ since) ⊎ IsUpSince since end rounds → used.since ≤ since
    earlier since (inl is) = subst (λ s. used.since ≤ s) is (since_first used.since end rounds rises (fits.0 end within))
    earlier since (inr before) = (fits.1 since end rises before).0

    known : (since reading : ℕ) → RisesTo reading (record { sent = true; first = first; second = second; reading = end } ∷ rounds)
        → IsUpSince since reading (record { sent = true; first = first; second = second; reading = end } ∷ rounds) → (used.since ≤ since) × (reading < end + 1500)
    known since reading later up = (earlier since up.1, up.0)

step_fits : (sent first second : Bool) (end : ℕ) (rounds : List Round) (used : Option LinkUse) → RisesTo end rounds → Fits rounds used
    → Fits (record { sent = sent; first = first; second = second; reading = end } ∷ rounds) (used_after sent end used)
step_fits sent first second end rounds None rises fits = begun_fits sent first second end rounds rises (λ since reading later rise up. fits since reading rise up)
step_fits sent first second end rounds (Some used) rises fits = by_length (is_long used.last end) refl
  where
    by_length : (long : Bool) → is_long used.last end ≡ long
        → Fits (record { sent = sent; first = first; second = second; reading = end } ∷ rounds) (if long then begun sent end else Some (still_used sent end used))
    by_length true is =
        begun_fits sent first second end rounds rises
        (λ since reading later rise up. let recent = (fits.1 since reading rise up).1 in let long = leb-true 1500 (end - used.last) is in omega (arith, recent, long, later))
    by_length false is = still_fits sent first second end rounds used (let short = leb-false 1500 (end - used.last) is in omega (arith, short)) rises fits

pub fits : (rounds : List Round) → Rises rounds → Fits rounds (after rounds).used
fits [] rises = λ since reading rise up. up
fits (last ∷ rounds) rises = step_fits last.sent last.first last.second last.reading rounds (after rounds).used rises (fits rounds (rises_within last.reading rounds rises))

-- ---- at the end of a round

-- where it is up, something was sent less than 1500 ms before
abbrev Fresh : ℕ → Option LinkUse → Type 0
Fresh end None = Unit {0}
Fresh end (Some used) = end < used.last + 1500

begun_fresh : (sent : Bool) (end : ℕ) → Fresh end (begun sent end)
begun_fresh true end = omega arith
begun_fresh false end = tt

pub fresh : (sent : Bool) (end : ℕ) (used : Option LinkUse) → Fresh end (used_after sent end used)
fresh sent end None = begun_fresh sent end
fresh sent end (Some used) = by_length (is_long used.last end) refl
  where
    still : (sent : Bool) → end < used.last + 1500 → Fresh end (Some (still_used sent end used))
    still true short = omega arith
    still false short = short

    by_length : (long : Bool) → is_long used.last end ≡ long → Fresh end (if long then begun sent end else Some (still_used sent end used))
    by_length true is = begun_fresh sent end
    by_length false is = still sent (let short = leb-false 1500 (end - used.last) is in omega (arith, short))

-- up for so long, in the words of the field
pub up_long_is : (end : ℕ) (rounds : List Round) (used : Option LinkUse) → Fits rounds used → Fresh end used → is_up_long end used ≡ true
    → (since : ℕ) × (since + 1500 ≤ end) × IsUpSince since end rounds
up_long_is end rounds None fits fresh is = absurd (not_true is)
  where
    not_true : false ≡ true → ⊥
    not_true e = cc
up_long_is end rounds (Some used) fits fresh is =
    (used.since, (let long = leb-true 1500 (end - used.since) is in omega (arith, long)), fits.0 end fresh)

pub is_up_for_long : (since end : ℕ) (rounds : List Round) (used : Option LinkUse) → Fits rounds used → RisesTo end rounds → since + 1500 ≤ end → IsUpSince since end rounds → is_up_long end used ≡ true
is_up_for_long since end rounds None fits rises long up = absurd (fits since end rises up)
is_up_for_long since end rounds (Some used) fits rises long up =
    let le = (fits.1 since end rises up).0 in le-leb 1500 (end - used.since) (omega (arith, le, long))
