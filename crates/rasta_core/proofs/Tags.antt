-- The tags of the items that wait: what dropping, adding and repeating does to them.
use Rattle.std.proofs.Common.{◌≡◌, ℕ, ◌+◌, ◌-◌, ◌<◌, ◌≤◌, List, [], ◌∷◌, ◌++◌, length, refl, arith, ap, sym, ◌∙◌, append_assoc}
use Rattle.std.specs.Prelude.{nat_le}
use Rattle.std.proofs.lemmas.Bool.{leb-false}
use Rattle.rasta_core_spec.specs.Receipt.{still_waiting, retagged}
use Rattle.rasta_core_spec.specs.window.Unconfirmed.{Unconfirmed}
use Rattle.rasta_core.specs.EndFlow.{later, items_of}
use Rattle.rasta_core.specs.Order.{Rises}
use Rattle.rasta_core.proofs.OrderTests.{by_test}

-- all that wait below a number are none from there on
pub later_none : (low high number : ℕ) (waiting : List Unconfirmed) → Rises low high waiting → high ≤ number → later number waiting ≡ 0
later_none low high number [] rises above = refl
later_none low high number (first ∷ others) rises above = grind (arith, later_none (first.tag + 1) high number others rises.2 above)

-- all that wait from a number on
pub later_all : (low high number : ℕ) (waiting : List Unconfirmed) → Rises low high waiting → number ≤ low → later number waiting ≡ length waiting
later_all low high number [] rises below = refl
later_all low high number (first ∷ others) rises below = grind (arith, later_all (first.tag + 1) high number others rises.2 (omega (arith, rises.0)))

pub later_most : (number : ℕ) (waiting : List Unconfirmed) → later number waiting ≤ length waiting
later_most number [] = omega arith
later_most number (first ∷ others) = grind (arith, later_most number others)

pub rises_higher : (low high higher : ℕ) (waiting : List Unconfirmed) → Rises low high waiting → high ≤ higher → Rises low higher waiting
rises_higher low high higher [] rises more = tt
rises_higher low high higher (first ∷ others) rises more = (rises.0, omega (arith, rises.1), rises_higher (first.tag + 1) high higher others rises.2 more)

pub rises_lower : (low lower high : ℕ) (waiting : List Unconfirmed) → Rises low high waiting → lower ≤ low → Rises lower high waiting
rises_lower low lower high [] rises less = tt
rises_lower low lower high (first ∷ others) rises less = (omega (arith, rises.0), rises.1, rises.2)

-- ---- dropping what is confirmed

pub still_few : (confirmed : ℕ) (waiting : List Unconfirmed) → length (still_waiting confirmed waiting) ≤ length waiting
unfolding still_waiting
still_few confirmed [] = omega arith
still_few confirmed (first ∷ others) = grind (arith, still_few confirmed others)

pub still_later : (confirmed number : ℕ) (waiting : List Unconfirmed) → confirmed < number → later number (still_waiting confirmed waiting) ≡ later number waiting
unfolding still_waiting
still_later confirmed number [] after = refl
still_later confirmed number (first ∷ others) after = grind (arith, still_later confirmed number others after)

pub still_rises : (confirmed low high : ℕ) (waiting : List Unconfirmed) → Rises low high waiting → Rises low high (still_waiting confirmed waiting)
unfolding still_waiting
still_rises confirmed low high [] rises = tt
still_rises confirmed low high (first ∷ others) rises =
    by_test (Rises low high) (nat_le first.tag confirmed) (still_waiting confirmed others) (first ∷ others)
    (λ e. rises_lower (first.tag + 1) low high (still_waiting confirmed others) (still_rises confirmed (first.tag + 1) high others rises.2) (omega (arith, rises.0)))
    (λ e. rises)

-- what is still waiting after a drop waits above it
pub still_above : (confirmed low high : ℕ) (waiting : List Unconfirmed) → Rises low high waiting → Rises (confirmed + 1) high (still_waiting confirmed waiting)
unfolding still_waiting
still_above confirmed low high [] rises = tt
still_above confirmed low high (first ∷ others) rises =
    by_test (Rises (confirmed + 1) high) (nat_le first.tag confirmed) (still_waiting confirmed others) (first ∷ others)
    (λ e. still_above confirmed (first.tag + 1) high others rises.2)
    (λ e. (omega (arith, leb-false first.tag confirmed e), rises.1, rises.2))

pub still_last : (confirmed : ℕ) (before given : List (List ℕ)) (waiting : List Unconfirmed) → given ≡ before ++ items_of waiting
    → (front : List (List ℕ)) × (given ≡ front ++ items_of (still_waiting confirmed waiting))
unfolding still_waiting
still_last confirmed before given [] is = (before, is)
still_last confirmed before given (first ∷ others) is =
    by_test (λ left. (front : List (List ℕ)) × (given ≡ front ++ items_of left)) (nat_le first.tag confirmed) (still_waiting confirmed others) (first ∷ others)
    (λ e. still_last confirmed (before ++ first.item ∷ []) given others (is ∙ sym (append_assoc before (first.item ∷ []) (items_of others))))
    (λ e. (before, is))

-- ---- repeating

pub retagged_length : (count : ℕ) (waiting : List Unconfirmed) → length (retagged count waiting) ≡ length waiting
unfolding retagged
retagged_length count [] = refl
retagged_length count (first ∷ others) = omega (arith, retagged_length (count + 1) others)

pub retagged_items : (count : ℕ) (waiting : List Unconfirmed) → items_of (retagged count waiting) ≡ items_of waiting
unfolding retagged
retagged_items count [] = refl
retagged_items count (first ∷ others) = ap (λ rest. first.item ∷ rest) (retagged_items (count + 1) others)

pub retagged_rises : (count high : ℕ) (waiting : List Unconfirmed) → count + length waiting ≤ high → Rises count high (retagged count waiting)
unfolding retagged
retagged_rises count high [] fits = tt
retagged_rises count high (first ∷ others) fits = (omega arith, omega arith, retagged_rises (count + 1) high others (omega arith))

pub retagged_later : (count number : ℕ) (waiting : List Unconfirmed) → later number (retagged count waiting) ≡ length waiting - (number - count)
unfolding retagged
retagged_later count number [] = omega arith
retagged_later count number (first ∷ others) = grind (arith, retagged_later (count + 1) number others)

-- ---- one more item

pub later_one_more : (number : ℕ) (waiting : List Unconfirmed) (one : Unconfirmed) → number ≤ one.tag → later number (waiting ++ one ∷ []) ≡ later number waiting + 1
later_one_more number [] one below = grind arith
later_one_more number (first ∷ others) one below = grind (arith, later_one_more number others one below)

pub rises_one_more : (low high : ℕ) (waiting : List Unconfirmed) (one : Unconfirmed) → Rises low high waiting → low ≤ high → one.tag ≡ high → Rises low (high + 1) (waiting ++ one ∷ [])
rises_one_more low high [] one rises fits is = (omega (arith, is), omega (arith, is), tt)
rises_one_more low high (first ∷ others) one rises fits is = (rises.0, omega (arith, rises.1), rises_one_more (first.tag + 1) high others one rises.2 (omega (arith, rises.1)) is)

pub items_one_more : (waiting : List Unconfirmed) (one : Unconfirmed) → items_of (waiting ++ one ∷ []) ≡ items_of waiting ++ one.item ∷ []
items_one_more [] one = refl
items_one_more (first ∷ others) one = ap (λ rest. first.item ∷ rest) (items_one_more others one)
