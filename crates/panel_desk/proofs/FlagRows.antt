-- Rows of flags, and what is shown of them.
use Rattle.std.proofs.Common.{◌≡◌, ◌∙◌, ◌+◌, ◌<◌, ◌≤◌, ◌↔◌, ℕ, zero, suc, Bool, true, false, not, List, [], ◌∷◌, ◌++◌, drop, length, replicate, Some, slice_get, slice_set, refl, sym, ap, append_assoc, arith}
use Rattle.std.specs.Prelude.{IsTrue}
use Rattle.std.proofs.lemmas.Bool.{false≢true, true≢false}
use Rattle.std.specs.List.{list_any}
use Rattle.panel_desk.specs.Inside.{begins_by}
use Rattle.panel_desk.specs.StandingOrders.{StandingView, begun_from, lines_from, none_standing, place_among}
use Rattle.panel_desk.specs.declared.panel_line.PanelLine.{PanelLine}
use Rattle.panel_desk.specs.declared.panel_line.PanelLine.TheVariants.{Automatic, Waits}
use Rattle.panel_desk.specs.declared.standing_orders.Waiting.{Waiting}

-- ---- flags that are taken away

set_next : {A : Type 0} (place : ℕ) (value : A) (all : List A) → place < length all
    → slice_set (replicate place value ++ drop place all) place value ≡ replicate (suc place) value ++ drop (suc place) all
set_next place value [] below = absurd (omega (arith, below))
set_next zero value (first ∷ others) below = refl
set_next (suc place) value (first ∷ others) below = ap (λ l. value ∷ l) (set_next place value others (omega (arith, below)))

-- one more has the value
pub put_next : {A : Type 0} (place : ℕ) (value : A) (now all : List A) → place < length all → now ≡ replicate place value ++ drop place all
    → slice_set now place value ≡ replicate (place + 1) value ++ drop (place + 1) all
put_next place value now all below is =
    let next : suc place ≡ place + 1 = omega arith in
    ap (λ l. slice_set l place value) is ∙ set_next place value all below ∙ ap (λ p. replicate p value ++ drop p all) next

-- all have it
pub put_whole : {A : Type 0} (place : ℕ) (value : A) (all : List A) → length all ≤ place → place ≤ length all → replicate place value ++ drop place all ≡ replicate (length all) value
put_whole zero value [] above below = refl
put_whole (suc place) value [] above below = absurd (omega (arith, below))
put_whole zero value (first ∷ others) above below = absurd (omega (arith, above))
put_whole (suc place) value (first ∷ others) above below = ap (λ l. value ∷ l) (put_whole place value others (omega (arith, above)) (omega (arith, below)))

-- ---- none is set

pub none_set : (flags : List Bool) → list_any (λ flag. flag) flags ≡ false → flags ≡ replicate (length flags) false
none_set [] h = refl
none_set (true ∷ flags) h = absurd (cc)
none_set (false ∷ flags) h = ap (λ (l : List Bool). false ∷ l) (none_set flags h)

pub set_none : (places : ℕ) → list_any (λ flag. flag) (replicate places false) ≡ false
set_none zero = refl
set_none (suc places) = set_none places

-- ---- one more begins to wait

begun_on : (lines : List PanelLine) (number place : ℕ) (automatic : List Bool) (waiting : List Waiting) → place < length automatic
    → begun_from lines (suc number) (drop (suc place) automatic) (begins_by lines (record { 0 = number }) (slice_get automatic place) waiting) ≡ begun_from lines number (drop place automatic) waiting
begun_on lines number place [] waiting below = absurd (omega (arith, below))
begun_on lines number zero (flag ∷ flags) waiting below = refl
begun_on lines number (suc place) (flag ∷ flags) waiting below = begun_on lines number place flags waiting (omega (arith, below))

pub begun_next : (lines : List PanelLine) (place : ℕ) (automatic : List Bool) (waiting later last : List Waiting) → place < length automatic
    → later ≡ begins_by lines (record { 0 = place }) (slice_get automatic place) waiting → begun_from lines place (drop place automatic) waiting ≡ last
    → begun_from lines (place + 1) (drop (place + 1) automatic) later ≡ last
begun_next lines place automatic waiting later last below is before =
    let next : place + 1 ≡ suc place = omega arith in
    ap (λ (l : List Waiting). begun_from lines (place + 1) (drop (place + 1) automatic) l) is
    ∙ ap (λ (n : ℕ). begun_from lines n (drop n automatic) (begins_by lines (record { 0 = place }) (slice_get automatic place) waiting)) next
    ∙ begun_on lines place place automatic waiting below
    ∙ before

dropped_whole : {A : Type 0} (place : ℕ) (all : List A) → length all ≤ place → drop place all ≡ []
dropped_whole zero [] above = refl
dropped_whole (suc place) [] above = refl
dropped_whole zero (first ∷ others) above = absurd (omega (arith, above))
dropped_whole (suc place) (first ∷ others) above = dropped_whole place others (omega (arith, above))

pub begun_past : (lines : List PanelLine) (place : ℕ) (automatic : List Bool) (waiting last : List Waiting) → length automatic ≤ place
    → begun_from lines place (drop place automatic) waiting ≡ last → waiting ≡ last
begun_past lines place automatic waiting last above before =
    sym (ap (λ (l : List Bool). begun_from lines place l waiting) (dropped_whole place automatic above)) ∙ before

-- ---- what is shown of one more

lines_on : (number place : ℕ) (automatic : List Bool) (waiting : List Waiting) (flag : Bool) → slice_get automatic place ≡ Some flag
    → lines_from number (drop place automatic) waiting
    ≡ Automatic (record { 0 = number }) flag ∷ Waits (record { 0 = number }) (place_among (record { 0 = number }) waiting) ∷ lines_from (suc number) (drop (suc place) automatic) waiting
lines_on number place [] waiting flag is = absurd (cc)
lines_on number zero (first ∷ flags) waiting flag is =
    let same : first ≡ flag = cc in
    ap (λ (f : Bool). Automatic (record { 0 = number }) f ∷ Waits (record { 0 = number }) (place_among (record { 0 = number }) waiting) ∷ lines_from (suc number) flags waiting) same
lines_on number (suc place) (first ∷ flags) waiting flag is = lines_on number place flags waiting flag is

pub lines_next : (place : ℕ) (automatic : List Bool) (waiting : List Waiting) (flag : Bool) (items : List PanelLine) (last : List PanelLine) → slice_get automatic place ≡ Some flag
    → items ++ lines_from place (drop place automatic) waiting ≡ last
    → ((items ++ Automatic (record { 0 = place }) flag ∷ []) ++ Waits (record { 0 = place }) (place_among (record { 0 = place }) waiting) ∷ []) ++ lines_from (place + 1) (drop (place + 1) automatic) waiting ≡ last
lines_next place automatic waiting flag items last is before =
    let next : place + 1 ≡ suc place = omega arith in
    let one : PanelLine = Automatic (record { 0 = place }) flag in
    let other : PanelLine = Waits (record { 0 = place }) (place_among (record { 0 = place }) waiting) in
    append_assoc (items ++ one ∷ []) (other ∷ []) (lines_from (place + 1) (drop (place + 1) automatic) waiting)
    ∙ append_assoc items (one ∷ []) (other ∷ lines_from (place + 1) (drop (place + 1) automatic) waiting)
    ∙ ap (λ (n : ℕ). items ++ one ∷ other ∷ lines_from n (drop n automatic) waiting) next
    ∙ ap (λ (l : List PanelLine). items ++ l) (sym (lines_on place place automatic waiting flag is))
    ∙ before

-- ---- where nothing is done

pub idle : (orders : StandingView) (any : Bool) → any ≡ list_any (λ flag. flag) orders.automatic → orders.waiting ≡ [] → IsTrue (not any) ↔ (orders ≡ none_standing (length orders.automatic))
idle orders true is none =
    (λ h. absurd (false≢true h), λ same. absurd (true≢false (is ∙ ap (λ (o : StandingView). list_any (λ flag. flag) o.automatic) same ∙ set_none (length orders.automatic))))
idle orders false is none =
    (λ h. λ i. record { automatic = none_set orders.automatic (sym is) i; waiting = none i }, λ same. refl)
