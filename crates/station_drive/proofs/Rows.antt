-- Lists of doings that grow at their end.
use Rattle.std.proofs.Common.{◌≡◌, ℕ, zero, suc, ◌+◌, ◌-◌, List, [], ◌∷◌, ◌++◌, length, map, drop, Option, Some, None, slice_get, ◌<◌, ◌≤◌, replicate, refl, sym, ap, ◌∙◌, append_assoc, append-nil, length-append, arith}
use Rattle.std.proofs.Math.Numerals.{add-one}
use Rattle.std.proofs.lemmas.List.{length-replicate, map-append}
use Rattle.std.specs.Prelude.{IsTrue, ◌↔◌, Bool, false}
use Rattle.std.specs.List.{AllByRecursion}
use Rattle.control_table.specs.sci_telegram.declared.message.Side.{Side}
use Rattle.simulator_event.specs.declared.event.Event.{Event}
use Rattle.simulator_event.specs.declared.event.Event.TheVariants.{Deliver, Tick}
use Rattle.simulator_event.specs.layout.declared.ids.NodeId.{NodeId}
use Rattle.station_drive.specs.declared.course.Drive.{Drive}
use Rattle.station_drive.specs.Told.{Datagram, Nothing}
use Rattle.station_drive.specs.Doings.{Doing, Asking, Applying}
use Rattle.station_drive.specs.Rounds.{drives_after, Hearing, comings, hearing_of, hearings, ticks}

none-some : {A : Type 0} {x : A} → None ≡ Some x → ⊥
none-some e = cc

same_some : {A : Type 0} {w x : A} → Some w ≡ Some x → w ≡ x
same_some e = cc

drop_behind : {A : Type 0} (xs : List A) (n : ℕ) (x : A) → slice_get xs n ≡ Some x → drop n xs ≡ x ∷ drop (suc n) xs
drop_behind [] n x at = absurd (none-some at)
drop_behind (w ∷ xs) zero x at = ap (λ z. z ∷ xs) (same_some at)
drop_behind (w ∷ xs) (suc n) x at = drop_behind xs n x at

-- the first of what is left
pub drop_at : {A : Type 0} (xs : List A) (n : ℕ) (x : A) → slice_get xs n ≡ Some x → drop n xs ≡ x ∷ drop (n + 1) xs
drop_at xs n x h = rw (add-one n) (drop_behind xs n x h)

-- what was taken from the front, and what is left
pub moved : {A : Type 0} (done all left : List A) (x : A) (rest : List A) → left ≡ x ∷ rest → done ++ left ≡ all → (done ++ x ∷ []) ++ rest ≡ all
moved done all left x rest e h = append_assoc done (x ∷ []) rest ∙ ap (λ l. done ++ l) (sym e) ∙ h

pub comings-push : (node : NodeId) (heard : List (List ℕ)) (bytes : List ℕ)
    → comings node (heard ++ bytes ∷ []) ≡ comings node heard ++ Asking node (Datagram bytes) ∷ Applying (Deliver node bytes) ∷ []
comings-push node [] bytes = refl
comings-push node (one ∷ more) bytes = ap (λ l. Asking node (Datagram one) ∷ Applying (Deliver node one) ∷ l) (comings-push node more bytes)

pub hearings-push : (node : ℕ) (heard : List Hearing) (hearing : Hearing) (last : ℕ) → last ≡ node + length heard
    → hearings node (heard ++ hearing ∷ []) ≡ hearings node heard ++ hearing_of (record { 0 = last }) hearing
hearings-push node [] hearing last h = append-nil _ ∙ ap (λ (n : ℕ). hearing_of (record { 0 = n }) hearing) (let e : node ≡ last = omega arith in e)
hearings-push node (one ∷ more) hearing last h =
    ap (λ l. hearing_of (record { 0 = node }) one ++ l) (hearings-push (suc node) more hearing last (let e : last ≡ suc node + length more = omega arith in e))
    ∙ sym (append_assoc (hearing_of (record { 0 = node }) one) (hearings (suc node) more) _)

pub hearings-append : (node : ℕ) (xs ys : List Hearing) → hearings node (xs ++ ys) ≡ hearings node xs ++ hearings (node + length xs) ys
hearings-append node [] ys = ap (λ (n : ℕ). hearings n ys) (let e : node ≡ node + 0 = omega arith in e)
hearings-append node (one ∷ more) ys =
    ap (λ l. hearing_of (record { 0 = node }) one ++ l)
    (hearings-append (suc node) more ys ∙ ap (λ (n : ℕ). hearings (suc node) more ++ hearings n ys) (let e : suc node + length more ≡ node + length (one ∷ more) = omega arith in e))
    ∙ sym (append_assoc (hearing_of (record { 0 = node }) one) (hearings (suc node) more) _)

-- nothing is heard
abbrev pub silence : Hearing
silence = record { datagrams = []; last = Nothing; silent = tt }

-- so many nodes heard, of which these were the first
pub record HeardOn (first : List Hearing) (nodes : ℕ) : Type 0 where
  pub heard : List Hearing
  pub counted : length heard ≡ nodes
  pub rest : List Doing
  pub is : hearings 0 heard ≡ hearings 0 first ++ rest

-- the others heard nothing
pub silent_rest : (first : List Hearing) (nodes : ℕ) → length first ≤ nodes → HeardOn first nodes
silent_rest first nodes h =
    let left : ℕ = nodes - length first in
    let quiet : List Hearing = replicate left silence in
    let counted = length-replicate left silence in
    let both = length-append first quiet in
    record { heard = first ++ quiet; counted = omega (arith, h, counted, both); rest = hearings (0 + length first) quiet; is = hearings-append 0 first quiet }

-- the ticks of more nodes begin with those of fewer
pub ticks_behind : (node more : ℕ) → (rest : List Event) × (ticks (more + node) ≡ ticks node ++ rest)
ticks_behind node zero = ([], ap (λ (n : ℕ). ticks n) (let e : 0 + node ≡ node = omega arith in e) ∙ sym (append-nil (ticks node)))
ticks_behind node (suc more) =
    let before = ticks_behind node more in
    let last : List Event = Tick (record { 0 = more + node }) ∷ [] in (
      before.0 ++ last,
      ap (λ (n : ℕ). ticks n) (let e : suc more + node ≡ suc (more + node) = omega arith in e) ∙ (ap (λ l. l ++ last) before.1 ∙ append_assoc (ticks node) before.0 last),
    )

pub ticks-more : (node : ℕ) → map Applying (ticks (node + 1)) ≡ map Applying (ticks node) ++ Applying (Tick (record { 0 = node })) ∷ []
ticks-more node = rw (add-one node) (map-append Applying (ticks node) (Tick (record { 0 = node }) ∷ []))

-- a place inside a list isn't empty
pub not_past : {A : Type 0} (xs : List A) (n : ℕ) → n < length xs → slice_get xs n ≡ None → ⊥
not_past [] n h e = let f : ⊥ = omega arith in f
not_past (x ∷ xs) zero h e = let f : ⊥ = cc in f
not_past (x ∷ xs) (suc n) h e = not_past xs n (omega arith) e

-- what a test that failed tells
pub failed : {P : Type 0} (b : Bool) → (IsTrue b ↔ P) → b ≡ false → P → ⊥
failed b h e p = let t = h.1 p in cc

pub all-push : {A : Type 0} (P : A → Type 0) (xs : List A) (x : A) → AllByRecursion P xs → P x → AllByRecursion P (xs ++ x ∷ [])
all-push P [] x h p = (p, tt)
all-push P (y ∷ ys) x h p = (h.0, all-push P ys x h.1 p)

-- what holds of each holds of each where it leads to that
pub all-lead : {A : Type 0} (P Q : A → Type 0) → ((x : A) → P x → Q x) → (xs : List A) → AllByRecursion P xs → AllByRecursion Q xs
all-lead P Q leads [] h = tt
all-lead P Q leads (x ∷ xs) h = (leads x h.0, all-lead P Q leads xs h.1)

pub length-drives_after : (reading : ℕ) (driven : ℕ → Option Side) (place : ℕ) (drives : List (Option Drive)) → length (drives_after reading driven place drives) ≡ length drives
length-drives_after reading driven place [] = refl
length-drives_after reading driven place (drive ∷ more) = ap (λ n. suc n) (length-drives_after reading driven (suc place) more)
