-- How old what an intake hands out can be.
use Rattle.std.proofs.Common.{◌≡◌, ◌≤◌, ◌<◌, ◌+◌, ℕ, zero, suc, nat_lt, ◌&&◌, Bool, true, false, cond, List, [], ◌∷◌, ◌++◌, length, map, Option, Some, None, slice_get, refl, sym, ap, subst, arith}
use Rattle.std.specs.List.{All}
use Rattle.std.specs.Option.{option_map, option_to_list}
use Rattle.std.proofs.lemmas.Bool.{ltb-true}
use Rattle.std.proofs.lemmas.List.Elements.{All-append, All-cons, All-head, All-nil, All-set, All-tail}
use Rattle.std.proofs.lemmas.List.Sorted.{All-permutation}
use Rattle.std.proofs.lemmas.Option.{same_Some}
use Rattle.datagram_hold.specs.Came.{Came}
use Rattle.datagram_hold.specs.Hold.{Handed, HoldState, asked, handing, taken}
use Rattle.datagram_hold.specs.Runs.{Asks, IsAskedOut, IsYoung, Takes}
use Rattle.datagram_hold.specs.Intake.{AsksAt, FindsEmpty, Forgets, IntakeCall, IntakeState, ReadsClock, ReadsOn, TakesFrom, emptied, first_ready, forgotten, found_empty, given, given_at, given_by, intake_run, is_fresh, is_ready, since, taken_by_it, taken_from}
use Rattle.datagram_hold.specs.declared.network.Network.{Network}
use Rattle.datagram_hold.specs.declared.network.Network.TheVariants.{First, Second}
use Rattle.datagram_hold.proofs.Keeping.{Keeps, call_keeps}
use Rattle.datagram_hold.proofs.Time.{all_front, young_within}

-- all that waits is such
abbrev AllHeld : (Came → Type 0) → List HoldState → Type 0
AllHeld P holds = All (λ (hold : HoldState). All P hold.held) holds

-- what comes from no sender waits for nothing
none_past : {X : Type 0} (xs : List X) (place : ℕ) → length xs ≤ place → slice_get xs place ≡ None
none_past [] place past = refl
none_past (x ∷ xs) zero past = absurd (omega (arith, past))
none_past (x ∷ xs) (suc place) past = none_past xs place (omega (arith, past))

pub from_no_sender : (place : ℕ) (one : Came) (holds : List HoldState) → length holds ≤ place → taken_by_it place one holds (slice_get holds place) ≡ (Some one, holds)
from_no_sender place one holds past = ap (taken_by_it place one holds) (none_past holds place past)

-- what was handed out is such, and so is all that waits then
abbrev Such : (Came → Type 0) → List Came × List HoldState → Type 0
Such P done = All P done.0 × AllHeld P done.1

all_behind : {X : Type 0} (P : X → Type 0) (xs ys : List X) → All P (xs ++ ys) → All P ys
all_behind P [] ys all = all
all_behind P (x ∷ xs) ys all = all_behind P xs ys (All-tail P x (xs ++ ys) all)

pub all_at : {X : Type 0} (P : X → Type 0) (xs : List X) (place : ℕ) (x : X) → slice_get xs place ≡ Some x → All P xs → P x
all_at P [] place x e all = absurd (cc)
all_at P (y ∷ xs) zero x e all = subst P (same_Some y x e) (All-head P y xs all)
all_at P (y ∷ xs) (suc place) x e all = all_at P xs place x e (All-tail P y xs all)

-- a call of a hold whose datagrams are such, by which such come
handed_such : (P : Came → Type 0) (there : List Came) (handed : Handed) → Keeps there handed → All P there → All P (option_to_list handed.0) × All P handed.1.held
handed_such P there handed keeps all =
    let both = All-permutation P there (option_to_list handed.0 ++ handed.1.held) keeps all in
    (all_front P (option_to_list handed.0) handed.1.held both, all_behind P (option_to_list handed.0) handed.1.held both)

taken_such : (P : Came → Type 0) (one : Came) (hold : HoldState) → P one → All P hold.held → All P (option_to_list (taken one hold).0) × All P (taken one hold).1.held
taken_such P one hold is held =
    handed_such P (hold.held ++ one ∷ []) (taken one hold) (call_keeps (Takes one) hold) (All-append P hold.held (one ∷ []) held (All-cons P one [] is (All-nil P)))

asked_such : (P : Came → Type 0) (now : ℕ) (hold : HoldState) → All P hold.held → All P (option_to_list (asked now hold).0) × All P (asked now hold).1.held
asked_such P now hold held = handed_such P (hold.held ++ []) (asked now hold) (call_keeps (Asks now) hold) (All-append P hold.held [] held (All-nil P))

takes_such : (P : Came → Type 0) (place : ℕ) (one : Came) (holds : List HoldState) (at : Option HoldState) → slice_get holds place ≡ at → P one → AllHeld P holds
    → Such P (option_to_list (taken_by_it place one holds at).0, (taken_by_it place one holds at).1)
takes_such P place one holds None e is held = (All-cons P one [] is (All-nil P), held)
takes_such P place one holds (Some hold) e is held =
    let both = taken_such P one hold is (all_at (λ (h : HoldState). All P h.held) holds place hold e held) in
    (both.0, All-set (λ (h : HoldState). All P h.held) holds place (taken one hold).1 both.1 held)

-- what was given is what was asked for
placed : (place : ℕ) (one : Option Came) → option_to_list (option_map (λ (o : ℕ × Came). o.1) (option_map (λ (c : Came). (place, c)) one)) ≡ option_to_list one
placed place None = refl
placed place (Some one) = refl

gives_such_by : (P : Came → Type 0) (now place : ℕ) (holds : List HoldState) (at : Option HoldState) → slice_get holds place ≡ at → AllHeld P holds
    → Such P (option_to_list (option_map (λ (o : ℕ × Came). o.1) (given_by now place holds at).0), (given_by now place holds at).1)
gives_such_by P now place holds None e held = (All-nil P, held)
gives_such_by P now place holds (Some hold) e held =
    let both = asked_such P now hold (all_at (λ (h : HoldState). All P h.held) holds place hold e held) in
    (subst (All P) (sym (placed place (asked now hold).0)) both.0, All-set (λ (h : HoldState). All P h.held) holds place (asked now hold).1 both.1 held)

gives_such : (P : Came → Type 0) (now : ℕ) (holds : List HoldState) (first : Option ℕ) → AllHeld P holds
    → Such P (option_to_list (option_map (λ (o : ℕ × Came). o.1) (given_at now holds first).0), (given_at now holds first).1)
gives_such P now holds None held = (All-nil P, held)
gives_such P now holds (Some place) held = gives_such_by P now place holds (slice_get holds place) refl held

-- ---- one after another

-- nothing that waits, here or in a network, came so long before a reading
record IsFrom (bound from : ℕ) (intake : IntakeState) : Type 0 where
  first : from < intake.first + bound
  second : from < intake.second + bound
  held : AllHeld (IsYoung bound from) intake.holds

since_from : (bound from : ℕ) (network : Network) (intake : IntakeState) → IsFrom bound from intake → from < since network intake + bound
since_from bound from First intake is = is.first
since_from bound from Second intake is = is.second

empty_from : (bound from : ℕ) (network : Network) (intake : IntakeState) → 0 < bound → from ≤ intake.latest → IsFrom bound from intake → IsFrom bound from (found_empty network intake)
empty_from bound from First intake some later is = record { first = omega (arith, some, later); second = is.second; held = is.held }
empty_from bound from Second intake some later is = record { first = is.first; second = omega (arith, some, later); held = is.held }

none_held : (P : Came → Type 0) (holds : List HoldState) → AllHeld P (map emptied holds)
none_held P [] = All-nil (λ (h : HoldState). All P h.held)
none_held P (hold ∷ holds) = All-cons (λ (h : HoldState). All P h.held) (emptied hold) (map emptied holds) (All-nil P) (none_held P holds)

all_from : (bound from : ℕ) (calls : List IntakeCall) (intake : IntakeState) → 0 < bound → from ≤ intake.latest → IsFrom bound from intake → ReadsOn intake.latest calls
    → All (IsYoung bound from) (intake_run calls intake).0
all_from bound from [] intake some later is on = All-nil (IsYoung bound from)
all_from bound from (ReadsClock reading ∷ calls) intake some later is on =
    let next : from ≤ reading = let l = on.0 in omega (arith, later, l) in
    all_from bound from calls (record intake { latest = reading }) some next (record { first = is.first; second = is.second; held = is.held }) on.1
all_from bound from (FindsEmpty First ∷ calls) intake some later is on =
    all_from bound from calls (found_empty First intake) some later (empty_from bound from First intake some later is) on
all_from bound from (FindsEmpty Second ∷ calls) intake some later is on =
    all_from bound from calls (found_empty Second intake) some later (empty_from bound from Second intake some later is) on
all_from bound from (TakesFrom network place bytes ∷ calls) intake some later is on =
    let taking = taken_from network place bytes intake in
    let both = takes_such (IsYoung bound from) place (record { at = since network intake; sender = place; over = network; bytes = bytes }) intake.holds (slice_get intake.holds place) refl (since_from bound from network intake is) is.held in
    All-append (IsYoung bound from) (option_to_list taking.0) (intake_run calls taking.1).0 both.0
    (all_from bound from calls taking.1 some later (record { first = is.first; second = is.second; held = both.1 }) on)
all_from bound from (Forgets ∷ calls) intake some later is on =
    all_from bound from calls (forgotten intake) some later (record { first = is.first; second = is.second; held = none_held (IsYoung bound from) intake.holds }) on
all_from bound from (AsksAt now ∷ calls) intake some later is on =
    let giving = given now intake in
    let both = gives_such (IsYoung bound from) now intake.holds (first_ready now intake.holds) is.held in
    All-append (IsYoung bound from) (option_to_list (option_map (λ (o : ℕ × Came). o.1) giving.0)) (intake_run calls giving.1).0 both.0
    (all_from bound from calls giving.1 some later (record { first = is.first; second = is.second; held = both.1 }) on)

-- ---- at first

none_left : (test : Bool) (more : Option ℕ) → cond test (Some 0) (option_map suc more) ≡ None → (test ≡ false) × (more ≡ None)
none_left true more e = absurd (cc)
none_left false None e = (refl, refl)
none_left false (Some place) e = absurd (cc)

out_of : (now millis : ℕ) (expected : Option ℕ) (held : List Came) → is_ready now (record { millis = millis; expected = expected; held = held }) ≡ false
    → IsAskedOut now (record { millis = millis; expected = expected; held = held })
out_of now millis expected [] e = refl
out_of now millis expected (one ∷ others) e =
    let hold : HoldState = record { millis = millis; expected = expected; held = one ∷ others } in
    ap (λ test. (cond {A = Handed} test (handing one others hold) (None, hold)).0) e

all_out : (now bound : ℕ) (holds : List HoldState) → All (λ (hold : HoldState). hold.millis ≤ bound) holds → first_ready now holds ≡ None → AllHeld (IsYoung bound now) holds
all_out now bound [] short none = All-nil (λ (h : HoldState). All (IsYoung bound now) h.held)
all_out now bound (hold ∷ holds) short none =
    let left = none_left (is_ready now hold) (first_ready now holds) none in
    All-cons (λ (h : HoldState). All (IsYoung bound now) h.held) hold holds
    (young_within now bound hold (All-head (λ (h : HoldState). h.millis ≤ bound) hold holds short) (out_of now hold.millis hold.expected hold.held left.0))
    (all_out now bound holds (All-tail (λ (h : HoldState). h.millis ≤ bound) hold holds short) left.1)

both_true : (one other : Bool) → (one && other) ≡ true → (one ≡ true) × (other ≡ true)
both_true true other e = (refl, e)
both_true false other e = absurd (cc)

pub none_is_older : (bound : ℕ) (intake : IntakeState) (calls : List IntakeCall) → 0 < bound → All (λ (hold : HoldState). hold.millis ≤ bound) intake.holds
    → first_ready intake.latest intake.holds ≡ None → is_fresh bound intake ≡ true → ReadsOn intake.latest calls → All (IsYoung bound intake.latest) (intake_run calls intake).0
none_is_older bound intake calls some short none fresh on =
    let both = both_true (nat_lt intake.latest (intake.first + bound)) (nat_lt intake.latest (intake.second + bound)) fresh in
    all_from bound intake.latest calls intake some (omega arith)
    (record { first = ltb-true intake.latest (intake.first + bound) both.0; second = ltb-true intake.latest (intake.second + bound) both.1; held = all_out intake.latest bound intake.holds short none }) on
