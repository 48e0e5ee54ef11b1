-- Until when nothing that waits is due.
use Rattle.std.proofs.Common.{◌≡◌, ◌≤◌, ◌<◌, ◌+◌, ◌-◌, ℕ, min, nat_lt, not, ◌||◌, Bool, true, false, cond, List, [], ◌∷◌, Option, Some, None, refl, ap, arith}
use Rattle.std.specs.Prelude.{IsSome}
use Rattle.std.specs.List.{All, list_any}
use Rattle.std.proofs.lemmas.Bool.{ltb-false, ltb-true, le-leb}
use Rattle.std.proofs.lemmas.List.Elements.{All-cons, All-nil, All-weaker}
use Rattle.datagram_hold.specs.Came.{Came}
use Rattle.datagram_hold.specs.Hold.{Handed, HoldState, asked, deadline, earlier, earliest, handing, has_waited, is_early, leaves}
use Rattle.datagram_hold.specs.Runs.{IsYoung}

lesser : (test : Bool) (one other : ℕ) → nat_lt other one ≡ test → (cond test other one ≤ one) × (cond test other one ≤ other)
lesser true one other e = let less = ltb-true other one e in (omega (arith, less), omega arith)
lesser false one other e = let most = ltb-false other one e in (omega arith, omega (arith, most))

all_later : (one : Came) (others : List Came) → All (λ (each : Came). earlier one.at (earliest others) ≤ each.at) (one ∷ others)
all_later one [] = All-cons (λ (each : Came). one.at ≤ each.at) one [] (omega arith) (All-nil (λ (each : Came). one.at ≤ each.at))
all_later one (next ∷ others) =
    let first = earlier next.at (earliest others) in
    let both = lesser (nat_lt first one.at) one.at first refl in
    let low = both.1 in
    All-cons (λ (each : Came). earlier one.at (Some first) ≤ each.at) one (next ∷ others) both.0
    (All-weaker (λ (each : Came). first ≤ each.at) (λ (each : Came). earlier one.at (Some first) ≤ each.at) (λ each le. omega (arith, le, low)) (next ∷ others) (all_later next others))

or_true : (one other : Bool) → other ≡ true → (one || other) ≡ true
or_true true other e = refl
or_true false other e = e

chosen_waited : (test : Bool) (millis now first : ℕ) (one : Came) (more : Bool) → millis ≤ now - cond test first one.at → (millis ≤ now - first → more ≡ true) → (has_waited millis now one || more) ≡ true
chosen_waited true millis now first one more e behind = or_true (has_waited millis now one) more (behind e)
chosen_waited false millis now first one more e behind = ap (λ b. b || more) (le-leb millis (now - one.at) e)

one_waited : (millis now : ℕ) (one : Came) (others : List Came) → millis ≤ now - earlier one.at (earliest others) → list_any (has_waited millis now) (one ∷ others) ≡ true
one_waited millis now one [] e = ap (λ b. b || false) (le-leb millis (now - one.at) e)
one_waited millis now one (next ∷ others) e =
    let first = earlier next.at (earliest others) in
    chosen_waited (nat_lt first one.at) millis now first one (list_any (has_waited millis now) (next ∷ others)) e (one_waited millis now next others)

some_same : (one other : ℕ) → Some one ≡ Some other → one ≡ other
some_same one other e = cc

young_before : (millis due now : ℕ) (expected : Option ℕ) (held : List Came) → deadline (record { millis = millis; expected = expected; held = held }) ≡ Some due → now < due → All (IsYoung millis now) held
young_before millis due now expected [] e early = All-nil (IsYoung millis now)
young_before millis due now expected (one ∷ others) e early =
    let first = earlier one.at (earliest others) in
    let is = some_same (min (first + millis) 18446744073709551615) due e in
    All-weaker (λ (each : Came). first ≤ each.at) (IsYoung millis now) (λ each le. omega (arith, le, is, early)) (one ∷ others) (all_later one others)

pub none_is_due_before : (hold : HoldState) (due now : ℕ) → deadline hold ≡ Some due → now < due → All (IsYoung hold.millis now) hold.held
none_is_due_before hold due now e early = young_before hold.millis due now hold.expected hold.held e early

handed_some : (test : Bool) (one : Came) (others : List Came) (hold : HoldState) → test ≡ true → IsSome (cond {A = Handed} test (handing one others hold) (None, hold)).0
handed_some true one others hold e = refl
handed_some false one others hold e = cc

due_then : (millis due : ℕ) (expected : Option ℕ) (held : List Came) → deadline (record { millis = millis; expected = expected; held = held }) ≡ Some due → due < 18446744073709551615
    → IsSome (asked due (record { millis = millis; expected = expected; held = held })).0
due_then millis due expected [] e small = cc
due_then millis due expected (one ∷ others) e small =
    let first = earlier one.at (earliest others) in
    let is = some_same (min (first + millis) 18446744073709551615) due e in
    let hold : HoldState = record { millis = millis; expected = expected; held = one ∷ others } in
    handed_some (leaves due one hold) one others hold (or_true (not (is_early expected one)) _ (one_waited millis due one others (omega (arith, is, small))))

pub one_is_due_then : (hold : HoldState) (due : ℕ) → deadline hold ≡ Some due → due < 18446744073709551615 → IsSome (asked due hold).0
one_is_due_then hold due e small = due_then hold.millis due hold.expected hold.held e small
