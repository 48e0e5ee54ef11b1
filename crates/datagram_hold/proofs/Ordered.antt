-- What is handed out in a round leaves no gap.
use Rattle.std.proofs.Common.{◌≡◌, ◌∙◌, ◌≤◌, ◌<◌, inl, inr, ℕ, zero, suc, nat_lt, not, ◌&&◌, ◌||◌, Bool, true, false, cond, List, [], ◌∷◌, ◌++◌, length, Option, Some, None, refl, sym, ap, subst, arith}
use Rattle.std.specs.Prelude.{insert}
use Rattle.std.specs.List.{All, list_any}
use Rattle.std.specs.Option.{option_to_list}
use Rattle.std.proofs.lemmas.Bool.{ltb-false, ltb-true, le-ltb, lt-ltb}
use Rattle.std.proofs.lemmas.Bool.Decides.{nat_tests}
use Rattle.std.proofs.lemmas.List.Elements.{All-weaker}
use Rattle.std.proofs.lemmas.List.Folds.{list_any_none}
use Rattle.std.proofs.lemmas.List.Sorted.{IsPermutation-insert, length_permutation, list_any-IsPermutation}
use Rattle.datagram_hold.specs.Came.{Came}
use Rattle.datagram_hold.specs.Sequence.{distance, is_ahead, is_behind, next_to, number_of}
use Rattle.datagram_hold.specs.Hold.{Handed, HoldState, asked, expected_after, handing, has_waited, is_early, leaves, place_in, put_at, taken, unless_full}
use Rattle.datagram_hold.specs.Runs.{IsYoung, asks, run}
use Rattle.datagram_hold.specs.Order.{IsNear, IsSettled, LeavesNoGap, Rises, round}
use Rattle.datagram_hold.proofs.Rounds.{again, before, before_small, behind_not_early, early, next_one, next_small, next_to_before, not_ahead_of_itself, not_behind_itself, not_early_again, one_farther, one_nearer, same}
use Rattle.datagram_hold.proofs.Time.{at_once, or_second}

-- ---- as far as from the last number that was handed out

abbrev From : ℕ → ℕ → List Came → Type 0
From last least [] = Unit {0}
From last least (one ∷ others) =
    let ahead = distance last (number_of one.bytes)
    in (least ≤ ahead) × (ahead ≤ 9) × (number_of one.bytes < 4294967296) × From last ahead others

from_less : (last least less : ℕ) (held : List Came) → less ≤ least → From last least held → From last less held
from_less last least less [] le from = tt
from_less last least less (one ∷ others) le from = let some = from.0 in (omega (arith, some), from.1, from.2, from.3)

-- once the next was handed out
moved : (last least less : ℕ) (held : List Came) → last < 4294967296 → suc less ≤ least → From last least held → From (next_to last) less held
moved last least less [] small le from = tt
moved last least less (one ∷ others) small le from =
    let number = number_of one.bytes in
    let some = from.0 in
    let few = from.1 in
    let nearer = one_nearer last number small from.2 (omega (arith, some, le)) in (
      omega (arith, some, le, nearer),
      omega (arith, few, nearer),
      from.2,
      moved last (distance last number) (distance (next_to last) number) others small (omega (arith, nearer)) from.3,
    )

to_rises : (last least : ℕ) (held : List Came) → last < 4294967296 → From last (suc least) held → Rises (next_to last) least held
to_rises last least [] small from = tt
to_rises last least (one ∷ others) small from =
    let number = number_of one.bytes in
    let some = from.0 in
    let few = from.1 in
    let nearer = one_nearer last number small from.2 (omega (arith, some)) in (
      omega (arith, some, nearer),
      omega (arith, few, nearer),
      from.2,
      to_rises last (distance (next_to last) number) others small (subst (λ d. From last d others) (sym nearer) from.3),
    )

to_from : (last least : ℕ) (held : List Came) → last < 4294967296 → Rises (next_to last) least held → From last (suc least) held
to_from last least [] small rises = tt
to_from last least (one ∷ others) small rises =
    let number = number_of one.bytes in
    let some = rises.0 in
    let few = rises.1 in
    let farther = one_farther last number small rises.2 few in (
      omega (arith, some, farther),
      omega (arith, few, farther),
      rises.2,
      subst (λ d. From last d others) (sym farther) (to_from last (distance (next_to last) number) others small rises.3),
    )

-- ---- what is asked for

abbrev state : ℕ → Option ℕ → List Came → HoldState
state millis expected held = record { millis = millis; expected = expected; held = held }

-- how a hold stands once it was asked until there was none
record Stands (hold : HoldState) : Type 0 where
  last : ℕ
  small : last < 4294967296
  expected_is : hold.expected ≡ Some (next_to last)
  from : From last 2 hold.held

abbrev Goes : Option ℕ → List Came × HoldState → Type 0
Goes expected done = LeavesNoGap expected done.0 × Stands done.1

asks_none : (count now millis : ℕ) (expected : Option ℕ) → run (asks count now) (state millis expected []) ≡ ([], state millis expected [])
asks_none zero now millis expected = refl
asks_none (suc count) now millis expected = asks_none count now millis expected

test_true : (test : Bool) (one other : Handed) → test ≡ true → cond test one other ≡ one
test_true test one other e = ap (λ b. cond b one other) e

test_false : (test : Bool) (one other : Handed) → test ≡ false → cond test one other ≡ other
test_false test one other e = ap (λ b. cond b one other) e

-- the first leaves where it isn't early
leaves_late : (now millis : ℕ) (expected : Option ℕ) (one : Came) (others : List Came) → is_early expected one ≡ false
    → asked now (state millis expected (one ∷ others)) ≡ handing one others (state millis expected (one ∷ others))
leaves_late now millis expected one others e =
    test_true (leaves now one (state millis expected (one ∷ others))) _ _ (ap (λ b. not b || list_any (has_waited millis now) (one ∷ others)) e)

stays_early : (now millis : ℕ) (expected : Option ℕ) (one : Came) (others : List Came) → is_early expected one ≡ true → list_any (has_waited millis now) (one ∷ others) ≡ false
    → asked now (state millis expected (one ∷ others)) ≡ (None, state millis expected (one ∷ others))
stays_early now millis expected one others e young =
    test_false (leaves now one (state millis expected (one ∷ others))) _ _ (ap (λ b. not b || list_any (has_waited millis now) (one ∷ others)) e ∙ young)

stays : (count now millis : ℕ) (expected : Option ℕ) (one : Came) (others : List Came) → is_early expected one ≡ true → list_any (has_waited millis now) (one ∷ others) ≡ false
    → run (asks count now) (state millis expected (one ∷ others)) ≡ ([], state millis expected (one ∷ others))
stays zero now millis expected one others e young = refl
stays (suc count) now millis expected one others e young =
    ap (λ (first : Handed). (option_to_list first.0 ++ (run (asks count now) first.1).0, (run (asks count now) first.1).1)) (stays_early now millis expected one others e young)
    ∙ stays count now millis expected one others e young

asked_first : (count now : ℕ) (hold : HoldState) (first : Handed) → asked now hold ≡ first
    → run (asks (suc count) now) hold ≡ (option_to_list first.0 ++ (run (asks count now) first.1).0, (run (asks count now) first.1).1)
asked_first count now hold first e = ap (λ (first : Handed). (option_to_list first.0 ++ (run (asks count now) first.1).0, (run (asks count now) first.1).1)) e

-- what is expected then
repeated_after : (expected number : ℕ) → is_behind expected number ≡ true → expected_after (Some expected) number ≡ Some expected
repeated_after expected number e = ap (λ b. cond b (Some expected) (Some (next_to number))) e

next_after : (expected number : ℕ) → is_behind expected number ≡ false → expected_after (Some expected) number ≡ Some (next_to number)
next_after expected number e = ap (λ b. cond b (Some expected) (Some (next_to number))) e

-- one that comes again leaves
go_again : (count now millis last : ℕ) (one : Came) (others : List Came) → last < 4294967296 → number_of one.bytes ≡ last
    → Goes (Some (next_to last)) (run (asks count now) (state millis (Some (next_to last)) others))
    → Goes (Some (next_to last)) (run (asks (suc count) now) (state millis (Some (next_to last)) (one ∷ others)))
go_again count now millis last one others small is goes =
    let number = number_of one.bytes in
    let late : is_early (Some (next_to last)) one ≡ false = subst (λ n. is_ahead (next_to last) n ≡ false) (sym is) (not_early_again last small) in
    let behind : is_behind (next_to last) number ≡ true = subst (λ n. is_behind (next_to last) n ≡ true) (sym is) (again last small) in
    let kept = repeated_after (next_to last) number behind in
    let first = handing one others (state millis (Some (next_to last)) (one ∷ others)) in
    let there : Goes (Some (next_to last)) (run (asks count now) first.1) = subst (λ e. Goes (Some (next_to last)) (run (asks count now) (state millis e others))) (sym kept) goes in
    subst (Goes (Some (next_to last))) (sym (asked_first count now (state millis (Some (next_to last)) (one ∷ others)) first (leaves_late now millis (Some (next_to last)) one others late)))
    ((inr behind, subst (λ e. LeavesNoGap e (run (asks count now) first.1).0) (sym kept) there.0), there.1)

-- the one that is expected leaves
go_on : (count now millis last : ℕ) (one : Came) (others : List Came) → number_of one.bytes ≡ next_to last
    → Goes (Some (next_to (next_to last))) (run (asks count now) (state millis (Some (next_to (next_to last))) others))
    → Goes (Some (next_to last)) (run (asks (suc count) now) (state millis (Some (next_to last)) (one ∷ others)))
go_on count now millis last one others is goes =
    let number = number_of one.bytes in
    let late : is_early (Some (next_to last)) one ≡ false = subst (λ n. is_ahead (next_to last) n ≡ false) (sym is) (not_ahead_of_itself (next_to last) (next_small last)) in
    let ahead : is_behind (next_to last) number ≡ false = subst (λ n. is_behind (next_to last) n ≡ false) (sym is) (not_behind_itself (next_to last) (next_small last)) in
    let moves : expected_after (Some (next_to last)) number ≡ Some (next_to (next_to last)) = next_after (next_to last) number ahead ∙ ap (λ n. Some (next_to n)) is in
    let first = handing one others (state millis (Some (next_to last)) (one ∷ others)) in
    let there : Goes (Some (next_to (next_to last))) (run (asks count now) first.1) = subst (λ e. Goes (Some (next_to (next_to last))) (run (asks count now) (state millis e others))) (sym moves) goes in
    subst (Goes (Some (next_to last))) (sym (asked_first count now (state millis (Some (next_to last)) (one ∷ others)) first (leaves_late now millis (Some (next_to last)) one others late)))
    ((inl is, subst (λ e. LeavesNoGap e (run (asks count now) first.1).0) (sym moves) there.0), there.1)

-- one that is ahead stays, with all after it
go_no_further : (count now millis last : ℕ) (one : Came) (others : List Came) → last < 4294967296 → 2 ≤ distance last (number_of one.bytes) → From last 0 (one ∷ others)
    → list_any (has_waited millis now) (one ∷ others) ≡ false
    → Goes (Some (next_to last)) (run (asks count now) (state millis (Some (next_to last)) (one ∷ others)))
go_no_further count now millis last one others small ahead from young =
    let number = number_of one.bytes in
    let few = from.1 in
    let nearer = one_nearer last number small from.2 (omega (arith, ahead)) in
    let is : is_early (Some (next_to last)) one ≡ true = early (next_to last) number (omega (arith, ahead, nearer)) (omega (arith, few, nearer)) in
    subst (Goes (Some (next_to last))) (sym (stays count now millis (Some (next_to last)) one others is young))
    (tt, record { last = last; small = small; expected_is = refl; from = (ahead, from.1, from.2, from.3) })

by_distance : (count now millis last : ℕ) (one : Came) (others : List Came) (ahead : ℕ) → last < 4294967296 → From last 0 (one ∷ others) → list_any (has_waited millis now) (one ∷ others) ≡ false
    → ((from : ℕ) → from < 4294967296 → From from 0 others → Goes (Some (next_to from)) (run (asks count now) (state millis (Some (next_to from)) others)))
    → distance last (number_of one.bytes) ≡ ahead
    → Goes (Some (next_to last)) (run (asks (suc count) now) (state millis (Some (next_to last)) (one ∷ others)))
by_distance count now millis last one others zero small from young goes e =
    go_again count now millis last one others small (same last (number_of one.bytes) small from.2 e)
    (goes last small (from_less last (distance last (number_of one.bytes)) 0 others (omega arith) from.3))
by_distance count now millis last one others (suc zero) small from young goes e =
    go_on count now millis last one others (next_one last (number_of one.bytes) small from.2 e)
    (goes (next_to last) (next_small last) (moved last (distance last (number_of one.bytes)) 0 others small (omega (arith, e)) from.3))
by_distance count now millis last one others (suc (suc more)) small from young goes e =
    go_no_further (suc count) now millis last one others small (omega (arith, e)) from young

asks_go : (count now millis last : ℕ) (held : List Came) → last < 4294967296 → From last 0 held → list_any (has_waited millis now) held ≡ false → length held ≤ count
    → Goes (Some (next_to last)) (run (asks count now) (state millis (Some (next_to last)) held))
asks_go count now millis last [] small from young few =
    subst (Goes (Some (next_to last))) (sym (asks_none count now millis (Some (next_to last)))) (tt, record { last = last; small = small; expected_is = refl; from = tt })
asks_go zero now millis last (one ∷ others) small from young few = absurd (omega (arith, few))
asks_go (suc count) now millis last (one ∷ others) small from young few =
    let rest : list_any (has_waited millis now) others ≡ false = or_second (has_waited millis now one) (list_any (has_waited millis now) others) young in
    let fewer : length others ≤ count = omega (arith, few) in
    by_distance count now millis last one others (distance last (number_of one.bytes)) small from young (λ next next_is from_next. asks_go count now millis next others next_is from_next rest fewer) refl

-- ---- what comes

-- one that is put where it belongs
put_before : (expected least : ℕ) (one first : Came) (others : List Came) (test : Bool)
    → least ≤ distance expected (number_of one.bytes) → distance expected (number_of one.bytes) ≤ 8 → number_of one.bytes < 4294967296 → Rises expected least (first ∷ others)
    → (distance expected (number_of first.bytes) ≤ distance expected (number_of one.bytes) → Rises expected (distance expected (number_of first.bytes)) (insert others (place_in expected (number_of one.bytes) others) one))
    → nat_lt (distance expected (number_of one.bytes)) (distance expected (number_of first.bytes)) ≡ test
    → Rises expected least (insert (first ∷ others) (cond test 0 (suc (place_in expected (number_of one.bytes) others))) one)
put_before expected least one first others true some few small rises later e =
    let nearer = ltb-true (distance expected (number_of one.bytes)) (distance expected (number_of first.bytes)) e in
    (some, few, small, (omega (arith, nearer), rises.1, rises.2, rises.3))
put_before expected least one first others false some few small rises later e =
    (rises.0, rises.1, rises.2, later (ltb-false (distance expected (number_of one.bytes)) (distance expected (number_of first.bytes)) e))

put_rises : (expected least : ℕ) (one : Came) (held : List Came) → least ≤ distance expected (number_of one.bytes) → distance expected (number_of one.bytes) ≤ 8 → number_of one.bytes < 4294967296
    → Rises expected least held → Rises expected least (insert held (place_in expected (number_of one.bytes) held) one)
put_rises expected least one [] some few small rises = (some, few, small, tt)
put_rises expected least one (first ∷ others) some few small rises =
    put_before expected least one first others (nat_lt (distance expected (number_of one.bytes)) (distance expected (number_of first.bytes))) some few small rises
    (λ farther. put_rises expected (distance expected (number_of first.bytes)) one others farther few small rises.3) refl

put_young : (millis now : ℕ) (one : Came) (held : List Came) (place : ℕ) → has_waited millis now one ≡ false → list_any (has_waited millis now) held ≡ false
    → list_any (has_waited millis now) (insert held place one) ≡ false
put_young millis now one held place is are =
    sym (list_any-IsPermutation (has_waited millis now) (one ∷ held) (insert held place one) (IsPermutation-insert held place one)) ∙ ap (λ b. b || list_any (has_waited millis now) held) is ∙ are

put_length : (one : Came) (held : List Came) (place : ℕ) → length (insert held place one) ≡ suc (length held)
put_length one held place = length_permutation (one ∷ held) (insert held place one) (IsPermutation-insert held place one)

-- it waits where there is room
put_waits : (waiting : List Came) (hold : HoldState) → length waiting ≤ 8 → unless_full waiting hold ≡ (None, record hold { held = waiting })
put_waits waiting hold few = test_false (nat_lt 8 (length waiting)) _ _ (le-ltb 8 (length waiting) few)

-- a round that begins with a call that hands out this
begun : (one : Came) (hold : HoldState) (first : Handed) → taken one hold ≡ first
    → run (round one) hold ≡ (option_to_list first.0 ++ (run (asks 8 one.at) first.1).0, (run (asks 8 one.at) first.1).1)
begun one hold first e = ap (λ (first : Handed). (option_to_list first.0 ++ (run (asks 8 one.at) first.1).0, (run (asks 8 one.at) first.1).1)) e

settled : (hold : HoldState) → Stands hold → IsSettled hold
settled hold stands = record { expected = next_to stands.last; small = next_small stands.last; expected_is = stands.expected_is; rises = to_rises stands.last 1 hold.held stands.small stands.from }

-- What a round does, by how far ahead the datagram is that comes. What is expected is the number after the last.
abbrev GoesOn : Option ℕ → List Came × HoldState → Type 0
GoesOn expected done = LeavesNoGap expected done.0 × IsSettled done.1

round_again : (millis last : ℕ) (one : Came) (held : List Came) → last < 4294967296 → From last 2 held → number_of one.bytes < 4294967296 → is_behind (next_to last) (number_of one.bytes) ≡ true
    → list_any (has_waited millis one.at) held ≡ false → length held ≤ 8
    → GoesOn (Some (next_to last)) (run (round one) (state millis (Some (next_to last)) held))
round_again millis last one held small from numbered behind young few =
    let number = number_of one.bytes in
    let late = behind_not_early (next_to last) number (next_small last) numbered behind in
    let kept = repeated_after (next_to last) number behind in
    let hold : HoldState = state millis (Some (next_to last)) held in
    let first = handing one held hold in
    let goes = asks_go 8 one.at millis last held small (from_less last 2 0 held (omega arith) from) young few in
    let there : Goes (Some (next_to last)) (run (asks 8 one.at) first.1) = subst (λ e. Goes (Some (next_to last)) (run (asks 8 one.at) (state millis e held))) (sym kept) goes in
    subst (GoesOn (Some (next_to last))) (sym (begun one hold first (at_once (Some (next_to last)) one hold late)))
    ((inr behind, subst (λ e. LeavesNoGap e (run (asks 8 one.at) first.1).0) (sym kept) there.0), settled _ there.1)

round_in_turn : (millis last : ℕ) (one : Came) (held : List Came) → last < 4294967296 → From last 2 held → number_of one.bytes ≡ next_to last
    → list_any (has_waited millis one.at) held ≡ false → length held ≤ 8
    → GoesOn (Some (next_to last)) (run (round one) (state millis (Some (next_to last)) held))
round_in_turn millis last one held small from is young few =
    let number = number_of one.bytes in
    let late : is_early (Some (next_to last)) one ≡ false = subst (λ n. is_ahead (next_to last) n ≡ false) (sym is) (not_ahead_of_itself (next_to last) (next_small last)) in
    let ahead : is_behind (next_to last) number ≡ false = subst (λ n. is_behind (next_to last) n ≡ false) (sym is) (not_behind_itself (next_to last) (next_small last)) in
    let moves : expected_after (Some (next_to last)) number ≡ Some (next_to (next_to last)) = next_after (next_to last) number ahead ∙ ap (λ n. Some (next_to n)) is in
    let hold : HoldState = state millis (Some (next_to last)) held in
    let first = handing one held hold in
    let goes = asks_go 8 one.at millis (next_to last) held (next_small last) (moved last 2 0 held small (omega arith) from) young few in
    let there : Goes (Some (next_to (next_to last))) (run (asks 8 one.at) first.1) = subst (λ e. Goes (Some (next_to (next_to last))) (run (asks 8 one.at) (state millis e held))) (sym moves) goes in
    subst (GoesOn (Some (next_to last))) (sym (begun one hold first (at_once (Some (next_to last)) one hold late)))
    ((inl is, subst (λ e. LeavesNoGap e (run (asks 8 one.at) first.1).0) (sym moves) there.0), settled _ there.1)

round_ahead : (millis last : ℕ) (one : Came) (held : List Came) → last < 4294967296 → Rises (next_to last) 1 held → number_of one.bytes < 4294967296 → 0 < millis
    → 1 ≤ distance (next_to last) (number_of one.bytes) → distance (next_to last) (number_of one.bytes) ≤ 8
    → list_any (has_waited millis one.at) held ≡ false → length held < 8
    → GoesOn (Some (next_to last)) (run (round one) (state millis (Some (next_to last)) held))
round_ahead millis last one held small rises numbered some_millis some few young room =
    let number = number_of one.bytes in
    let expected = next_to last in
    let hold : HoldState = state millis (Some expected) held in
    let place = place_in expected number held in
    let waiting = insert held place one in
    let ahead = early expected number some few in
    let count = put_length one held place in
    let chosen : taken one hold ≡ put_at expected one hold =
    test_true (nat_lt 0 millis && is_ahead expected number) _ _ (ap (λ b. b && is_ahead expected number) (lt-ltb 0 millis some_millis) ∙ ahead) in
    let waits = chosen ∙ put_waits waiting hold (omega (arith, count, room)) in
    let itself : has_waited millis one.at one ≡ false = grind (arith, nat_tests) in
    let put : From last 2 waiting = to_from last 1 waiting small (put_rises expected 1 one held some few numbered rises) in
    let goes = asks_go 8 one.at millis last waiting small (from_less last 2 0 waiting (omega arith) put) (put_young millis one.at one held place itself young) (omega (arith, count, room)) in
    subst (GoesOn (Some expected)) (sym (begun one hold (None, state millis (Some expected) waiting) waits)) (goes.0, settled _ goes.1)

by_nearness : (millis last : ℕ) (one : Came) (held : List Came) (ahead : ℕ) → last < 4294967296 → Rises (next_to last) 1 held → number_of one.bytes < 4294967296 → 0 < millis
    → distance (next_to last) (number_of one.bytes) ≤ 8 → list_any (has_waited millis one.at) held ≡ false → length held < 8
    → distance (next_to last) (number_of one.bytes) ≡ ahead
    → GoesOn (Some (next_to last)) (run (round one) (state millis (Some (next_to last)) held))
by_nearness millis last one held zero small rises numbered some few young room e =
    round_in_turn millis last one held small (to_from last 1 held small rises) (same (next_to last) (number_of one.bytes) (next_small last) numbered e) young (omega (arith, room))
by_nearness millis last one held (suc ahead) small rises numbered some few young room e =
    round_ahead millis last one held small rises numbered some (omega (arith, e)) few young room

not_waited : (millis now : ℕ) → 0 < millis → (one : Came) → IsYoung millis now one → has_waited millis now one ≡ false
not_waited millis now some one young = grind (arith, nat_tests)

none_waited : (millis now : ℕ) (held : List Came) → 0 < millis → All (IsYoung millis now) held → list_any (has_waited millis now) held ≡ false
none_waited millis now held some young =
    list_any_none (has_waited millis now) held (All-weaker (IsYoung millis now) (λ one. has_waited millis now one ≡ false) (not_waited millis now some) held young)

by_expected : (millis last : ℕ) (one : Came) (held : List Came) → last < 4294967296 → Rises (next_to last) 1 held → number_of one.bytes < 4294967296 → 0 < millis
    → IsNear (Some (next_to last)) one → list_any (has_waited millis one.at) held ≡ false → length held < 8
    → GoesOn (Some (next_to last)) (run (round one) (state millis (Some (next_to last)) held))
by_expected millis last one held small rises numbered some (inl few) young room =
    by_nearness millis last one held (distance (next_to last) (number_of one.bytes)) small rises numbered some few young room refl
by_expected millis last one held small rises numbered some (inr behind) young room =
    round_again millis last one held small (to_from last 1 held small rises) numbered behind young (omega (arith, room))

goes_on : (one : Came) (hold : HoldState) → IsSettled hold → 0 < hold.millis → length hold.held < 8 → number_of one.bytes < 4294967296 → IsNear hold.expected one
    → All (IsYoung hold.millis one.at) hold.held
    → LeavesNoGap hold.expected (run (round one) hold).0 × IsSettled (run (round one) hold).1
goes_on one hold is some room numbered near young =
    let last = before is.expected in
    let expected_is : hold.expected ≡ Some (next_to last) = is.expected_is ∙ ap Some (sym (next_to_before is.expected is.small)) in
    let rises : Rises (next_to last) 1 hold.held = subst (λ e. Rises e 1 hold.held) (sym (next_to_before is.expected is.small)) is.rises in
    let P : Option ℕ → Type 0 = λ e. GoesOn e (run (round one) (state hold.millis e hold.held)) in
    subst P (sym expected_is)
    (by_expected hold.millis last one hold.held (before_small is.expected) rises numbered some (subst (λ e. IsNear e one) expected_is near) (none_waited hold.millis one.at hold.held some young) room)

pub no_gap : (one : Came) (hold : HoldState) → IsSettled hold → 0 < hold.millis → length hold.held < 8 → number_of one.bytes < 4294967296 → IsNear hold.expected one → All (IsYoung hold.millis one.at) hold.held
    → LeavesNoGap hold.expected (run (round one) hold).0
no_gap one hold is some room numbered near young = (goes_on one hold is some room numbered near young).0

pub stays_settled : (one : Came) (hold : HoldState) → IsSettled hold → 0 < hold.millis → length hold.held < 8 → number_of one.bytes < 4294967296 → IsNear hold.expected one → All (IsYoung hold.millis one.at) hold.held
    → IsSettled (run (round one) hold).1
stays_settled one hold is some room numbered near young = (goes_on one hold is some room numbered near young).1
