-- A hold lasts as long as it was made for.
use Rattle.std.proofs.Common.{◌≡◌, ℕ, nat_lt, ◌&&◌, List, [], ◌∷◌, length, map, replicate, Option, Some, None, slice_get, refl, subst}
use Rattle.std.specs.Prelude.{insert}
use Rattle.std.specs.List.{All}
use Rattle.std.proofs.lemmas.List.Elements.{All-cons, All-head, All-nil, All-replicate, All-set, All-tail}
use Rattle.datagram_hold.specs.Came.{Came}
use Rattle.datagram_hold.specs.Sequence.{is_ahead, number_of}
use Rattle.datagram_hold.specs.Hold.{Handed, HoldState, asked, handing, leaves, place_in, put_at, taken, taken_by, unless_full}
use Rattle.datagram_hold.specs.Intake.{AsksAt, FindsEmpty, Forgets, IntakeCall, IntakeState, ReadsClock, TakesFrom, emptied, first_ready, forgotten, given_at, given_by, intake_called, intake_run, new_hold, since, taken_by_it}
use Rattle.datagram_hold.specs.declared.network.Network.TheVariants.{First, Second}
use Rattle.datagram_hold.proofs.Keeping.{by_test}
use Rattle.datagram_hold.proofs.Intakes.{all_at}

-- it is asked or takes one, and lasts as long
abbrev Lasts : ℕ → Handed → Type 0
Lasts millis handed = handed.1.millis ≡ millis

full_lasts : (waiting : List Came) (hold : HoldState) → Lasts hold.millis (unless_full waiting hold)
full_lasts [] hold = refl
full_lasts (one ∷ others) hold = by_test (Lasts hold.millis) (nat_lt 8 (length (one ∷ others))) (handing one others hold) (None, record hold { held = one ∷ others }) refl refl

taken_lasts : (expected : Option ℕ) (one : Came) (hold : HoldState) → Lasts hold.millis (taken_by expected one hold)
taken_lasts None one hold = refl
taken_lasts (Some expected) one hold =
    by_test (Lasts hold.millis) (nat_lt 0 hold.millis && is_ahead expected (number_of one.bytes)) (put_at expected one hold) (handing one hold.held hold)
    (full_lasts (insert hold.held (place_in expected (number_of one.bytes) hold.held) one) hold) refl

asked_lasts : (now millis : ℕ) (expected : Option ℕ) (held : List Came) → Lasts millis (asked now (record { millis = millis; expected = expected; held = held }))
asked_lasts now millis expected [] = refl
asked_lasts now millis expected (one ∷ others) =
    let hold : HoldState = record { millis = millis; expected = expected; held = one ∷ others } in
    by_test (Lasts millis) (leaves now one hold) (handing one others hold) (None, hold) refl refl

abbrev AllLast : ℕ → List HoldState → Type 0
AllLast millis holds = All (λ (hold : HoldState). hold.millis ≡ millis) holds

takes_last : (millis place : ℕ) (one : Came) (holds : List HoldState) (at : Option HoldState) → slice_get holds place ≡ at → AllLast millis holds → AllLast millis (taken_by_it place one holds at).1
takes_last millis place one holds None e last = last
takes_last millis place one holds (Some hold) e last =
    All-set (λ (h : HoldState). h.millis ≡ millis) holds place (taken one hold).1
    (subst (λ m. (taken one hold).1.millis ≡ m) (all_at (λ (h : HoldState). h.millis ≡ millis) holds place hold e last) (taken_lasts hold.expected one hold)) last

gives_last_by : (millis now place : ℕ) (holds : List HoldState) (at : Option HoldState) → slice_get holds place ≡ at → AllLast millis holds → AllLast millis (given_by now place holds at).1
gives_last_by millis now place holds None e last = last
gives_last_by millis now place holds (Some hold) e last =
    All-set (λ (h : HoldState). h.millis ≡ millis) holds place (asked now hold).1
    (subst (λ m. (asked now hold).1.millis ≡ m) (all_at (λ (h : HoldState). h.millis ≡ millis) holds place hold e last) (asked_lasts now hold.millis hold.expected hold.held)) last

gives_last : (millis now : ℕ) (holds : List HoldState) (first : Option ℕ) → AllLast millis holds → AllLast millis (given_at now holds first).1
gives_last millis now holds None last = last
gives_last millis now holds (Some place) last = gives_last_by millis now place holds (slice_get holds place) refl last

emptied_last : (millis : ℕ) (holds : List HoldState) → AllLast millis holds → AllLast millis (map emptied holds)
emptied_last millis [] last = All-nil (λ (h : HoldState). h.millis ≡ millis)
emptied_last millis (hold ∷ holds) last =
    All-cons (λ (h : HoldState). h.millis ≡ millis) (emptied hold) (map emptied holds) (All-head (λ (h : HoldState). h.millis ≡ millis) hold holds last)
    (emptied_last millis holds (All-tail (λ (h : HoldState). h.millis ≡ millis) hold holds last))

pub all_last : (millis : ℕ) (calls : List IntakeCall) (intake : IntakeState) → AllLast millis intake.holds → AllLast millis (intake_run calls intake).1.holds
all_last millis [] intake last = last
all_last millis (ReadsClock reading ∷ calls) intake last = all_last millis calls (record intake { latest = reading }) last
all_last millis (FindsEmpty First ∷ calls) intake last = all_last millis calls (record intake { first = intake.latest }) last
all_last millis (FindsEmpty Second ∷ calls) intake last = all_last millis calls (record intake { second = intake.latest }) last
all_last millis (TakesFrom network place bytes ∷ calls) intake last =
    let one : Came = record { at = since network intake; sender = place; over = network; bytes = bytes } in
    all_last millis calls (intake_called (TakesFrom network place bytes) intake).1 (takes_last millis place one intake.holds (slice_get intake.holds place) refl last)
all_last millis (Forgets ∷ calls) intake last = all_last millis calls (forgotten intake) (emptied_last millis intake.holds last)
all_last millis (AsksAt now ∷ calls) intake last =
    all_last millis calls (intake_called (AsksAt now) intake).1 (gives_last millis now intake.holds (first_ready now intake.holds) last)

pub new_last : (senders millis : ℕ) → AllLast millis (replicate senders (new_hold millis))
new_last senders millis = All-replicate (λ (h : HoldState). h.millis ≡ millis) senders (new_hold millis) refl
