-- No call loses what came or hands it out twice.
use Rattle.std.proofs.Common.{◌≡◌, ◌∙◌, ℕ, nat_lt, ◌&&◌, Bool, true, false, cond, List, [], ◌∷◌, ◌++◌, length, Option, Some, None, refl, sym, ap, subst, append_assoc, append-nil}
use Rattle.std.specs.Prelude.{insert}
use Rattle.std.specs.List.Sorted.{IsPermutation}
use Rattle.std.specs.Option.{option_to_list}
use Rattle.std.proofs.lemmas.List.Sorted.{IsPermutation-refl, IsPermutation-trans, IsPermutation-to_front, IsPermutation-insert, IsPermutation-append_left, IsPermutation-append_right}
use Rattle.datagram_hold.specs.Came.{Came}
use Rattle.datagram_hold.specs.Sequence.{is_ahead, number_of}
use Rattle.datagram_hold.specs.Hold.{Handed, HoldState, asked, handing, leaves, place_in, put_at, taken_by, unless_full}
use Rattle.datagram_hold.specs.Runs.{Call, Takes, Asks, called, came, run}

-- what is so of both answers is so of the one that a test chooses
pub by_test : (P : Handed → Type 0) (test : Bool) (one other : Handed) → P one → P other → P (cond test one other)
by_test P true one other p q = p
by_test P false one other p q = q

-- all that was there is handed out or waits
abbrev pub Keeps : List Came → Handed → Type 0
Keeps there handed = IsPermutation there (option_to_list handed.0 ++ handed.1.held)

full_keeps : (waiting : List Came) (hold : HoldState) → Keeps waiting (unless_full waiting hold)
full_keeps [] hold = IsPermutation-refl []
full_keeps (one ∷ others) hold =
    by_test (Keeps (one ∷ others)) (nat_lt 8 (length (one ∷ others))) (handing one others hold) (None, record hold { held = one ∷ others })
    (IsPermutation-refl (one ∷ others)) (IsPermutation-refl (one ∷ others))

put_keeps : (expected : ℕ) (one : Came) (hold : HoldState) → Keeps (hold.held ++ one ∷ []) (put_at expected one hold)
put_keeps expected one hold =
    let place = place_in expected (number_of one.bytes) hold.held in
    let waiting = insert hold.held place one in
    IsPermutation-trans (hold.held ++ one ∷ []) (one ∷ hold.held) _ (IsPermutation-to_front hold.held one)
    (IsPermutation-trans (one ∷ hold.held) waiting _ (IsPermutation-insert hold.held place one) (full_keeps waiting hold))

taken_keeps : (expected : Option ℕ) (one : Came) (hold : HoldState) → Keeps (hold.held ++ one ∷ []) (taken_by expected one hold)
taken_keeps None one hold = IsPermutation-to_front hold.held one
taken_keeps (Some expected) one hold =
    by_test (Keeps (hold.held ++ one ∷ [])) (nat_lt 0 hold.millis && is_ahead expected (number_of one.bytes)) (put_at expected one hold) (handing one hold.held hold)
    (put_keeps expected one hold) (IsPermutation-to_front hold.held one)

asked_keeps : (now : ℕ) (millis : ℕ) (expected : Option ℕ) (held : List Came) → Keeps held (asked now (record { millis = millis; expected = expected; held = held }))
asked_keeps now millis expected [] = IsPermutation-refl []
asked_keeps now millis expected (one ∷ others) =
    let hold : HoldState = record { millis = millis; expected = expected; held = one ∷ others } in
    by_test (Keeps (one ∷ others)) (leaves now one hold) (handing one others hold) (None, hold) (IsPermutation-refl (one ∷ others)) (IsPermutation-refl (one ∷ others))

pub call_keeps : (call : Call) (hold : HoldState) → Keeps (hold.held ++ came (call ∷ [])) (called call hold)
call_keeps (Takes one) hold = taken_keeps hold.expected one hold
call_keeps (Asks now) hold = subst (λ there. Keeps there (asked now hold)) (sym (append-nil hold.held)) (asked_keeps now hold.millis hold.expected hold.held)

came-cons : (call : Call) (calls : List Call) → came (call ∷ calls) ≡ came (call ∷ []) ++ came calls
came-cons (Takes one) calls = refl
came-cons (Asks now) calls = refl

pub all_keep : (calls : List Call) (hold : HoldState) → IsPermutation (hold.held ++ came calls) ((run calls hold).0 ++ (run calls hold).1.held)
all_keep [] hold = subst (IsPermutation (hold.held ++ [])) (append-nil hold.held) (IsPermutation-refl (hold.held ++ []))
all_keep (call ∷ calls) hold =
    let first = called call hold in
    let more = run calls first.1 in
    let here = came (call ∷ []) in
    let out = option_to_list first.0 in
    let one : IsPermutation ((hold.held ++ here) ++ came calls) ((out ++ first.1.held) ++ came calls) = IsPermutation-append_left (came calls) _ _ (call_keeps call hold) in
    let others : IsPermutation (out ++ (first.1.held ++ came calls)) (out ++ (more.0 ++ more.1.held)) = IsPermutation-append_right out _ _ (all_keep calls first.1) in
    let joined = IsPermutation-trans ((hold.held ++ here) ++ came calls) (out ++ (first.1.held ++ came calls)) (out ++ (more.0 ++ more.1.held))
    (subst (IsPermutation ((hold.held ++ here) ++ came calls)) (append_assoc out first.1.held (came calls)) one) others in
    let there = append_assoc hold.held here (came calls) ∙ ap (λ all. hold.held ++ all) (sym (came-cons call calls)) in
    subst (λ xs. IsPermutation xs ((out ++ more.0) ++ more.1.held)) there
    (subst (IsPermutation ((hold.held ++ here) ++ came calls)) (sym (append_assoc out more.0 more.1.held)) joined)
