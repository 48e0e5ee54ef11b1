-- How long what is handed out has waited.
use Rattle.std.proofs.Common.{◌≡◌, ◌≤◌, ◌-◌, ℕ, nat_lt, not, ◌&&◌, ◌||◌, Bool, true, false, cond, List, [], ◌∷◌, ◌++◌, Option, Some, None, refl, ap, arith}
use Rattle.std.specs.List.{All, list_any}
use Rattle.std.proofs.lemmas.Bool.{leb-false}
use Rattle.std.proofs.lemmas.List.Elements.{All-append, All-cons, All-head, All-nil, All-tail, All-weaker}
use Rattle.std.proofs.lemmas.List.Sorted.{All-permutation}
use Rattle.datagram_hold.specs.Came.{Came}
use Rattle.datagram_hold.specs.Hold.{Handed, HoldState, handing, has_waited, is_early, leaves, taken_by}
use Rattle.datagram_hold.specs.Runs.{Call, Takes, Asks, IsAskedOut, IsYoung, came, run}
use Rattle.datagram_hold.proofs.Keeping.{all_keep}

or_first : (one other : Bool) → (one || other) ≡ false → one ≡ false
or_first true other e = e
or_first false other e = refl

pub or_second : (one other : Bool) → (one || other) ≡ false → other ≡ false
or_second true other e = cc
or_second false other e = e

pub all_front : {X : Type 0} (P : X → Type 0) (xs ys : List X) → All P (xs ++ ys) → All P xs
all_front P [] ys all = All-nil P
all_front P (x ∷ xs) ys all = All-cons P x xs (All-head P x (xs ++ ys) all) (all_front P xs ys (All-tail P x (xs ++ ys) all))

pub none_of : {X : Type 0} (p : X → Bool) (xs : List X) → list_any p xs ≡ false → All (λ x. p x ≡ false) xs
none_of p [] e = All-nil (λ x. p x ≡ false)
none_of p (x ∷ xs) e = All-cons (λ x. p x ≡ false) x xs (or_first (p x) (list_any p xs) e) (none_of p xs (or_second (p x) (list_any p xs) e))

young : (millis now : ℕ) (one : Came) → has_waited millis now one ≡ false → IsYoung millis now one
young millis now one e = let less = leb-false millis (now - one.at) e in omega (arith, less)

pub all_young : (millis now : ℕ) (held : List Came) → list_any (has_waited millis now) held ≡ false → All (IsYoung millis now) held
all_young millis now held e =
    All-weaker (λ one. has_waited millis now one ≡ false) (IsYoung millis now) (young millis now) held (none_of (has_waited millis now) held e)

-- nothing is handed out only where the test says so
none_leaves : (test : Bool) (one : Came) (others : List Came) (hold : HoldState) → (cond {A = Handed} test (handing one others hold) (None, hold)).0 ≡ None → test ≡ false
none_leaves true one others hold e = cc
none_leaves false one others hold e = refl

young_held : (now millis : ℕ) (expected : Option ℕ) (held : List Came) → IsAskedOut now (record { millis = millis; expected = expected; held = held }) → All (IsYoung millis now) held
young_held now millis expected [] out = All-nil (IsYoung millis now)
young_held now millis expected (one ∷ others) out =
    let hold : HoldState = record { millis = millis; expected = expected; held = one ∷ others } in
    all_young millis now (one ∷ others) (or_second (not (is_early expected one)) (list_any (has_waited millis now) (one ∷ others)) (none_leaves (leaves now one hold) one others hold out))

pub young_left : (now : ℕ) (hold : HoldState) → IsAskedOut now hold → All (IsYoung hold.millis now) hold.held
young_left now hold out = young_held now hold.millis hold.expected hold.held out

within : (millis bound now : ℕ) → millis ≤ bound → (one : Came) → IsYoung millis now one → IsYoung bound now one
within millis bound now le one young = omega (arith, le, young)

pub young_within : (now bound : ℕ) (hold : HoldState) → hold.millis ≤ bound → IsAskedOut now hold → All (IsYoung bound now) hold.held
young_within now bound hold le out = All-weaker (IsYoung hold.millis now) (IsYoung bound now) (within hold.millis bound now le) hold.held (young_left now hold out)

-- what is so of all that waits and comes is so of all that is handed out and waits then
pub so_of_all : (P : Came → Type 0) (hold : HoldState) (calls : List Call) → All P hold.held → All P (came calls) → All P ((run calls hold).0 ++ (run calls hold).1.held)
so_of_all P hold calls held come = All-permutation P (hold.held ++ came calls) ((run calls hold).0 ++ (run calls hold).1.held) (all_keep calls hold) (All-append P hold.held (came calls) held come)

pub handed_within : (now bound : ℕ) (hold : HoldState) (calls : List Call) → hold.millis ≤ bound → IsAskedOut now hold → All (IsYoung bound now) (came calls) → All (IsYoung bound now) (run calls hold).0
handed_within now bound hold calls le out come =
    all_front (IsYoung bound now) (run calls hold).0 (run calls hold).1.held (so_of_all (IsYoung bound now) hold calls (young_within now bound hold le out) come)

-- ---- a hold of 0

pub none_waits : (calls : List Call) (expected : Option ℕ) → ((run calls (record { millis = 0; expected = expected; held = [] })).0 ≡ came calls) × ((run calls (record { millis = 0; expected = expected; held = [] })).1.held ≡ [])
none_waits [] expected = (refl, refl)
none_waits (Takes one ∷ calls) None = let others = none_waits calls _ in (ap (λ all. one ∷ all) others.0, others.1)
none_waits (Takes one ∷ calls) (Some expected) = let others = none_waits calls _ in (ap (λ all. one ∷ all) others.0, others.1)
none_waits (Asks now ∷ calls) expected = none_waits calls expected

-- ---- what isn't ahead

chosen : (test early : Bool) (one other : Handed) → early ≡ false → cond (test && early) one other ≡ other
chosen true early one other e = ap (λ b. cond b one other) e
chosen false early one other e = refl

pub at_once : (expected : Option ℕ) (one : Came) (hold : HoldState) → is_early expected one ≡ false → taken_by expected one hold ≡ handing one hold.held hold
at_once None one hold e = refl
at_once (Some expected) one hold e = chosen (nat_lt 0 hold.millis) (is_early (Some expected) one) _ (handing one hold.held hold) e
