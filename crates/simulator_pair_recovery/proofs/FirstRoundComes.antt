-- The first round of a flow is one of two ends, in which copies come of what was sent by then.
use Rattle.std.proofs.Common.{◌≡◌, ℕ, zero, suc, ◌⊎◌, inl, inr, ◌∙◌, ◌+◌, Bool, true, false, ◌&&◌, not, nat_le, nat_lt, List, [], ◌∷◌, ◌++◌, append_assoc, append-nil, length, drop, Option, Some, None, Result, Ok, if◌then◌else◌, refl, sym, ap, subst, arith}
use Rattle.std.specs.Prelude.{◌-◌, is_none, slice_get}
use Rattle.std.specs.Str.{bytes_eq}
use Rattle.std.proofs.lemmas.Bool.Decides.{nat_tests}
use Rattle.std.proofs.lemmas.Slice.Eq.{bytes_eq-Decides}
use Rattle.rasta_core_spec.specs.Bag.{is_alive_copy, lifetime, newest_copy}
use Rattle.rasta_core_spec.specs.PduRead.{reading}
use Rattle.rasta_core_spec.specs.identity.Role.{Role}
use Rattle.rasta_core_spec.specs.identity.Role.TheVariants as role
use Rattle.rasta_core_spec.specs.pdu.Pdu.{Pdu}
use Rattle.rasta_core_spec.specs.pdu_fault.PduFault.{PduFault}
use Rattle.rasta_core_spec.specs.Each.{Each}
use Rattle.rasta_core_spec.specs.Ends.{Sent, Ticks, Opens, Receives}
use Rattle.rasta_core_spec.specs.Run.{Ends, called, end_of, later}
use Rattle.rasta_core_spec.specs.Events.{Calls, IsAmong, run}
use Rattle.rasta_core_spec.specs.Names.{name_of}
use Rattle.rasta_core_spec.specs.Names as names_of
use Rattle.rasta_core_spec.specs.SafetyCode.{intact}
use Rattle.rasta_core.specs.Invariant.{InFlight, Timely}
use Rattle.rasta_core.specs.TimedEnds.{Times, times_of}
use Rattle.rasta_core_recovery.specs.FirstRound.{ComeFirst, round_of}
use Rattle.rasta_core_recovery.specs.Rounds.{Flow, can_come, comings, own_work}
use Rattle.simulator_pair.specs.Pair.{PairState}
use Rattle.simulator_pair.specs.Events.{copy_of, refusal_of_delivery}
use Rattle.simulator_pair.specs.Theorem.{names}
use Rattle.simulator_pair.specs.declared.event.PairEvent.TheVariants as event
use Rattle.simulator_pair_text.specs.Flow.{Flowing, arrived, arriving, arriving_from, partner_of, round, tried}
use Rattle.simulator_pair_recovery.proofs.Alike.{AlikeSent, AllAlike, alike_same}
use Rattle.simulator_pair_recovery.proofs.FirstRoundMay.{AreSentAsTheyCome, among_middle, they_may_come, they_were_sent}
use Rattle.simulator_pair_recovery.proofs.FirstRoundShort.{IsShort, IsWhole, ReadIsIntact, reached_short, reached_whole}
use Rattle.simulator_pair_recovery.proofs.Fresh.{Adds, adds_none}
use Rattle.simulator_pair_recovery.proofs.Reached.{Reached, key_of, never_sent, reached_timely, tried_reached}
use Rattle.simulator_pair_recovery.proofs.Rounds.{Both, CanGo, Goes, LawsHere, arriving_adds, found_first, found_later, get_after, goes_from, later_is, one_comes, own_work_done, round_ends, run_both, time_passes}

-- ---- the copy that is found

no_some : (o : Option Sent) (c : Sent) → o ≡ Some c → o ≡ None → ⊥
no_some o c a b = cc

same_some : (o : Option Sent) (c d : Sent) → o ≡ Some c → o ≡ Some d → c ≡ d
same_some o c d a b = cc (a, b)

-- it is one of them, and can come
record IsFound (time : ℕ) (bytes : List ℕ) (xs : List Sent) (c : Sent) : Type 0 where
  among : IsAmong c xs
  alive : is_alive_copy time bytes c ≡ true

found_is : (time : ℕ) (bytes : List ℕ) (xs : List Sent) (c : Sent) → newest_copy time bytes xs ≡ Some c → IsFound time bytes xs c
found_is time bytes [] c found = absurd (cc found)
found_is time bytes (x ∷ xs) c found = by_later (λ e. found_is time bytes xs c e) (newest_copy time bytes xs) refl
  where
    by_first : newest_copy time bytes xs ≡ None → (b : Bool) → is_alive_copy time bytes x ≡ b → IsFound time bytes (x ∷ xs) c
    by_first none true a = let same = same_some _ x c (found_first time bytes x xs none a) found in record {
      among = inl same;
      alive = subst
          (λ (d : Sent). is_alive_copy time bytes d ≡ true) same a;
    }
    by_first none false a = absurd (no_some _ c found (rw (none, a) refl))

    by_later : (newest_copy time bytes xs ≡ Some c → IsFound time bytes xs c) → (o : Option Sent) → newest_copy time bytes xs ≡ o → IsFound time bytes (x ∷ xs) c
    by_later before (Some d) e =
        let is = before (e ∙ ap Some (same_some _ d c (found_later time bytes x xs d e) found)) in record { among = inr is.among; alive = is.alive }
    by_later before None e = by_first e (is_alive_copy time bytes x) refl

both_true : (a b : Bool) → a && b ≡ true → (a ≡ true) × (b ≡ true)
both_true true b e = (refl, e)
both_true false b e = cc

-- so it can come, with these bytes
alive_comes : (time : ℕ) (bytes : List ℕ) (c : Sent) → is_alive_copy time bytes c ≡ true → (can_come time c ≡ true) × (c.bytes ≡ bytes)
alive_comes time bytes c alive =
    let a = both_true (nat_le time (c.at + lifetime)) (not c.is_lost && bytes_eq c.bytes bytes) alive in let b = both_true (not c.is_lost) (bytes_eq c.bytes bytes) a.1 in
    (rw (b.0, a.0) refl, (bytes_eq-Decides c.bytes bytes).0 b.1)

-- ---- what comes in the place of each

among_alike : (c : Sent) (xs ys : List Sent) → AllAlike xs ys → IsAmong c xs → (e : Sent) × IsAmong e ys × AlikeSent c e
among_alike c [] ys alike is = absurd is
among_alike c (x ∷ xs) [] alike is = absurd alike
among_alike c (x ∷ xs) (y ∷ ys) alike (inl same) = (y, inl refl, subst (λ (d : Sent). AlikeSent d y) same alike.0)
among_alike c (x ∷ xs) (y ∷ ys) alike (inr is) = let more = among_alike c xs ys alike.1 is in (more.0, inr more.1, more.2)

alike_can_come : (time : ℕ) (c e : Sent) → AlikeSent c e → can_come time c ≡ true → can_come time e ≡ true
alike_can_come time c e alike can = ap (λ (b : Bool). not b && nat_le time (e.at + lifetime)) (sym alike.is_lost) ∙ ap (λ (at : ℕ). not c.is_lost && nat_le time (at + lifetime)) (sym alike.at) ∙ can

lost_stays : (d : Sent) (pair : PairState) → d.is_lost ≡ true → arriving (Some d) pair ≡ pair
unfolding arriving
lost_stays d pair is = rw is refl

old_stays : LawsHere → (d : Sent) (pair : PairState) → Reached pair.ends → d.is_lost ≡ false → IsShort d → IsWhole d → copy_of d.bytes pair.ends ≡ None → arriving (Some d) pair ≡ pair
unfolding arriving arrived
old_stays law d pair is there short whole none = rw (there, fits, refused) refl
  where
    fits : nat_lt 512 (length d.bytes) ≡ false
    fits = let e = short in grind (arith, nat_tests)

    who : Role
    who = partner_of d.sender

    told : intact (end_of who pair.ends).link.identity.key d.bytes ≡ true
    told = ap (λ key. intact key d.bytes) (key_of who pair.ends (reached_timely law.laws pair.ends is)) ∙ whole

    refused : is_none (refusal_of_delivery who d.bytes pair.ends) ≡ false
    refused = ap is_none (never_sent who d.bytes pair.ends none told)

-- ---- who sent a copy

one_name : (one other : Role) → name_of one names ≡ name_of other names → one ≡ other
one_name role.Client role.Client same = refl
one_name role.Server role.Server same = refl
one_name role.Client role.Server same = absurd (omega (arith, same))
one_name role.Server role.Client same = absurd (omega (arith, same))

same_ok : (r : Result Pdu PduFault) (p q : Pdu) → r ≡ Ok p → r ≡ Ok q → p ≡ q
same_ok r p q a b = cc (a, b)

same_sender : (times : Times) (c d : Sent) → InFlight names times c → InFlight names times d → c.bytes ≡ d.bytes → c.sender ≡ d.sender
same_sender times c d of_c of_d same = one_name c.sender d.sender (sym of_c.sender
    ∙ ap (λ (p : Pdu). p.sender) (same_ok (reading names.key d.bytes) of_c.pdu of_d.pdu (ap (reading names.key) (sym same) ∙ of_c.read) of_d.read) ∙ of_d.sender)

each_among : (P : Sent → Type 0) (xs : List Sent) (c : Sent) → Each P xs → IsAmong c xs → P c
each_among P [] c each is = absurd is
each_among P (x ∷ xs) c each (inl same) = subst P same each.0
each_among P (x ∷ xs) c each (inr is) = each_among P xs c each.1 is

-- ---- all that is tried

-- what arrives is what comes to two ends of these datagrams
record Arrives (time : ℕ) (then_pair : PairState) (b before : Ends) : Type 0 where
  due : List Sent
  both : Both time then_pair.ends (run (comings (time + 10000) due) b) before
  comes : AreSentAsTheyCome (time + 10000) due b

all_tried_arrive : LawsHere → (time : ℕ) (ds : List Sent) (pair : PairState) (b before : Ends) (front rest : List Sent) → before.time ≡ time + 10000
    → pair.ends.sent ≡ front ++ (ds ++ rest) → Each IsShort ds → Each IsWhole ds → Both time pair.ends b before
    → Arrives time (arriving_from (length front) (length ds) pair) b before
unfolding arriving_from
all_tried_arrive law time [] pair b before front rest at sent short whole both = record { due = []; both = both; comes = tt }
all_tried_arrive law time (d ∷ ds) pair b before front rest at sent short whole both =
    by_lost (λ next one. all_tried_arrive law time ds (arriving (Some d) pair) next before (front ++ d ∷ []) (rest ++ added.more) at then_sent short.1 whole.1 one) d.is_lost refl
  where
    t : ℕ
    t = time + 10000

    got : slice_get pair.ends.sent (length front) ≡ Some d
    got = ap (λ (s : List Sent). slice_get s (length front)) sent ∙ get_after front (ds ++ rest) d

    longer : length (front ++ d ∷ []) ≡ suc (length front)
    longer = count front
      where
        count : (xs : List Sent) → length (xs ++ d ∷ []) ≡ suc (length xs)
        count [] = refl
        count (x ∷ xs) = ap suc (count xs)

    now : pair.ends.time ≡ time + 10000
    now = both.adds.time ∙ at

    added : Adds pair.ends (arriving (Some d) pair).ends
    added = arriving_adds law (Some d) pair both.reached

    then_sent : (arriving (Some d) pair).ends.sent ≡ (front ++ d ∷ []) ++ (ds ++ (rest ++ added.more))
    then_sent = added.sent ∙ ap (λ (s : List Sent). s ++ added.more) sent ∙ append_assoc front (d ∷ (ds ++ rest)) added.more
        ∙ ap (λ (s : List Sent). front ++ d ∷ s) (append_assoc ds rest added.more) ∙ sym (append_assoc front (d ∷ []) (ds ++ (rest ++ added.more)))

    Goal : Type 0
    Goal = Arrives time (arriving_from (suc (length front)) (length ds) (arriving (slice_get pair.ends.sent (length front)) pair)) b before

    -- the others after it
    GoesOn : Type 0
    GoesOn = (next : Ends) → Both time (arriving (Some d) pair).ends next before
        → Arrives time (arriving_from (length (front ++ d ∷ [])) (length ds) (arriving (Some d) pair)) next before

    back : Arrives time (arriving_from (length (front ++ d ∷ [])) (length ds) (arriving (Some d) pair)) b before → Goal
    back a = subst (λ (o : Option Sent). Arrives time (arriving_from (suc (length front)) (length ds) (arriving o pair)) b before) (sym got)
        (subst (λ (k : ℕ). Arrives time (arriving_from k (length ds) (arriving (Some d) pair)) b before) longer a)

    -- nothing comes in its place
    away : GoesOn → arriving (Some d) pair ≡ pair → Goal
    away go stays = back (go b (subst (λ (p : PairState). Both time p.ends b before) (sym stays) both))

    no_copy : newest_copy t d.bytes pair.ends.sent ≡ None → copy_of d.bytes pair.ends ≡ None
    no_copy none = ap (λ (u : ℕ). newest_copy u d.bytes pair.ends.sent) now ∙ none

    -- this comes in its place
    takes : GoesOn → d.is_lost ≡ false → (copy : Sent) → copy_of d.bytes pair.ends ≡ Some copy → (e : Sent) → IsAmong e b.sent → can_come t e ≡ true → d.bytes ≡ e.bytes
        → d.sender ≡ e.sender → Goal
    takes go there copy found e among can bytes sender = back (record {
      due = e ∷ a.due;
      both = subst (λ (x : Ends). Both time (arriving_from (length (front ++ d ∷ [])) (length ds) (arriving (Some d) pair)).ends x before)
          (sym (ap (λ (c : Bool). run (if c then Calls (names_of.partner_of e.sender) (Receives e.bytes e.connection) ∷ comings (time + 10000) a.due else comings (time + 10000) a.due) b) can)) a.both;
      comes = (among, can, a.comes);
    })
      where
        next : Ends
        next = called (names_of.partner_of e.sender) (Receives e.bytes e.connection) b

        a : Arrives time (arriving_from (length (front ++ d ∷ [])) (length ds) (arriving (Some d) pair)) next before
        a = go next (one_comes law time d e copy pair b before there short.0 found bytes sender both)

    -- the copy that is found, sent before the round or said in it
    takes_copy : GoesOn → d.is_lost ≡ false → (c : Sent) → newest_copy t d.bytes pair.ends.sent ≡ Some c → Goal
    takes_copy go there c found = takes go there c (ap (λ (u : ℕ). newest_copy u d.bytes pair.ends.sent) now ∙ found) e.0 e.1 (alike_can_come t c e.0 e.2 is.0)
        (sym is.1 ∙ e.2.bytes) (sym one_sender ∙ e.2.sender)
      where
        is_found : IsFound t d.bytes pair.ends.sent c
        is_found = found_is t d.bytes pair.ends.sent c found

        is : (can_come t c ≡ true) × (c.bytes ≡ d.bytes)
        is = alive_comes t d.bytes c is_found.alive

        e : (e : Sent) × IsAmong e b.sent × AlikeSent c e
        e = among_alike c pair.ends.sent b.sent both.alike.sent is_found.among

        timely : Timely names pair.ends
        timely = reached_timely law.laws pair.ends both.reached

        flights : Each (InFlight names (times_of pair.ends timely.of_client timely.of_server timely.newest)) pair.ends.sent
        flights = timely.datagrams

        one_sender : c.sender ≡ d.sender
        one_sender = same_sender (times_of pair.ends timely.of_client timely.of_server timely.newest) c d (each_among _ pair.ends.sent c flights is_found.among)
            (each_among _ pair.ends.sent d flights (subst (IsAmong d) (sym sent) (among_middle d front (ds ++ rest)))) is.1

    by_copy : GoesOn → d.is_lost ≡ false → (o : Option Sent) → newest_copy t d.bytes pair.ends.sent ≡ o → Goal
    by_copy go there None e = away go (old_stays law d pair both.reached there short.0 whole.0 (no_copy e))
    by_copy go there (Some c) e = takes_copy go there c e

    by_lost : GoesOn → (c : Bool) → d.is_lost ≡ c → Goal
    by_lost go true e = away go (lost_stays d pair e)
    by_lost go false e = by_copy go e (newest_copy t d.bytes pair.ends.sent) refl

-- ---- what a flow hasn't gone past

record IsSplit (n : ℕ) (xs : List Sent) : Type 0 where
  front : List Sent
  are : xs ≡ front ++ drop n xs
  many : length (drop n xs) ≡ length xs - n
  at : (length front ≡ n) ⊎ (drop n xs ≡ [])

split : (n : ℕ) (xs : List Sent) → IsSplit n xs
split zero xs = record { front = []; are = refl; many = omega arith; at = inl refl }
split (suc n) [] = record { front = []; are = refl; many = omega arith; at = inr refl }
split (suc n) (x ∷ xs) = let s = split n xs in record { front = x ∷ s.front; are = ap (λ (l : List Sent). x ∷ l) s.are; many = let m = s.many in omega (arith, m); at = further s.front s.at }
  where
    further : (ys : List Sent) → (length ys ≡ n) ⊎ (drop n xs ≡ []) → (suc (length ys) ≡ suc n) ⊎ (drop n xs ≡ [])
    further ys (inl e) = inl (ap suc e)
    further ys (inr e) = inr e

none_arrive : (index more : ℕ) (pair : PairState) → more ≡ 0 → arriving_from index more pair ≡ pair
unfolding arriving_from
none_arrive index zero pair e = refl
none_arrive index (suc more) pair e = absurd (omega (arith, e))

same_arrive : (n : ℕ) (xs : List Sent) (s : IsSplit n xs) (pair : PairState) → arriving_from (length s.front) (length (drop n xs)) pair ≡ arriving_from n (length xs - n) pair
same_arrive n xs s pair = choose s.at
  where
    two : {i j k l : ℕ} → i ≡ j → k ≡ l → arriving_from i k pair ≡ arriving_from j l pair
    two e f = cc

    choose : (length s.front ≡ n) ⊎ (drop n xs ≡ []) → arriving_from (length s.front) (length (drop n xs)) pair ≡ arriving_from n (length xs - n) pair
    choose (inl e) = two e s.many
    choose (inr none) = let z = ap (λ (l : List Sent). length l) none in
        none_arrive (length s.front) (length (drop n xs)) pair z ∙ sym (none_arrive n (length xs - n) pair (sym s.many ∙ z))

each_drop : {X : Type 0} (P : X → Type 0) (n : ℕ) (xs : List X) → Each P xs → Each P (drop n xs)
each_drop P zero xs each = each
each_drop P (suc n) [] each = tt
each_drop P (suc n) (x ∷ xs) each = each_drop P n xs each.1

-- ---- the first round

-- the two ends that a flow begins with
abbrev pub ends_of : Flowing → Flow
ends_of first = record { ends = first.pair.ends; passed = 0 }

-- the first round of a flow is one of two ends, in which these come
pub record FirstComes (first : Flowing) : Type 0 where
  pub due : List Sent
  pub comes : ComeFirst names due (ends_of first)
  pub goes : Goes 1 first (round first) (round_of due (ends_of first))

module _ (law : LawsHere) (read : ReadIsIntact) (n : ℕ) (first : Flowing) (can : CanGo 0 n first) (is : Reached first.pair.ends) where
  abbrev time : ℕ
  time = first.pair.ends.time

  abbrev sent : List Sent
  sent = first.pair.ends.sent

  abbrev ds : List Sent
  ds = drop first.passed sent

  abbrev g : Flow
  g = ends_of first

  abbrev later_first : Ends
  later_first = later 10000 10000 10000 first.pair.ends

  p0 : PairState
  p0 = tried (event.Time 10000 10000 10000) first.pair

  passes : p0.ends ≡ later_first
  unfolding p0
  passes = time_passes 0 n first first can (omega arith) (omega arith) (omega arith)

  s : IsSplit first.passed sent
  s = split first.passed sent

  mid : PairState
  mid = arriving_from (length s.front) (length ds) p0

  begins : Both time p0.ends later_first later_first
  unfolding p0
  begins = subst (λ (x : Ends). Both time x later_first later_first) (sym passes) (record {
    reached = subst Reached passes (tried_reached law.laws (event.Time 10000 10000 10000) first.pair tt is);
    alike = alike_same later_first;
    adds = adds_none later_first;
  })

  same_mid : mid ≡ arriving_from first.passed (length sent - first.passed) p0
  unfolding mid
  same_mid = same_arrive first.passed sent s p0

  sent_is : p0.ends.sent ≡ s.front ++ (ds ++ [])
  sent_is = ap (λ (x : Ends). x.sent) passes ∙ (later_is first.pair.ends).1 ∙ s.are ∙ ap (λ (xs : List Sent). s.front ++ xs) (sym (append-nil ds))

  came : Arrives time mid later_first later_first
  unfolding mid
  came = all_tried_arrive law time ds p0 later_first later_first s.front [] (later_is first.pair.ends).0 sent_is
      (each_drop IsShort first.passed sent (reached_short law first.pair.ends is)) (each_drop IsWhole first.passed sent (reached_whole law.laws read first.pair.ends is)) begins

  -- what comes in it
  abbrev due : List Sent
  due = came.due

  worked : Both time (called role.Server Ticks (called role.Client Opens (called role.Client Ticks (arriving_from first.passed (length sent - first.passed) p0).ends)))
      (run own_work (run (comings (time + 10000) due) later_first)) later_first
  worked = own_work_done law time _ _ later_first (subst (λ (p : PairState). Both time p.ends (run (comings (time + 10000) due) later_first) later_first) same_mid came.both)

  first_goes : Goes 1 first (round first) (round_of due g)
  unfolding p0
  first_goes = goes_from 0 n first first g (round_of due g) _
      (subst (λ (x : Ends). Both time x (run own_work (run (comings (time + 10000) due) later_first)) later_first) (sym (round_ends first)) worked)
      refl (run_both (comings (time + 10000) due) own_work later_first) refl (omega arith) (omega arith) (omega arith)

  come_first : ComeFirst names due g
  come_first = record {
    may = (
      (record { least = omega arith; most = omega arith }, record { least = omega arith; most = omega arith }),
      they_may_come names (time + 10000) due later_first came.comes (later_is first.pair.ends).0,
    );
    were_sent = they_were_sent (time + 10000) due later_first came.comes;
  }

  pub first_comes : FirstComes first
  first_comes = record { due = due; comes = come_first; goes = first_goes }
