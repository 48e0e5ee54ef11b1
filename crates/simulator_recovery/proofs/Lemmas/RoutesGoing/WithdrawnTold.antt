-- What the interlocking gives a signal is confirmed within 32 good rounds: the signal says something in 30 of them.
use Rattle.simulator_recovery.proofs.Words.Basics.{◌≡◌, ℕ, zero, suc, ◌+◌, ◌≤◌, ◌<◌, Bool, true, false, nat_le, List, [], ◌∷◌, ◌++◌, append_assoc, append-nil, length, refl, sym, ap, subst, ◌∙◌, arith, leb-false, leb-true}
use Rattle.simulator_recovery.proofs.Words.Links.{StaysAtWork, Flow, flow_after, AreAtWork, LeavesOpen, StayBelow, recovery_rounds_at_work, work_round, work_rounds, Each, reading_of, Event as LinkEvent, of_link, start_of, AreNames, Names, Ends, LinkState, confirmed_items}
use Rattle.simulator_recovery.proofs.Words.Interlockings.{IsTableOf, SitedTable}
use Rattle.simulator_recovery.proofs.Words.Stations.{Once, IsStation, Event, Flowing, round, names_at, starts_at_zero, links}
use Rattle.simulator_recovery.proofs.Words.Recovery.{HasConfirmed, IsUpOn, StaysBelowLimit, HasTime, IsWork, all_tried, good_rounds, LawsBelow}
use Rattle.simulator_recovery.proofs.Lemmas.Links.ComeUp.{Begun, behind_rounds, lists_length, lists_on, rounds_begin, rounds_open, up_on, rounds_stay}
use Rattle.simulator_recovery.proofs.Lemmas.Links.ConfirmedLinks.{settled_confirmed}
use Rattle.simulator_recovery.proofs.Lemmas.Links.HandedOver.{client_is}
use Rattle.simulator_recovery.proofs.Lemmas.Rounds.LinkRounds.{are_links}
use Rattle.simulator_recovery.proofs.Lemmas.Ground.EndCalls.{each_both}
use Rattle.simulator_recovery.proofs.Lemmas.Links.Ready.{IsUpBehind, below_front, count_front, each_front, lists_front, rounds_both, ups, work_front}
use Rattle.simulator_recovery.proofs.Lemmas.Silence.Spent.{settled_given}
use Rattle.simulator_recovery.proofs.Lemmas.Windows.WindowsSpoken.{below_two, count_two, each_two, lists_two, rounds_two, work_two}

-- ---- so many rounds more

-- what comes after a round, of so many lists
abbrev pub nth : List (List Event) → ℕ → List Event
nth [] i = []
nth (one ∷ more) zero = one
nth (one ∷ more) (suc i) = nth more i

pub each_nth : (P : Event → Type 0) (more : List (List Event)) → Each (Each P) more → (i : ℕ) → Each P (nth more i)
each_nth P [] each i = tt
each_nth P (one ∷ more) each zero = each.0
each_nth P (one ∷ more) each (suc i) = each_nth P more each.1 i

abbrev pub and_more : (ℕ → List Event) → List (List Event) → ℕ → List (List Event)
and_more at rounds zero = rounds
and_more at rounds (suc n) = and_more at rounds n ++ at n ∷ []

pub and_work : (at : ℕ → List Event) (rounds : List (List Event)) → ((i : ℕ) → Each IsWork (at i)) → Each (Each IsWork) rounds → (n : ℕ) → Each (Each IsWork) (and_more at rounds n)
and_work at rounds each works zero = works
and_work at rounds each works (suc n) = each_both (Each IsWork) (and_more at rounds n) (at n ∷ []) (and_work at rounds each works n) (each n, tt)

pub and_count : (at : ℕ → List Event) (rounds : List (List Event)) (n : ℕ) → length (and_more at rounds n) ≡ length rounds + n
and_count at rounds zero = omega arith
and_count at rounds (suc n) = let more = count_front (and_more at rounds n) (at n) in let count = and_count at rounds n in omega (arith, more, count)

-- so many lists
abbrev pub listed : (ℕ → List Event) → ℕ → List (List Event)
listed at zero = []
listed at (suc n) = listed at n ++ at n ∷ []

-- by their first
pub listed_first : (at : ℕ → List Event) (n : ℕ) → listed at (suc n) ≡ at 0 ∷ listed (λ i. at (suc i)) n
listed_first at zero = refl
listed_first at (suc n) = ap (λ (l : List (List Event)). l ++ at (suc n) ∷ []) (listed_first at n)

listed_count : (at : ℕ → List Event) (n : ℕ) → length (listed at n) ≡ n
listed_count at zero = refl
listed_count at (suc n) = let more = count_front (listed at n) (at n) in let count = listed_count at n in omega (arith, more, count)

listed_whole : (more : List (List Event)) → listed (nth more) (length more) ≡ more
listed_whole [] = refl
listed_whole (one ∷ more) = listed_first (nth (one ∷ more)) (length more) ∙ ap (λ (l : List (List Event)). one ∷ l) (listed_whole more)

pub and_is : (at : ℕ → List Event) (rounds : List (List Event)) (n : ℕ) → and_more at rounds n ≡ rounds ++ listed at n
and_is at rounds zero = sym (append-nil rounds)
and_is at rounds (suc n) = ap (λ (l : List (List Event)). l ++ at n ∷ []) (and_is at rounds n) ∙ append_assoc rounds (listed at n) (at n ∷ [])

-- all of them
pub and_whole : (rounds more : List (List Event)) → and_more (nth more) rounds (length more) ≡ rounds ++ more
and_whole rounds more = and_is (nth more) rounds (length more) ∙ ap (λ (l : List (List Event)). rounds ++ l) (listed_whole more)

joined : (at : ℕ → List Event) (rounds : List (List Event)) (n : ℕ) → and_more at rounds (suc n) ≡ and_more (λ i. at (suc i)) (rounds ++ at 0 ∷ []) n
joined at rounds zero = refl
joined at rounds (suc n) = ap (λ (l : List (List Event)). l ++ at (suc n) ∷ []) (joined at rounds n)

and_from : (at : ℕ → List Event) (rounds : List (List Event)) (n : ℕ) → and_more at rounds (suc n) ≡ and_more at rounds 1 ++ listed (λ i. at (suc i)) n
and_from at rounds n = joined at rounds n ∙ and_is (λ i. at (suc i)) (and_more at rounds 1) n

-- a count that has risen has risen in one step
pub rises_once : (f : ℕ → ℕ) (n : ℕ) → f zero < f n → (i : ℕ) × (i < n) × (f i < f (suc i))
rises_once f zero less = absurd (omega (arith, less))
rises_once f (suc n) less = choose (nat_le (f (suc n)) (f n)) refl (rises_once f n)
  where
    choose : (b : Bool) → nat_le (f (suc n)) (f n) ≡ b → (f zero < f n → (i : ℕ) × (i < n) × (f i < f (suc i))) → (i : ℕ) × (i < suc n) × (f i < f (suc i))
    choose true e before = let most = leb-true _ _ e in let found = before (omega (arith, less, most)) in (found.0, omega (arith, found.1), found.2)
    choose false e before = (n, omega arith, omega (arith, leb-false _ _ e))

-- ---- a link

module _ (laws : LawsBelow) (sited : SitedTable) (station : IsStation sited.site) (once : Once sited.site) (is_table : IsTableOf sited.site sited.table) (link : ℕ) (there : link < links sited.site)
    (first : List Event) (flowing : Flowing) (work_first : Each IsWork first) (start : Begun laws sited station once is_table link there first flowing) where
  abbrev next : Flowing
  next = all_tried first (round flowing)

  abbrev names : Names
  names = names_at sited.site link

  abbrev lists : List (List Event) → List (List LinkEvent)
  lists some = lists_on link some next start.before

  abbrev passed : ℕ
  passed = length (of_link link flowing.state.run.sent)

  abbrev flow : Flow
  flow = flow_after names (start_of link starts_at_zero) start.is_run.events passed

  abbrev ends : List (List Event) → Ends
  ends rounds = (work_rounds (lists rounds) flow).ends

  abbrev pub UpBehind : List (List Event) → Type 0
  UpBehind some = IsUpBehind laws sited station once is_table link there first flowing work_first start some

  are_so : AreNames names
  are_so = (are_links laws sited station once).each link there

  pub up_of : (rounds : List (List Event)) → Each (Each IsWork) rounds → HasTime (length rounds) next.state.run → recovery_rounds_at_work ≤ length rounds → StaysBelowLimit sited.site link rounds next → UpBehind rounds
  up_of rounds works can long below =
      let b = behind_rounds laws sited station once is_table link there first flowing work_first start rounds works can
      in record { behind = b; opens = rounds_open link rounds next start.before works (rounds_stay laws sited station once is_table link there rounds next start.is); below = b.below below; long = long }

  long_lists : (rounds : List (List Event)) → UpBehind rounds → recovery_rounds_at_work ≤ length (lists rounds)
  long_lists rounds s = let l = s.long in let n = lists_length link rounds next start.before in omega (arith, l, n)

  -- one round
  module _ (rounds : List (List Event)) (last : List Event) (s : UpBehind rounds) (t : UpBehind (rounds ++ last ∷ [])) where
    calls : (calls : List LinkEvent) × (lists (rounds ++ last ∷ []) ≡ lists rounds ++ calls ∷ [])
    calls = lists_front link rounds last next start.before

    abbrev at : Flow
    at = work_rounds (lists rounds) flow

    then_at : work_rounds (lists (rounds ++ last ∷ [])) flow ≡ work_round calls.0 at
    then_at = ap (λ (l : List (List LinkEvent)). work_rounds l flow) calls.1 ∙ rounds_both (lists rounds) calls.0 flow

    stays : StaysAtWork names at calls.0
    stays = record {
      work = (work_front names (lists rounds) calls.0 flow (subst (λ (l : List (List LinkEvent)). AreAtWork names l flow) calls.1 t.behind.work)).1;
      opens = (each_front (Each LeavesOpen) (lists rounds) calls.0 (subst (Each (Each LeavesOpen)) calls.1 t.opens)).1;
      room = (below_front (lists rounds) calls.0 flow (subst (λ (l : List (List LinkEvent)). StayBelow l flow) calls.1 t.below)).1;
    }

    hands : (ends rounds).client.link.given ≤ (ends (rounds ++ last ∷ [])).server.link.taken
    hands =
        let over = laws.two_ends_at_work_hand_over names (start_of link starts_at_zero) start.is_run.events passed (lists rounds) calls.0 are_so start.is_run.may (rounds_begin names (lists rounds) flow s.behind.work) s.opens s.below
        (let l = long_lists rounds s in omega (arith, l)) stays.work stays.opens stays.room
        in let more = over.to_server.counts
        in let is = ap (λ (f : Flow). f.ends.server.link.taken) then_at
        in omega (arith, more, is)

  -- three rounds, in the second of which the signal says something
  module _ (rounds : List (List Event)) (first_list second_list third_list : List Event) (s : UpBehind rounds) (t : UpBehind (rounds ++ first_list ∷ [])) (u : UpBehind ((rounds ++ first_list ∷ []) ++ second_list ∷ []))
      (v : UpBehind (((rounds ++ first_list ∷ []) ++ second_list ∷ []) ++ third_list ∷ []))
      (speaks : (ends (rounds ++ first_list ∷ [])).server.link.sent < (ends ((rounds ++ first_list ∷ []) ++ second_list ∷ [])).server.link.sent) where
    abbrev one : List (List Event)
    one = rounds ++ first_list ∷ []

    abbrev two : List (List Event)
    two = one ++ second_list ∷ []

    abbrev three : List (List Event)
    three = two ++ third_list ∷ []

    told : (ends one).server.link.taken ≤ confirmed_items (ends three).client.link
    told = subst (λ (f : Flow). (ends one).server.link.taken ≤ confirmed_items f.ends.client.link) (sym (then_at two third_list u v ∙ ap (work_round (calls two third_list u v).0) (then_at one second_list t u)))
        (laws.servers_at_work_confirm names (start_of link starts_at_zero) start.is_run.events passed (lists one) (calls one second_list t u).0 (calls two third_list u v).0 are_so start.is_run.may t.behind.work t.opens t.below (long_lists one t) (stays one second_list t u)
        (subst (λ (f : Flow). StaysAtWork names f (calls two third_list u v).0) (then_at one second_list t u) (stays two third_list u v)) (subst (λ (f : Flow). (ends one).server.link.sent < f.ends.server.link.sent) (then_at one second_list t u) speaks))

    pub told_so : HasConfirmed link (good_rounds rounds next).state.run (good_rounds three next).state.run
    told_so = record {
      before = was;
      behind = up;
      confirmed = let hand = hands rounds first_list s t in let more = told in omega (arith, hand, more, client_given, client_confirmed);
    }
      where
        was : IsUpOn link (good_rounds rounds next).state.run
        was = up_on laws sited station once is_table link there (good_rounds rounds next).state.run s.behind.after s.behind.are (ups laws sited station once is_table link there first flowing work_first start rounds s)

        up : IsUpOn link (good_rounds three next).state.run
        up = up_on laws sited station once is_table link there (good_rounds three next).state.run v.behind.after v.behind.are (ups laws sited station once is_table link there first flowing work_first start three v)

        client_given : (ends rounds).client.link.given ≡ was.client.given
        client_given = ap (λ (e : Ends). e.client.link.given) (sym s.behind.ends) ∙ (ap (λ (l : LinkState). l.given) (client_is sited.site link there (good_rounds rounds next).state.run s.behind.after s.behind.are was)
            ∙ settled_given (reading_of (good_rounds rounds next).state.run.interlocking.clock) was.client)

        client_confirmed : confirmed_items (ends three).client.link ≡ confirmed_items up.client
        client_confirmed = ap (λ (e : Ends). confirmed_items e.client.link) (sym v.behind.ends) ∙ (ap confirmed_items (client_is sited.site link there (good_rounds three next).state.run v.behind.after v.behind.are up)
            ∙ settled_confirmed (reading_of (good_rounds three next).state.run.interlocking.clock) up.client)

  -- so many rounds after a moment, in which it says something
  module _ (list_at : ℕ → List Event) (rounds : List (List Event)) (each : (i : ℕ) → i ≤ 32 → UpBehind (and_more list_at rounds i)) where
    abbrev some : List (List Event)
    some = and_more list_at rounds 1

    abbrev others : List (List Event)
    others = listed (λ i. list_at (suc i)) 30

    later_calls : (calls : List (List LinkEvent)) × (lists (some ++ others) ≡ lists some ++ calls)
    later_calls = lists_two link some others next start.before

    up_some : UpBehind some
    up_some = each 1 (omega arith)

    up_all : UpBehind (some ++ others)
    up_all = subst UpBehind (and_from list_at rounds 30) (each 31 (omega arith))

    many : length later_calls.0 ≡ 30
    many =
        let a = lists_length link (some ++ others) next start.before
        in let b = lists_length link some next start.before
        in let c = count_two some others
        in let d = ap length later_calls.1
        in let e = count_two (lists some) later_calls.0
        in let n = listed_count (λ i. list_at (suc i)) 30
        in omega (arith, a, b, c, d, e, n)

    spoken_all : (ends some).server.link.sent < (ends (some ++ others)).server.link.sent
    spoken_all = subst (λ (f : Flow). (ends some).server.link.sent < f.ends.server.link.sent) (sym (ap (λ (l : List (List LinkEvent)). work_rounds l flow) later_calls.1 ∙ rounds_two (lists some) later_calls.0 flow))
        (laws.servers_at_work_speak names (start_of link starts_at_zero) start.is_run.events passed (lists some) later_calls.0 are_so start.is_run.may up_some.behind.work up_some.opens up_some.below (long_lists some up_some)
        (work_two names (lists some) later_calls.0 flow (subst (λ (l : List (List LinkEvent)). AreAtWork names l flow) later_calls.1 up_all.behind.work)).1
        (each_two (Each LeavesOpen) (lists some) later_calls.0 (subst (Each (Each LeavesOpen)) later_calls.1 up_all.opens)).1
        (below_two (lists some) later_calls.0 flow (subst (λ (l : List (List LinkEvent)). StayBelow l flow) later_calls.1 up_all.below)).1
        (omega (arith, many)))

    sent : ℕ → ℕ
    sent i = (ends (and_more list_at rounds (suc i))).server.link.sent

    rises : sent zero < sent 30
    unfolding sent
    rises = subst (λ (l : List (List Event)). (ends some).server.link.sent < (ends l).server.link.sent) (sym (and_from list_at rounds 30)) spoken_all

    found : (i : ℕ) × (i < 30) × (sent i < sent (suc i))
    found = rises_once sent 30 rises

    pub told_within : (i : ℕ) × (i < 30) × HasConfirmed link (good_rounds (and_more list_at rounds i) next).state.run (good_rounds (and_more list_at rounds (suc (suc (suc i)))) next).state.run
    unfolding sent
    told_within = by found
      where
        by : (i : ℕ) × (i < 30) × (sent i < sent (suc i)) → (i : ℕ) × (i < 30) × HasConfirmed link (good_rounds (and_more list_at rounds i) next).state.run (good_rounds (and_more list_at rounds (suc (suc (suc i)))) next).state.run
        by (i, less, more) = (i, less, told_so (and_more list_at rounds i) (list_at i) (list_at (suc i)) (list_at (suc (suc i))) (each i (omega (arith, less))) (each (suc i) (omega (arith, less))) (each (suc (suc i)) (omega (arith, less))) (each (suc (suc (suc i))) (omega (arith, less))) more)
