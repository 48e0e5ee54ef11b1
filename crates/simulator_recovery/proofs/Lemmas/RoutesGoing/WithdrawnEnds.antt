-- Authority ends within 32 good rounds of any moment: then the signal has confirmed what it was given.
use Rattle.simulator_recovery.proofs.Words.Basics.{◌≡◌, ℕ, zero, suc, ◌≤◌, ◌<◌, Bool, true, false, nat_le, List, [], ◌∷◌, ◌++◌, length, Some, slice_get, refl, sym, ap, subst, ◌∙◌, arith, leb-false, leb-true}
use Rattle.simulator_recovery.proofs.Words.Links.{Each, Links}
use Rattle.simulator_recovery.proofs.Words.Interlockings.{IsTableOf, IxlState, RouteState, SitedTable, Phase}
use Rattle.simulator_recovery.proofs.Words.Stations.{Once, IsStation, Event, Flowing, round, links, IsReached}
use Rattle.simulator_recovery.proofs.Words.Recovery.{HasConfirmed, GivesNoMore, IsWithdrawnFrom, NoneProceeds, StayBelowOn, StaysBelowLimit, link_rounds, HasTime, IsWork, all_tried, clocks_of, good_rounds, IsNotSetAnew, NoneSets, told_rounds, LawsBelow}
use Rattle.simulator_recovery.proofs.Lemmas.Lamps.ConfirmedStops.{none_proceeds, confirmed_ends}
use Rattle.simulator_recovery.proofs.Lemmas.RoutesGoing.BetweenSignals.{rests_keeps, route_kept, was_withdrawn, gives_none}
use Rattle.simulator_recovery.proofs.Lemmas.Lamps.Cancelled.{OfRoute}
use Rattle.simulator_recovery.proofs.Lemmas.Links.ComeUp.{begun_so}
use Rattle.simulator_recovery.proofs.Lemmas.Lamps.GivenNoMore.{RestsSo}
use Rattle.simulator_recovery.proofs.Lemmas.Points.MovesAnswered.{rounds_both}
use Rattle.simulator_recovery.proofs.Lemmas.Links.Ready.{fewer_time}
use Rattle.simulator_recovery.proofs.Lemmas.Rounds.Rounds.{IsAt, rounds_reached}
use Rattle.simulator_recovery.proofs.Lemmas.Lamps.StopComes.{last_round}
use Rattle.simulator_recovery.proofs.Lemmas.Windows.WindowsAlone.{below_two}
use Rattle.simulator_recovery.proofs.Lemmas.Windows.WindowsSpoken.{count_two, each_two}
use Rattle.simulator_recovery.proofs.Lemmas.RoutesGoing.WithdrawnTold.{and_count, and_is, and_more, and_whole, and_work, each_nth, listed, listed_first, nth, told_within, up_of}

-- the least and the greatest of some counts
the_least : (i : ℕ) → i ≤ 0 → 0 ≡ i
the_least i less = omega (arith, less)

the_greatest : (i m : ℕ) → i ≤ suc m → nat_le i m ≡ false → suc m ≡ i
the_greatest i m less e = let more = leb-false _ _ e in omega (arith, less, more)

-- what comes after one of some rounds doesn't set the route anew
none_nth : (number : ℕ) (more : List (List Event)) (f : Flowing) → IsNotSetAnew number more f → (i : ℕ) → NoneSets number (nth more i) (round (good_rounds (listed (nth more) i) f))
none_nth number [] f apart i = tt
none_nth number (one ∷ more) f apart zero = apart.0
none_nth number (one ∷ more) f apart (suc i) = subst (λ (l : List (List Event)). NoneSets number (nth more i) (round (good_rounds l f))) (sym (listed_first (nth (one ∷ more)) i)) (none_nth number more (all_tried one (round f)) apart.1 i)

module _ (laws : LawsBelow) (signals : LawsBelow) (between : List Event) (later_rounds more : List (List Event)) (flowing : Flowing) (signal : ℕ) (once : Once flowing.state.sited.site) (station : IsStation flowing.state.sited.site)
    (is_table : IsTableOf flowing.state.sited.site flowing.state.sited.table) (reached : IsReached flowing.state.sited.site flowing.state.sited.table flowing.state.run) (work : Each IsWork between) (all_works : Each (Each IsWork) (later_rounds ++ more))
    (can : HasTime (suc (length (later_rounds ++ more))) flowing.state.run) (few : signal < length flowing.state.sited.site.signals) (long : link_rounds ≤ suc (length later_rounds)) (enough : told_rounds ≤ length more)
    (below : StaysBelowLimit flowing.state.sited.site signal (later_rounds ++ more) (all_tried between (round flowing)))
    (withdrawn : IsWithdrawnFrom flowing.state.sited.table (good_rounds (between ∷ later_rounds) flowing).state.run.interlocking.ixl signal) where
  abbrev sited : SitedTable
  sited = flowing.state.sited

  abbrev next : Flowing
  next = all_tried between (round flowing)

  abbrev behind : ℕ → Flowing
  behind i = good_rounds (between ∷ and_more (nth more) later_rounds i) flowing

  abbrev ixl : ℕ → IxlState
  ixl i = (behind i).state.run.interlocking.ixl

  there : signal < links sited.site
  there = omega (arith, few)

  works : Each (Each IsWork) later_rounds × Each (Each IsWork) more
  works = each_two (Each IsWork) later_rounds more all_works

  at : (i : ℕ) → IsAt sited (behind i).state
  at i = rounds_reached laws sited (between ∷ and_more (nth more) later_rounds i) flowing (record { same = refl; reached = reached })

  -- ---- its link

  abbrev Below : ℕ → Links → Type 0
  Below i before = StayBelowOn signal (and_more (nth more) later_rounds i) next before

  below_down : (before : Links) (m i : ℕ) → i ≤ m → Below m before → Below i before
  below_down before zero i less so = subst (λ (k : ℕ). Below k before) (the_least i less) so
  below_down before (suc m) i less so = choose (nat_le i m) refl (λ fewer. below_down before m i fewer (below_two signal (and_more (nth more) later_rounds m) (nth more m ∷ []) next before so))
    where
      choose : (b : Bool) → nat_le i m ≡ b → (i ≤ m → Below i before) → Below i before
      choose true e on = on (leb-true _ _ e)
      choose false e on = subst (λ (k : ℕ). Below k before) (the_greatest i m less e) so

  below_at : (i : ℕ) → i ≤ length more → StaysBelowLimit sited.site signal (and_more (nth more) later_rounds i) next
  below_at i less before are = below_down before (length more) i less (subst (λ (l : List (List Event)). StayBelowOn signal l next before) (sym (and_whole later_rounds more)) (below before are))

  told : (i : ℕ) × (i < 30) × HasConfirmed signal (behind i).state.run (behind (suc (suc (suc i)))).state.run
  told =
      let start = begun_so laws sited station once is_table signal there between flowing refl reached work
      in told_within laws sited station once is_table signal there between flowing work start (nth more) later_rounds (λ i less.
      let whole = count_two later_rounds more
      in let count = and_count (nth more) later_rounds i
      in let later_can = start.later_can (length (and_more (nth more) later_rounds i))
      (fewer_time (suc (length (and_more (nth more) later_rounds i))) (suc (length (later_rounds ++ more))) (clocks_of flowing.state.run) (omega (arith, whole, count, less, enough)) can)
      in up_of laws sited station once is_table signal there between flowing work start (and_more (nth more) later_rounds i) (and_work (nth more) later_rounds (each_nth IsWork more works.1) works.0 i) later_can
      (omega (arith, long, count)) (below_at i (omega (arith, less, enough))))

  -- ---- a route that is withdrawn after them, and isn't set anew in them

  module _ (still : IsWithdrawnFrom flowing.state.sited.table (good_rounds (between ∷ (later_rounds ++ more)) flowing).state.run.interlocking.ixl signal) (apart : IsNotSetAnew still.number more (good_rounds (between ∷ later_rounds) flowing)) where
    one_more : (i : ℕ) → behind (suc i) ≡ good_rounds (nth more i ∷ []) (behind i)
    one_more i = last_round (between ∷ and_more (nth more) later_rounds i) (nth more i) flowing

    -- so far
    so_far : (i : ℕ) → behind i ≡ good_rounds (listed (nth more) i) (good_rounds (between ∷ later_rounds) flowing)
    so_far i = ap (λ (l : List (List Event)). good_rounds (between ∷ l) flowing) (and_is (nth more) later_rounds i) ∙ rounds_both (between ∷ later_rounds) (listed (nth more) i) flowing

    set_at : (i : ℕ) → NoneSets still.number (nth more i) (round (behind i))
    set_at i = subst (λ (f : Flowing). NoneSets still.number (nth more i) (round f)) (sym (so_far i)) (none_nth still.number more (good_rounds (between ∷ later_rounds) flowing) apart i)

    abbrev WithdrawnAt : ℕ → Type 0
    WithdrawnAt i = (route : RouteState) × (slice_get (ixl i).routes still.number ≡ Some route) × (route.phase ≡ Phase.Withdrawn)

    rests : (i : ℕ) → OfRoute still.number RestsSo (ixl i).routes []
    rests zero = λ route e. none_proceeds sited.site sited.table (behind zero).state.run signal (at zero).reached withdrawn still.number still.row route (still.is_route.0, e) still.entry
    rests (suc i) = subst (λ (f : Flowing). OfRoute still.number RestsSo f.state.run.interlocking.ixl.routes []) (sym (one_more i))
        (route_kept laws sited still.number RestsSo rests_keeps (nth more i ∷ []) (behind i) (each_nth IsWork more works.1 i, tt) (set_at i, tt) (at i) (rests i))

    -- it was so one round before
    one_less : (i : ℕ) → WithdrawnAt (suc i) → WithdrawnAt i
    one_less i is = was_withdrawn laws sited still.number (nth more i ∷ []) (behind i) (each_nth IsWork more works.1 i, tt) (set_at i, tt) (at i) (rests i) is.0
        (ap (λ (f : Flowing). slice_get f.state.run.interlocking.ixl.routes still.number) (sym (one_more i)) ∙ is.1) is.2

    -- and before
    down : (m i : ℕ) → i ≤ m → WithdrawnAt m → WithdrawnAt i
    down zero i less is = subst WithdrawnAt (the_least i less) is
    down (suc m) i less is = choose (nat_le i m) refl (λ fewer. down m i fewer (one_less m is))
      where
        choose : (b : Bool) → nat_le i m ≡ b → (i ≤ m → WithdrawnAt i) → WithdrawnAt i
        choose true e on = on (leb-true _ _ e)
        choose false e on = subst WithdrawnAt (the_greatest i m less e) is

    is_so : (i : ℕ) → i ≤ length more → WithdrawnAt i
    is_so i less = down (length more) i less
        (still.route, ap (λ (l : List (List Event)). slice_get (good_rounds (between ∷ l) flowing).state.run.interlocking.ixl.routes still.number) (and_whole later_rounds more) ∙ still.is_route.1, still.withdrawn)

    from_it : (i : ℕ) → i ≤ length more → IsWithdrawnFrom sited.table (ixl i) signal
    from_it i less = let is = is_so i less in record { number = still.number; row = still.row; route = is.0; is_route = (still.is_route.0, is.1); entry = still.entry; withdrawn = is.2 }

    none : (i : ℕ) → i ≤ length more → NoneProceeds sited.table (ixl i) signal
    none i less = none_proceeds sited.site sited.table (behind i).state.run signal (at i).reached (from_it i less)

    -- three rounds more
    abbrev three : ℕ → List (List Event)
    three i = nth more i ∷ nth more (suc i) ∷ nth more (suc (suc i)) ∷ []

    two_more : (i : ℕ) → behind (suc (suc i)) ≡ good_rounds (nth more i ∷ nth more (suc i) ∷ []) (behind i)
    two_more i = one_more (suc i) ∙ ap (good_rounds (nth more (suc i) ∷ [])) (one_more i)

    three_more : (i : ℕ) → behind (suc (suc (suc i))) ≡ good_rounds (three i) (behind i)
    three_more i = one_more (suc (suc i)) ∙ ap (good_rounds (nth more (suc (suc i)) ∷ [])) (two_more i)

    abbrev behind_three : (i : ℕ) → suc (suc (suc i)) ≤ length more → IsWithdrawnFrom sited.table (good_rounds (three i) (behind i)).state.run.interlocking.ixl signal
    behind_three i less = record {
      number = still.number;
      row = still.row;
      route = (is_so (suc (suc (suc i))) less).0;
      is_route = (still.is_route.0, ap (λ (f : Flowing). slice_get f.state.run.interlocking.ixl.routes still.number) (sym (three_more i)) ∙ (is_so (suc (suc (suc i))) less).1);
      entry = still.entry;
      withdrawn = (is_so (suc (suc (suc i))) less).2;
    }

    no_more : (i : ℕ) → suc (suc (suc i)) ≤ length more → GivesNoMore signal (ixl i) (ixl (suc (suc (suc i))))
    no_more i less = subst (λ (f : Flowing). GivesNoMore signal (ixl i) f.state.run.interlocking.ixl) (sym (three_more i))
        (gives_none laws sited signal (three i) (behind i) (works_at i, (works_at (suc i), (works_at (suc (suc i)), tt))) (at i) (none i (omega (arith, less))) (behind_three i less) (set_at i, (then_set (suc i) (nth more i ∷ []) (one_more i), (then_set (suc (suc i)) (nth more i ∷ nth more (suc i) ∷ []) (two_more i), tt))))
      where
        works_at : (k : ℕ) → Each IsWork (nth more k)
        works_at = each_nth IsWork more works.1

        then_set : (k : ℕ) (rounds : List (List Event)) → behind k ≡ good_rounds rounds (behind i) → NoneSets still.number (nth more k) (round (good_rounds rounds (behind i)))
        then_set k rounds is = subst (λ (f : Flowing). NoneSets still.number (nth more k) (round f)) is (set_at k)

    pub ends_told : ⊥
    ends_told = by told
      where
        by : (i : ℕ) × (i < 30) × HasConfirmed signal (behind i).state.run (behind (suc (suc (suc i)))).state.run → ⊥
        by (i, less, confirmed) =
            let few_more : suc (suc (suc i)) ≤ length more = omega (arith, less, enough)
            in confirmed_ends signals sited.site sited.table (behind i).state.run (behind (suc (suc (suc i)))).state.run signal once station is_table (at i).reached (at (suc (suc (suc i)))).reached few confirmed
            (none i (omega (arith, less, enough))) (no_more i few_more) (from_it (suc (suc (suc i))) few_more)
