-- Two good rounds after the moment at which stop is given the authority of a withdrawn route has ended.
use Rattle.simulator_recovery.proofs.Words.Basics.{◌≡◌, inl, inr, ℕ, suc, ◌+◌, ◌-◌, ◌^◌, ◌<◌, ◌≤◌, List, [], ◌∷◌, ◌++◌, append_assoc, append-nil, length, map, Option, Some, None, slice_get, refl, sym, ap, subst, ◌∙◌, arith, same_Some}
use Rattle.simulator_recovery.proofs.Words.Links.{Each, reading_of, Links, seen, LinkState, confirmed_items, is_up}
use Rattle.simulator_recovery.proofs.Words.Controllers.{Aspect}
use Rattle.simulator_recovery.proofs.Words.Interlockings.{IsTableOf, IxlState, KnownSignalState, SitedTable, has_taken_stop}
use Rattle.simulator_recovery.proofs.Words.Stations.{Once, IsStation, Event, Flowing, round, round_of_time, names_at, links, Played, after, IsReached}
use Rattle.simulator_recovery.proofs.Words.Recovery.{HasGivenMore, HasConfirmed, GivesNoMore, IsGivenNoMore, IsWithdrawnFrom, NoneProceeds, IsUpOn, StaysBelowLimit, behind_time, event_of, ready_rounds, RepliesAfter, RepliesOn, HasTime, IsWork, all_tried, clocks_of, good_rounds, IsNotSetAnew, LawsBelow, Takings}
use Rattle.simulator_recovery.proofs.Lemmas.RoutesGoing.AuthorityEnds.{counts_given, goes, over as handed, replies_on, replies_within, stands_old}
use Rattle.simulator_recovery.proofs.Lemmas.RoutesGoing.AuthorityRounds.{Goes, even, even_links, held_even, held_middle, middle_gave, middle_links, stands_middle, stands_there}
use Rattle.simulator_recovery.proofs.Lemmas.RoutesGoing.AuthorityLists.{replies_last}
use Rattle.simulator_recovery.proofs.Lemmas.RoutesGoing.BetweenSignals.{gives_none}
use Rattle.simulator_recovery.proofs.Lemmas.Links.ComeUp.{Begun, begun_so, behind_rounds, links_after, rounds_open, up_on, rounds_stay}
use Rattle.simulator_recovery.proofs.Lemmas.Links.ConfirmedLinks.{confirms}
use Rattle.simulator_recovery.proofs.Lemmas.Lamps.ConfirmedStops.{confirmed_ends, still_up, not_outlived}
use Rattle.simulator_recovery.proofs.Lemmas.Rounds.LinkRounds.{after_both, after_each, round_tried}
use Rattle.simulator_recovery.proofs.Lemmas.Ground.EndCalls.{each_both}
use Rattle.simulator_recovery.proofs.Lemmas.Links.Ready.{IsUpBehind, Last, count_front, each_front, fewer_time, front_of, last_of, two_taken_behind, ups}
use Rattle.simulator_recovery.proofs.Lemmas.RoutesGoing.RepliedWalk.{Stands}
use Rattle.simulator_recovery.proofs.Lemmas.Rounds.Rounds.{IsAt, rounds_reached}
use Rattle.simulator_recovery.proofs.Lemmas.Lamps.SeenSignals.{client_same, controller_there, known_there, seen_then}
use Rattle.simulator_recovery.proofs.Lemmas.Silence.Shown.{counted_given, counted_taken}
use Rattle.simulator_recovery.proofs.Lemmas.Lamps.StopComes.{last_round}

-- given no aspect, it has none still
still_none : (one three : KnownSignalState) → one.aspect ≡ None → IsGivenNoMore one three → three.aspect ≡ None
still_none one three none (inl now) = now
still_none one three none (inr (same, number)) = same ∙ none

module _ (laws : LawsBelow) (between : List Event) (later_rounds : List (List Event)) (last one two : List Event) (flowing : Flowing) (signal : ℕ) (once : Once flowing.state.sited.site) (station : IsStation flowing.state.sited.site)
    (is_table : IsTableOf flowing.state.sited.site flowing.state.sited.table) (reached : IsReached flowing.state.sited.site flowing.state.sited.table flowing.state.run) (work : Each IsWork between)
    (works : Each (Each IsWork) (later_rounds ++ last ∷ [])) (work_one : Each IsWork one) (work_two : Each IsWork two) (can : HasTime (suc (2 + suc (length later_rounds))) flowing.state.run) (few : signal < length flowing.state.sited.site.signals)
    (long : ready_rounds ≤ suc (suc (length later_rounds))) (below : StaysBelowLimit flowing.state.sited.site signal (later_rounds ++ last ∷ one ∷ two ∷ []) (all_tried between (round flowing)))
    (none : NoneProceeds flowing.state.sited.table (good_rounds (between ∷ (later_rounds ++ last ∷ [])) flowing).state.run.interlocking.ixl signal) where
  abbrev More : Type 0
  More = HasGivenMore signal (round (good_rounds (between ∷ later_rounds) flowing)).state.run.interlocking.ixl (good_rounds (between ∷ (later_rounds ++ last ∷ [])) flowing).state.run.interlocking.ixl

  abbrev sited : SitedTable
  sited = flowing.state.sited

  abbrev next : Flowing
  next = all_tried between (round flowing)

  there : signal < links sited.site
  there = omega (arith, few)

  start : Begun laws sited station once is_table signal there between flowing
  start = begun_so laws sited station once is_table signal there between flowing refl reached work

  abbrev first : List (List Event)
  first = later_rounds ++ last ∷ []

  abbrev second : List (List Event)
  second = first ++ one ∷ []

  abbrev third : List (List Event)
  third = second ++ two ∷ []

  third_is : third ≡ later_rounds ++ last ∷ one ∷ two ∷ []
  third_is = append_assoc first (one ∷ []) (two ∷ []) ∙ append_assoc later_rounds (last ∷ []) (one ∷ two ∷ [])

  works_second : Each (Each IsWork) second
  works_second = each_both (Each IsWork) first (one ∷ []) works (work_one, tt)

  works_third : Each (Each IsWork) third
  works_third = each_both (Each IsWork) second (two ∷ []) works_second (work_two, tt)

  many_first : length first ≡ length later_rounds + 1
  many_first = count_front later_rounds last

  many_second : length second ≡ length first + 1
  many_second = count_front first one

  many_third : length third ≡ length second + 1
  many_third = count_front second two

  can_third : HasTime (length third) next.state.run
  can_third = start.later_can (length third) (subst (λ (n : ℕ). HasTime n flowing.state.run) (omega (arith, many_first, many_second, many_third)) can)

  abbrev UpBehind : List (List Event) → Type 0
  UpBehind rounds = IsUpBehind laws sited station once is_table signal there between flowing work start rounds

  up_third : UpBehind third
  up_third =
      let b = behind_rounds laws sited station once is_table signal there between flowing work start third works_third can_third
      in record {
        behind = b;
        opens = rounds_open signal third next start.before works_third (rounds_stay laws sited station once is_table signal there third next start.is);
        below = b.below (subst (λ (l : List (List Event)). StaysBelowLimit sited.site signal l next) (sym third_is) below);
        long = omega (arith, long, many_first, many_second, many_third);
      }

  can_for : (n : ℕ) → n ≤ length third → HasTime n next.state.run
  can_for n less = fewer_time n (length third) (clocks_of next.state.run) less can_third

  can_second : HasTime (length second) next.state.run
  can_second = can_for (length second) (omega (arith, many_third))

  can_first : HasTime (length first) next.state.run
  can_first = can_for (length first) (omega (arith, many_second, many_third))

  up_second : UpBehind second
  up_second = front_of laws sited station once is_table signal there between flowing work start second two works_third can_third up_third (omega (arith, long, many_first, many_second))

  up_first : UpBehind first
  up_first = front_of laws sited station once is_table signal there between flowing work start first one works_second can_second up_second (omega (arith, long, many_first))

  up_later : UpBehind later_rounds
  up_later = front_of laws sited station once is_table signal there between flowing work start later_rounds last works can_first up_first (omega (arith, long))

  -- the works of the rounds, and of the last one
  parts : Each (Each IsWork) later_rounds × Each IsWork last
  parts = each_front (Each IsWork) later_rounds last works

  can_given : HasTime (suc (length later_rounds)) next.state.run
  can_given = can_for (suc (length later_rounds)) (omega (arith, many_first, many_second, many_third))

  can_replied : HasTime (suc (length first)) next.state.run
  can_replied = can_for (suc (length first)) (omega (arith, many_second, many_third))

  abbrev before : Links
  before = links_after later_rounds next start.before

  -- the controller has taken two items before
  two_before : 2 ≤ length (seen signal before).server.taken
  two_before =
      let most = two_taken_behind laws sited station once is_table signal there between flowing work start later_rounds parts.0 (can_for (length later_rounds) (omega (arith, many_first, many_second, many_third))) long up_later
      in let same = ap (λ (l : Links). (l.ends signal).server.link.taken) up_later.behind.after_is
      in let stands = stands_old laws sited station once is_table signal few there between flowing work start later_rounds last parts.1 parts.0 can_given up_later up_first
      in let counts = laws.items_are_counted (names_at sited.site signal) (seen signal before) stands.ordered _ stands.client.at stands.server.at
      in let taken = counted_taken (seen signal before).server counts.1 stands.server.opened
      in omega (arith, most, same, taken)

  replies : More → RepliesAfter signal first one next start.before
  replies more = replies_last signal first one next start.before
      (replies_on laws sited station once is_table signal few there between flowing work start later_rounds last one parts.1 work_one parts.0 works can_given can_replied up_later up_first up_second two_before more)

  over : More → HasConfirmed signal (good_rounds first next).state.run (good_rounds third next).state.run
  over more = confirms laws sited station once is_table signal there between flowing work start first one two up_first up_second up_third (replies more)

  at : (rounds : List (List Event)) → IsAt sited (good_rounds rounds next).state
  at rounds = rounds_reached laws sited (between ∷ rounds) flowing (record { same = refl; reached = reached })

  abbrev ixl : List (List Event) → IxlState
  ixl rounds = (good_rounds rounds next).state.run.interlocking.ixl

  third_then : good_rounds third next ≡ good_rounds (one ∷ two ∷ []) (good_rounds first next)
  third_then = last_round second two next ∙ ap (good_rounds (two ∷ [])) (last_round first one next)

  abbrev Withdrawn : Type 0
  Withdrawn = IsWithdrawnFrom flowing.state.sited.table (good_rounds (between ∷ (later_rounds ++ last ∷ one ∷ two ∷ [])) flowing).state.run.interlocking.ixl signal

  -- the route isn't set anew in the last two rounds
  abbrev IsApart : Withdrawn → Type 0
  IsApart withdrawn = IsNotSetAnew withdrawn.number (one ∷ two ∷ []) (good_rounds first next)

  withdrawn_there : Withdrawn → IsWithdrawnFrom sited.table (ixl third) signal
  withdrawn_there withdrawn = subst (λ (l : List (List Event)). IsWithdrawnFrom sited.table (good_rounds l next).state.run.interlocking.ixl signal) (sym third_is) withdrawn

  abbrev still : Withdrawn → IsWithdrawnFrom sited.table (good_rounds (one ∷ two ∷ []) (good_rounds first next)).state.run.interlocking.ixl signal
  still withdrawn = record {
    number = withdrawn.number;
    row = withdrawn.row;
    route = withdrawn.route;
    is_route = (
      withdrawn.is_route.0,
      ap (λ (f : Flowing). slice_get f.state.run.interlocking.ixl.routes withdrawn.number) (sym third_then)
          ∙ (ap (λ (l : List (List Event)). slice_get (good_rounds l next).state.run.interlocking.ixl.routes withdrawn.number) third_is ∙ withdrawn.is_route.1),
    );
    entry = withdrawn.entry;
    withdrawn = withdrawn.withdrawn;
  }

  no_more : (withdrawn : Withdrawn) → IsApart withdrawn → GivesNoMore signal (ixl first) (ixl third)
  no_more withdrawn apart = subst (λ (f : Flowing). GivesNoMore signal (ixl first) f.state.run.interlocking.ixl) (sym third_then)
      (gives_none laws sited signal (one ∷ two ∷ []) (good_rounds first next) (work_one, (work_two, tt)) (at first) none (still withdrawn) apart)

  pub authority_ends : More → (withdrawn : Withdrawn) → IsApart withdrawn → ⊥
  authority_ends more withdrawn apart = confirmed_ends laws sited.site sited.table (good_rounds first next).state.run (good_rounds third next).state.run signal once station is_table (at first).reached (at third).reached few (over more) none
      (no_more withdrawn apart) (withdrawn_there withdrawn)

  -- ---- what was given within the last round, or after it

  abbrev MoreWithin : Type 0
  MoreWithin = HasGivenMore signal (good_rounds (between ∷ later_rounds) flowing).state.run.interlocking.ixl (good_rounds (between ∷ (later_rounds ++ last ∷ [])) flowing).state.run.interlocking.ixl

  abbrev RepliesThen : List (List Event) → Type 0
  RepliesThen rounds = Each (Each IsWork) (rounds ++ last ∷ []) → HasTime (suc (length (rounds ++ last ∷ []))) next.state.run → UpBehind rounds → UpBehind (rounds ++ last ∷ []) → UpBehind ((rounds ++ last ∷ []) ++ one ∷ [])
      → ready_rounds ≤ suc (length rounds) → HasGivenMore signal (good_rounds rounds next).state.run.interlocking.ixl (good_rounds (rounds ++ last ∷ []) next).state.run.interlocking.ixl
      → RepliesOn signal one (good_rounds (rounds ++ last ∷ []) next) (links_after (rounds ++ last ∷ []) next start.before)

  replies_then : Takings → (front : List (List Event)) (was : List Event) → RepliesThen (front ++ was ∷ [])
  replies_then takings front was all_work can_all up_front up_given up_replied long_more more =
      replies_within laws sited station once is_table signal few there between flowing work start front was last one was_works.1 all_works.1 work_one was_works.0 all_works.0 all_work can_front can_was can_all up_before up_front up_given up_replied two_then more takings
    where
      count_all : length ((front ++ was ∷ []) ++ last ∷ []) ≡ length (front ++ was ∷ []) + 1
      count_all = count_front (front ++ was ∷ []) last

      count_was : length (front ++ was ∷ []) ≡ length front + 1
      count_was = count_front front was

      all_works : Each (Each IsWork) (front ++ was ∷ []) × Each IsWork last
      all_works = each_front (Each IsWork) (front ++ was ∷ []) last all_work

      was_works : Each (Each IsWork) front × Each IsWork was
      was_works = each_front (Each IsWork) front was all_works.0

      can_so : (n : ℕ) → n ≤ suc (length ((front ++ was ∷ []) ++ last ∷ [])) → HasTime n next.state.run
      can_so n less = fewer_time n (suc (length ((front ++ was ∷ []) ++ last ∷ []))) (clocks_of next.state.run) less can_all

      can_front : HasTime (suc (length front)) next.state.run
      can_front = can_so (suc (length front)) (omega (arith, count_all, count_was))

      can_was : HasTime (suc (length (front ++ was ∷ []))) next.state.run
      can_was = can_so (suc (length (front ++ was ∷ []))) (omega (arith, count_all))

      up_before : UpBehind front
      up_before = front_of laws sited station once is_table signal there between flowing work start front was all_works.0 (can_so (length (front ++ was ∷ [])) (omega (arith, count_all))) up_front (omega (arith, long_more, count_was))

      two_then : 2 ≤ length (seen signal (links_after front next start.before)).server.taken
      two_then =
          let most = two_taken_behind laws sited station once is_table signal there between flowing work start front was_works.0 (can_so (length front) (omega (arith, count_all, count_was))) (omega (arith, long_more, count_was)) up_before
          in let same = ap (λ (l : Links). (l.ends signal).server.link.taken) up_before.behind.after_is
          in let stands = stands_old laws sited station once is_table signal few there between flowing work start front was was_works.1 was_works.0 can_front up_before up_front
          in let counts = laws.items_are_counted (names_at sited.site signal) (seen signal (links_after front next start.before)) stands.ordered _ stands.client.at stands.server.at
          in let taken = counted_taken (seen signal (links_after front next start.before)).server counts.1 stands.server.opened
          in omega (arith, most, same, taken)

  module _ (takings : Takings) (long_more : ready_rounds ≤ suc (length later_rounds)) (more : MoreWithin) where
    by_last : Last (length later_rounds - 1) later_rounds → RepliesThen later_rounds
    by_last l = subst RepliesThen (sym l.are) (replies_then takings l.front l.last)

    replies_there : RepliesAfter signal first one next start.before
    replies_there = replies_last signal first one next start.before (by_last (last_of (length later_rounds - 1) later_rounds (omega (arith, long_more))) works can_replied up_later up_first up_second long_more more)

    pub authority_ends_within : (withdrawn : Withdrawn) → IsApart withdrawn → ⊥
    authority_ends_within withdrawn apart = confirmed_ends laws sited.site sited.table (good_rounds first next).state.run (good_rounds third next).state.run signal once station is_table (at first).reached (at third).reached few
        (confirms laws sited station once is_table signal there between flowing work start first one two up_first up_second up_third replies_there) none (no_more withdrawn apart) (withdrawn_there withdrawn)

  -- where no aspect was given in the present connection
  up_there : IsUpOn signal (good_rounds third next).state.run
  up_there = up_on laws sited station once is_table signal there (good_rounds third next).state.run up_third.behind.after up_third.behind.are
      (ups laws sited station once is_table signal there between flowing work start third up_third)

  pub none_given_ends : (known : KnownSignalState) → slice_get (ixl first).known_signals signal ≡ Some known → known.aspect ≡ None → (withdrawn : Withdrawn) → IsApart withdrawn → ⊥
  none_given_ends known known_at unaspected withdrawn apart =
      let is = seen_then laws sited.site sited.table once station is_table (good_rounds third next).state.run (at third).reached
      in let after = known_there sited.site sited.table (good_rounds third next).state.run is.0 is.1 signal few
      in let controller = controller_there sited.site sited.table (good_rounds third next).state.run is.0 is.1 signal few
      in let same = client_same laws sited.site sited.table (good_rounds third next).state.run is.0 is.1 signal there up_there after.0 after.1 controller.0 controller.1
      in let still = still_none known after.0 unaspected (no_more withdrawn apart known after.0 known_at after.1)
      in not_outlived sited.site sited.table (good_rounds third next).state.run signal after.0 (at third).reached (withdrawn_there withdrawn) after.1 (
        ap (λ (l : LinkState). is_up l.phase) (sym same) ∙ still_up (reading_of (good_rounds third next).state.run.interlocking.clock) up_there.client up_there.client_up,
        ap (λ (aspect : Option Aspect). has_taken_stop aspect after.0.number (confirmed_items after.0.client.link)) still,
      )

  -- ---- what was given before the last of what comes after the round

  abbrev connection : ℕ
  connection = (handed laws sited station once is_table signal few there between flowing work start later_rounds last parts.1 parts.0 can_given up_later up_first).connection

  g : Goes laws sited station once is_table signal few connection last (good_rounds later_rounds next) before
  g = goes laws sited station once is_table signal few there between flowing work start later_rounds last parts.1 parts.0 can_given up_later up_first

  abbrev Counts : Links → Type 0
  Counts here = ((seen signal here).client.link.given ≡ length (seen signal here).client.given) × (length (seen signal here).client.given < 2 ^ 31)

  counts_at : (world : Played) (here : Links) → Stands laws sited station once signal few connection world here → Counts here
  counts_at world here st = (
    counted_given (seen signal here).client (laws.items_are_counted (names_at sited.site signal) (seen signal here) st.ordered connection st.client.at st.server.at).0 st.client.opened,
    (laws.items_are_counted_few (names_at sited.site signal) (seen signal here) st.ordered connection st.client.at st.server.at).0.given,
  )

  abbrev Even : Played
  Even = even laws sited station once is_table signal few connection last (good_rounds later_rounds next) before g

  even_is : (round (good_rounds later_rounds next)).state ≡ Even
  even_is = round_tried [] (good_rounds later_rounds next) ∙ ap (λ (l : List Event). after_each l (after (good_rounds later_rounds next).state (round_of_time (good_rounds later_rounds next).state.sited.site))) (append-nil (map event_of (behind_time (good_rounds later_rounds next))))

  module _ (front rest : List Event) (are : last ≡ front ++ rest) (behind : KnownSignalState) (behind_there : slice_get (all_tried front (round (good_rounds later_rounds next))).state.run.interlocking.ixl.known_signals signal ≡ Some behind) where
    abbrev here : Links
    here = middle_links laws sited station once is_table signal few connection last (good_rounds later_rounds next) before g front rest are

    middle_world_is : (all_tried front (round (good_rounds later_rounds next))).state ≡ after_each front Even
    middle_world_is = round_tried front (good_rounds later_rounds next)
        ∙ after_both (map event_of (behind_time (good_rounds later_rounds next))) front (after (good_rounds later_rounds next).state (round_of_time (good_rounds later_rounds next).state.sited.site))

    middle_counts : Counts here
    middle_counts = counts_at (after_each front Even) here (stands_middle laws sited station once is_table signal few connection last (good_rounds later_rounds next) before g front rest are)

    middle_given : (seen signal here).client.link.given ≡ behind.client.link.given
    middle_given =
        let k = counts_given laws sited station once is_table signal few there between flowing work start (after_each front Even) here (held_middle laws sited station once is_table signal few connection last (good_rounds later_rounds next) before g front rest are)
        in k.2 ∙ ap (λ (s : KnownSignalState). s.client.link.given) (same_Some k.0 behind (sym k.1 ∙ (ap (λ (w : Played). slice_get w.run.interlocking.ixl.known_signals signal) (sym middle_world_is) ∙ behind_there)))

    pub few_given : behind.client.link.given < 2 ^ 31
    few_given = let c = middle_counts in let e = middle_given in omega (arith, c.0, c.1, e)

    pub gave_before : (was : KnownSignalState) → slice_get (round (good_rounds later_rounds next)).state.run.interlocking.ixl.known_signals signal ≡ Some was → was.client.link.given ≤ behind.client.link.given
    gave_before was was_there =
        let c = middle_counts
        in let e = middle_given
        in let b = counts_at Even (even_links laws sited station once is_table signal few connection last (good_rounds later_rounds next) before g) (stands_there laws sited station once is_table signal few connection last (good_rounds later_rounds next) before g)
        in let k = counts_given laws sited station once is_table signal few there between flowing work start Even (even_links laws sited station once is_table signal few connection last (good_rounds later_rounds next) before g)
        (held_even laws sited station once is_table signal few connection last (good_rounds later_rounds next) before g)
        in let n = k.2 ∙ ap (λ (s : KnownSignalState). s.client.link.given) (same_Some k.0 was (sym k.1 ∙ (ap (λ (w : Played). slice_get w.run.interlocking.ixl.known_signals signal) (sym even_is) ∙ was_there)))
        in let m = middle_gave laws sited station once is_table signal few connection last (good_rounds later_rounds next) before g front rest are
        in omega (arith, c.0, e, b.0, n, m)
