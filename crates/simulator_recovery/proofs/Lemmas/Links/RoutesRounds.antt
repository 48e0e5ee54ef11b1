-- From the good round on in which a link is ready its client is up after each event of the rounds that follow.
use Rattle.simulator_recovery.proofs.Words.Basics.{◌≡◌, ℕ, suc, ◌+◌, ◌<◌, ◌≤◌, true, List, [], ◌∷◌, ◌++◌, append_assoc, length, Some, refl, sym, ap, subst, ◌∙◌, arith, length-append}
use Rattle.simulator_recovery.proofs.Words.Links.{HandOver, Each, started, Links, LinksEvent, run_links, run_on, seen, start_of, AreNames, Ordered, is_open}
use Rattle.simulator_recovery.proofs.Words.Interlockings.{IsTableOf, SitedTable}
use Rattle.simulator_recovery.proofs.Words.Stations.{Once, IsStation, Event, Flowing, round, names_at, starts_at_zero, links, Played, after, IsReached}
use Rattle.simulator_recovery.proofs.Words.Recovery.{StayBelowOn, StaysBelowLimit, all_events_tried, calls_of_round, links_behind, time_of_round, IsReadyOn, ready_rounds, EachBehind, IsClientUp, Throughout, events_of_round, HasTime, IsWork, all_tried, clocks_of, good_rounds, LawsBelow}
use Rattle.simulator_recovery.proofs.Lemmas.Talk.ClientLinks.{up_open}
use Rattle.simulator_recovery.proofs.Lemmas.Links.ComeUp.{Begun, begun_so, behind_rounds, links_after, rounds_open, rounds_stay}
use Rattle.simulator_recovery.proofs.Lemmas.Rounds.LinkRounds.{Followed, HasThese, after_each, all_followed, are_links, links_both, round_tried, then_followed}
use Rattle.simulator_recovery.proofs.Lemmas.Ground.EndCalls.{each_both}
use Rattle.simulator_recovery.proofs.Lemmas.Links.Ready.{IsUpBehind, all_over, count_front, fewer_time, front_of, links_ready, ups}
use Rattle.simulator_recovery.proofs.Lemmas.Rounds.Rounds.{IsAt, rounds_reached, tried_reached}
use Rattle.simulator_recovery.proofs.Lemmas.Links.RoutesLinks.{InOneAt, ready_some, up_between}
use Rattle.simulator_recovery.proofs.Lemmas.Lamps.StopComes.{last_round}
use Rattle.simulator_recovery.proofs.Lemmas.Windows.WindowsAlone.{below_two}
use Rattle.simulator_recovery.proofs.Lemmas.Talk.Standing.{stand_by_counts}

-- ---- rounds, as events of the links

-- events at its links led through rounds
record FollowsRounds (sited : SitedTable) (rounds : List (List Event)) (flowing : Flowing) (before : Links) : Type 0 where
  events : List LinksEvent
  followed : Followed sited events before (good_rounds rounds flowing).state
  leads : run_links events before ≡ links_after rounds flowing before

links_last : (rounds : List (List Event)) (last : List Event) (flowing : Flowing) (before : Links) → links_after (rounds ++ last ∷ []) flowing before ≡ links_behind last (good_rounds rounds flowing) (links_after rounds flowing before)
links_last [] last flowing before = refl
links_last (first ∷ rounds) last flowing before = links_last rounds last (all_tried first (round flowing)) (links_behind first flowing before)

-- the events of a round are its time, and its calls
round_links : (between : List Event) (flowing : Flowing) (before : Links) → run_links (all_events_tried (events_of_round between flowing) flowing.state) before ≡ links_behind between flowing before
round_links between flowing before = links_both (time_of_round flowing) (calls_of_round between flowing) before

module _ (laws : LawsBelow) (sited : SitedTable) (station : IsStation sited.site) (once : Once sited.site) where
  follows_rounds : (rounds : List (List Event)) (flowing : Flowing) (before : Links) → HasThese sited flowing.state before → FollowsRounds sited rounds flowing before
  follows_rounds [] flowing before has = record { events = []; followed = record { may = tt; has = has }; leads = refl }
  follows_rounds (between ∷ later_rounds) flowing before has = joined (follows_rounds later_rounds next (links_behind between flowing before) next_has)
    where
      next : Flowing
      next = all_tried between (round flowing)

      one_events : List LinksEvent
      one_events = all_events_tried (events_of_round between flowing) flowing.state

      one : Followed sited one_events before next.state
      one = subst (Followed sited one_events before) (sym (round_tried between flowing)) (all_followed laws sited station once (events_of_round between flowing) flowing.state before has)

      next_has : HasThese sited next.state (links_behind between flowing before)
      next_has = subst (HasThese sited next.state) (round_links between flowing before) one.has

      joined : FollowsRounds sited later_rounds next (links_behind between flowing before) → FollowsRounds sited (between ∷ later_rounds) flowing before
      joined rest = record {
        events = one_events ++ rest.events;
        followed = then_followed laws sited station once one_events rest.events before next.state (good_rounds later_rounds next).state one
            (subst (λ (l : Links). Followed sited rest.events l (good_rounds later_rounds next).state) (sym (round_links between flowing before)) rest.followed);
        leads = links_both one_events rest.events before ∙ (ap (run_links rest.events) (round_links between flowing before) ∙ rest.leads);
      }

-- ---- each event of a list

each_behind_of : (holds : Played → Type 0) (events : List Event) (world : Played) → ((one other : List Event) → one ++ other ≡ events → holds (after_each one world)) → EachBehind holds events world
each_behind_of holds [] world so = tt
each_behind_of holds (first ∷ others) world so = (so (first ∷ []) others refl, each_behind_of holds others (after world first) (λ one other e. so (first ∷ one) other (ap (λ (l : List Event). first ∷ l) e)))

-- ---- one link, in one more round

module _ (laws : LawsBelow) (sited : SitedTable) (station : IsStation sited.site) (once : Once sited.site) (is_table : IsTableOf sited.site sited.table) (link : ℕ) (there : link < links sited.site)
    (first : List Event) (flowing : Flowing) (work_first : Each IsWork first) (start : Begun laws sited station once is_table link there first flowing) where
  abbrev next : Flowing
  next = all_tried first (round flowing)

  each_reached : (events : List Event) (world : Played) → IsAt sited world → IsAt sited (after_each events world)
  each_reached [] world is = is
  each_reached (one ∷ others) world is = each_reached others (after world one) (tried_reached laws sited world one is)

  abbrev Behind : List (List Event) → Type 0
  Behind rounds = IsUpBehind laws sited station once is_table link there first flowing work_first start rounds

  abbrev named : AreNames (names_at sited.site link)
  named = (are_links laws sited station once).each link there

  before_ordered : Ordered (names_at sited.site link) (seen link start.before)
  before_ordered = subst (Ordered (names_at sited.site link)) start.is_run.same
      (laws.every_run_keeps_order (names_at sited.site link) start.is_run.events (started (names_at sited.site link) (start_of link starts_at_zero)) named (laws.starts_in_time (names_at sited.site link) (start_of link starts_at_zero) named)
      (laws.every_event_keeps_order_starts (names_at sited.site link) (start_of link starts_at_zero)) start.is_run.may)

  module _ (front : List (List Event)) (last : List Event) (s : Behind front) (t : Behind (front ++ last ∷ [])) (ready : IsReadyOn sited.site link (good_rounds front next).state.run) where
    abbrev here : Flowing
    here = good_rounds front next

    abbrev old : Links
    old = links_after front next start.before

    there_then : FollowsRounds sited front next start.before
    there_then = follows_rounds laws sited station once front next start.before start.has

    has : HasThese sited here.state old
    has = subst (HasThese sited here.state) there_then.leads there_then.followed.has

    ordered : Ordered (names_at sited.site link) (seen link old)
    ordered = subst (λ (l : Links). Ordered (names_at sited.site link) (seen link l)) there_then.leads (subst (Ordered (names_at sited.site link)) (sym (laws.each_link_sees_its_events_run link there_then.events start.before))
        (laws.every_run_keeps_order (names_at sited.site link) (run_on link there_then.events start.before) (seen link start.before) named (start.has.timely.each link there) before_ordered
        (laws.each_link_sees_its_events_may_run (links sited.site) (names_at sited.site) there_then.events start.before (are_links laws sited station once) start.has.timely there_then.followed.may link there)))

    at_here : IsAt sited here.state
    at_here = rounds_reached laws sited front next start.is

    over : HandOver (seen link s.behind.after) (seen link t.behind.after)
    over = all_over laws sited station once is_table link there first flowing work_first start front last s t

    new_is : t.behind.after ≡ run_links (all_events_tried (events_of_round last here) here.state) old
    new_is = t.behind.after_is ∙ (links_last front last next start.before ∙ sym (round_links last here old))

    in_one : InOneAt laws laws sited station once (λ world reached. stand_by_counts sited.site sited.table world station reached) link there over.connection (seen link old) (seen link (run_links (all_events_tried (events_of_round last here) here.state) old))
    in_one = record {
      client = subst (λ (l : Links). (seen link l).client.connection ≡ Some over.connection) s.behind.after_is over.old_client;
      server = subst (λ (l : Links). (seen link l).server.connection ≡ Some over.connection) s.behind.after_is over.old_server;
      new_client = subst (λ (l : Links). (seen link l).client.connection ≡ Some over.connection) new_is over.new_client;
      new_server = subst (λ (l : Links). (seen link l).server.connection ≡ Some over.connection) new_is over.new_server;
      opened = opened_old;
      new_opened = subst (λ (l : Links). is_open (seen link l).client.link.phase ≡ true) new_is (up_open _ (ups laws sited station once is_table link there first flowing work_first start (front ++ last ∷ []) t).0);
      some = ready_some sited.site station here.state.run has.whole (stand_by_counts sited.site sited.table here.state.run station at_here.reached) link there old has.are opened_old ready.client ready.there ready.client_ready;
    }
      where
        opened_old : is_open (seen link old).client.link.phase ≡ true
        opened_old = subst (λ (l : Links). is_open (seen link l).client.link.phase ≡ true) s.behind.after_is (up_open _ (ups laws sited station once is_table link there first flowing work_first start front s).0)

    up_in_round : EachBehind (λ world. IsClientUp link world.run) (events_of_round last here) here.state
    up_in_round = each_behind_of (λ world. IsClientUp link world.run) (events_of_round last here) here.state (λ one other e.
        up_between laws laws sited station once (λ world reached. stand_by_counts sited.site sited.table world station reached) link there one other here.state old over.connection has ordered
        (each_reached one here.state at_here).reached
        (subst (λ (events : List Event). InOneAt laws laws sited station once (λ world reached. stand_by_counts sited.site sited.table world station reached) link there over.connection (seen link old) (seen link (run_links (all_events_tried events here.state) old))) (sym e) in_one))

-- ---- and in as many as there are

module _ (laws : LawsBelow) (between : List Event) (flowing : Flowing) (link : ℕ) (once : Once flowing.state.sited.site) (station : IsStation flowing.state.sited.site)
    (is_table : IsTableOf flowing.state.sited.site flowing.state.sited.table) (reached : IsReached flowing.state.sited.site flowing.state.sited.table flowing.state.run) (work : Each IsWork between) (there : link < links flowing.state.sited.site) where
  abbrev sited : SitedTable
  sited = flowing.state.sited

  abbrev begun : Flowing
  begun = all_tried between (round flowing)

  begins : Begun laws sited station once is_table link there between flowing
  begins = begun_so laws sited station once is_table link there between flowing refl reached work

  one_more : (later_rounds : List (List Event)) (last : List Event) → Each (Each IsWork) later_rounds → Each IsWork last → HasTime (suc (length (later_rounds ++ last ∷ []))) flowing.state.run → ready_rounds ≤ suc (length later_rounds)
      → StaysBelowLimit sited.site link (later_rounds ++ last ∷ []) begun → EachBehind (λ world. IsClientUp link world.run) (events_of_round last (good_rounds later_rounds begun)) (good_rounds later_rounds begun).state
  one_more later_rounds last works last_work can long below = up_in_round laws sited station once is_table link there between flowing work begins later_rounds last s t is_ready
    where
      rounds : List (List Event)
      rounds = later_rounds ++ last ∷ []

      all_work : Each (Each IsWork) rounds
      all_work = each_both (Each IsWork) later_rounds (last ∷ []) works (last_work, tt)

      count : length rounds ≡ length later_rounds + 1
      count = count_front later_rounds last

      later_can : HasTime (length rounds) begun.state.run
      later_can = begins.later_can (length rounds) can

      t : IsUpBehind laws sited station once is_table link there between flowing work begins rounds
      t = let b = behind_rounds laws sited station once is_table link there between flowing work begins rounds all_work later_can in record {
        behind = b;
        opens = rounds_open link rounds begun begins.before all_work (rounds_stay laws sited station once is_table link there rounds begun begins.is);
        below = b.below below;
        long = let c = count in omega (arith, long, c);
      }

      s : IsUpBehind laws sited station once is_table link there between flowing work begins later_rounds
      s = front_of laws sited station once is_table link there between flowing work begins later_rounds last all_work later_can t (omega (arith, long))

      is_ready : IsReadyOn sited.site link (good_rounds later_rounds begun).state.run
      is_ready = links_ready laws between later_rounds flowing link once station is_table reached work works
          (fewer_time (suc (length later_rounds)) (suc (length rounds)) (clocks_of flowing.state.run) (let c = count in omega (arith, c)) can) there long (λ before are. below_two link later_rounds (last ∷ []) begun before (below before are))

  pub up_throughout : (later_rounds more : List (List Event)) → Each (Each IsWork) later_rounds → Each (Each IsWork) more → HasTime (suc (length (later_rounds ++ more))) flowing.state.run → ready_rounds ≤ suc (length later_rounds)
      → StaysBelowLimit sited.site link (later_rounds ++ more) begun → Throughout (λ world. IsClientUp link world.run) more (good_rounds later_rounds begun)
  up_throughout later_rounds [] works more_works can long below = tt
  up_throughout later_rounds (first ∷ more) works more_works can long below = (
    one_more later_rounds first works more_works.0 (fewer_time (suc (length (later_rounds ++ first ∷ []))) (suc (length (later_rounds ++ first ∷ more))) (clocks_of flowing.state.run) fewer can) long
        (λ before are. below_two link (later_rounds ++ first ∷ []) more begun before (subst (λ (l : List (List Event)). StayBelowOn link l begun before) (sym joined) (below before are))),
    subst (Throughout (λ world. IsClientUp link world.run) more) next_is (up_throughout (later_rounds ++ first ∷ []) more (each_both (Each IsWork) later_rounds (first ∷ []) works (more_works.0, tt)) more_works.1
        (subst (λ (l : List (List Event)). HasTime (suc (length l)) flowing.state.run) (sym joined) can) (let count = count_front later_rounds first in omega (arith, count, long))
        (subst (λ (l : List (List Event)). StaysBelowLimit sited.site link l begun) (sym joined) below)),
  )
    where
      joined : (later_rounds ++ first ∷ []) ++ more ≡ later_rounds ++ first ∷ more
      joined = append_assoc later_rounds (first ∷ []) more

      next_is : good_rounds (later_rounds ++ first ∷ []) begun ≡ all_tried first (round (good_rounds later_rounds begun))
      next_is = last_round later_rounds first begun

      fewer : suc (length (later_rounds ++ first ∷ [])) ≤ suc (length (later_rounds ++ first ∷ more))
      fewer = let count = count_front later_rounds first in let all = length-append later_rounds (first ∷ more) in omega (arith, count, all)
