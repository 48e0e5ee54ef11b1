-- Where the interlocking gives stop to a signal after a good round, its authority has ended two rounds later.
use Rattle.simulator_recovery.proofs.Words.Basics.{◌≡◌, ◌⊎◌, inl, inr, ℕ, suc, ◌+◌, ◌*◌, ◌<◌, ◌≤◌, false, List, [], ◌∷◌, ◌++◌, append-nil, length, map, Some, slice_get, refl, sym, ap, subst, ◌∙◌, arith, same_Some}
use Rattle.simulator_recovery.proofs.Words.Links.{AreUp, Flow, Accepts, StaysAtWork, in_round, AreAtWork, HandOver, HaveRoom, IsAtWork, LeavesOpen, StayBelow, work_round, work_rounds, settled, Each, end_later, reading_of, Event as LinkEvent, run, started, Links, of_link, run_links, seen, start_of, AreNames, Names, Ordered, Ends, later, LinkState, confirmed_items, is_asking, is_open, is_up, Role}
use Rattle.simulator_recovery.proofs.Words.Controllers.{HostState, SignalState}
use Rattle.simulator_recovery.proofs.Words.Interlockings.{IsTableOf, KnownSignalState, SitedTable}
use Rattle.simulator_recovery.proofs.Words.Stations.{Once, IsStation, Event, Flowing, round, round_of_time, IsClientAt, names_at, starts_at_zero, links, partners, ClockedControllerState, Played, after, IsReached}
use Rattle.simulator_recovery.proofs.Words.Recovery.{HasGivenMore, all_events_tried, behind_time, calls_on, event_of, links_behind, time_of_round, RepliesOn, HasTime, IsWork, all_tried, clocks_of, good_rounds, rounds_later, LawsBelow, Takings}
use Rattle.simulator_recovery.proofs.Lemmas.Ground.ClientItem.{at_front, partners_length}
use Rattle.simulator_recovery.proofs.Lemmas.Ground.AtLink.{mapped}
use Rattle.simulator_recovery.proofs.Lemmas.RoutesGoing.AuthorityLists.{links_last, lists_last, time_left}
use Rattle.simulator_recovery.proofs.Lemmas.RoutesGoing.AuthorityRounds.{Goes, Held, controls_timed, even_links, gives_last, held_after, held_even, later_client_taken, later_given, later_sent, later_server_taken, none_taken_between, round_calm, round_due_so, round_gives_few, round_grows, round_may, round_room, server_through, client_through, stands_there, stands_timed, start_is, taken_even, taken_most, timed_host}
use Rattle.simulator_recovery.proofs.Lemmas.Talk.ClientLinks.{up_open}
use Rattle.simulator_recovery.proofs.Lemmas.Links.ComeUp.{Begun, flow_then, links_after, lists_length, lists_on, rounds_begin}
use Rattle.simulator_recovery.proofs.Lemmas.Ground.LinkCounts.{settled_open}
use Rattle.simulator_recovery.proofs.Lemmas.Rounds.LinkRounds.{after_each, are_links, round_tried}
use Rattle.simulator_recovery.proofs.Lemmas.Ground.EndCalls.{at_place}
use Rattle.simulator_recovery.proofs.Lemmas.Links.Ready.{IsUpBehind, below_front, each_front, rounds_both, ups, work_front}
use Rattle.simulator_recovery.proofs.Lemmas.RoutesGoing.RepliedCounts.{owed, owed_most}
use Rattle.simulator_recovery.proofs.Lemmas.RoutesGoing.RepliedGiving.{up_asks}
use Rattle.simulator_recovery.proofs.Lemmas.RoutesGoing.RepliedRound.{GivesLast, HoldsConfirmed, IsRound, Replies, signal_replies}
use Rattle.simulator_recovery.proofs.Lemmas.RoutesGoing.RepliedThrough.{IsInOf, run_timely}
use Rattle.simulator_recovery.proofs.Lemmas.RoutesGoing.RepliedWalk.{Controls, GivesFew, Stands, controls}
use Rattle.simulator_recovery.proofs.Lemmas.RoutesGoing.RepliedWindow.{GaveLast}
use Rattle.simulator_recovery.proofs.Lemmas.Rounds.Rounds.{take_their_time}
use Rattle.simulator_recovery.proofs.Lemmas.Silence.Shown.{counted_given, counted_taken}
use Rattle.simulator_recovery.proofs.Lemmas.Silence.Spent.{settled_given, settled_taken}
use Rattle.simulator_recovery.proofs.Lemmas.Lamps.StopComes.{last_round}
use Rattle.simulator_recovery.proofs.Lemmas.Windows.SignalWindows.{four_wait}

-- what a server takes in a round at work confirms what its client had taken before the round before
-- time leaves of a link how many items it has taken
later_taken : (ends : Ends) → (later 10000 10000 10000 ends).server.link.taken ≡ ends.server.link.taken
unfolding later end_later
later_taken ends = settled_taken (reading_of (ends.server.clock + 10000)) ends.server.link

module _ (laws : LawsBelow) (sited : SitedTable) (station : IsStation sited.site) (once : Once sited.site) (is_table : IsTableOf sited.site sited.table) (place : ℕ) (below : place < length sited.site.signals) (there : place < links sited.site)
    (first : List Event) (flowing : Flowing) (work_first : Each IsWork first) (start : Begun laws sited station once is_table place there first flowing) where
  abbrev pub next : Flowing
  next = all_tried first (round flowing)

  abbrev names : Names
  names = names_at sited.site place

  abbrev lists : List (List Event) → List (List LinkEvent)
  lists rounds = lists_on place rounds next start.before

  abbrev pub UpBehind : List (List Event) → Type 0
  UpBehind rounds = IsUpBehind laws sited station once is_table place there first flowing work_first start rounds

  abbrev HeldAt : Played → Links → Type 0
  HeldAt = Held laws sited station once is_table place below

  abbrev these : List (List Event) → Links
  these rounds = links_after rounds next start.before

  are_so : AreNames (names_at sited.site place)
  are_so = (are_links laws sited station once).each place there

  held_first : Held laws sited station once is_table place below next.state start.before
  held_first = record {
    has = start.has;
    is = start.is;
    ordered = subst (Ordered names) start.is_run.same
        (run_timely laws names are_so start.is_run.events (started names (start_of place starts_at_zero)) start.is_run.may
        (laws.starts_in_time names (start_of place starts_at_zero) are_so) (laws.every_event_keeps_order_starts names (start_of place starts_at_zero))).1;
  }

  held_at : (rounds : List (List Event)) → Held laws sited station once is_table place below (good_rounds rounds next).state (links_after rounds next start.before)
  held_at rounds = held_after laws sited station once is_table place below rounds next start.before held_first

  up_at : (rounds : List (List Event)) → UpBehind rounds → AreUp (seen place (links_after rounds next start.before))
  up_at rounds s = subst (λ (l : Links). AreUp (seen place l)) s.behind.after_is (ups laws sited station once is_table place there first flowing work_first start rounds s)

  -- from one round to the next
  module _ (rounds : List (List Event)) (last : List Event) (works_last : Each IsWork last) (works : Each (Each IsWork) rounds) (can : HasTime (suc (length rounds)) next.state.run) (s : UpBehind rounds) (t : UpBehind (rounds ++ last ∷ [])) where
    abbrev old : Links
    old = links_after rounds next start.before

    abbrev new : Links
    new = links_after (rounds ++ last ∷ []) next start.before

    abbrev calls : List LinkEvent
    calls = calls_on place last (good_rounds rounds next) (links_after rounds next start.before)

    abbrev flow : Flow
    flow = flow_then laws sited station once is_table place there first flowing work_first start

    abbrev at : Flow
    at = work_rounds (lists rounds) flow

    lists_are : lists (rounds ++ last ∷ []) ≡ lists rounds ++ calls ∷ []
    lists_are = lists_last place rounds last next start.before

    work : AreAtWork names (lists rounds) flow × IsAtWork names at calls
    work = work_front names (lists rounds) calls flow (subst (λ (l : List (List LinkEvent)). AreAtWork names l flow) lists_are t.behind.work)

    opened : Each (Each LeavesOpen) (lists rounds) × Each LeavesOpen calls
    opened = each_front (Each LeavesOpen) (lists rounds) calls (subst (Each (Each LeavesOpen)) lists_are t.opens)

    room : StayBelow (lists rounds) flow × HaveRoom calls (later 10000 10000 10000 at.ends)
    room = below_front (lists rounds) calls flow (subst (λ (l : List (List LinkEvent)). StayBelow l flow) lists_are t.below)

    old_is : seen place old ≡ at.ends
    old_is = subst (λ (l : Links). seen place l ≡ at.ends) s.behind.after_is s.behind.ends

    new_is : seen place new ≡ (work_round calls at).ends
    new_is = subst (λ (l : Links). seen place l ≡ (work_round calls at).ends) t.behind.after_is
        (t.behind.ends ∙ ap (λ (l : List (List LinkEvent)). (work_rounds l flow).ends) lists_are ∙ ap (λ (f : Flow). f.ends) (rounds_both (lists rounds) calls flow))

    pub over : HandOver (seen place (links_after rounds next start.before)) (seen place (links_after (rounds ++ last ∷ []) next start.before))
    over = subst (λ (e : Ends). HandOver e (seen place new)) (sym old_is) (subst (HandOver at.ends) (sym new_is)
        (laws.two_ends_at_work_hand_over names (start_of place starts_at_zero) start.is_run.events (length (of_link place flowing.state.run.sent)) (lists rounds) calls are_so start.is_run.may
        (rounds_begin names (lists rounds) flow work.0) opened.0 room.0 (let l = s.long in let n = lists_length place rounds next start.before in omega (arith, l, n)) work.1 opened.1 room.1))

    stays_at_work : StaysAtWork names at calls
    stays_at_work = record { work = work.1; opens = opened.1; room = room.1 }

    then_at : work_rounds (lists (rounds ++ last ∷ [])) flow ≡ work_round calls at
    then_at = ap (λ (l : List (List LinkEvent)). work_rounds l flow) lists_are ∙ rounds_both (lists rounds) calls flow

    old_up : AreUp (seen place old)
    old_up = up_at rounds s

    new_up : AreUp (seen place new)
    new_up = up_at (rounds ++ last ∷ []) t

    new_links : links_behind last (good_rounds rounds next) old ≡ new
    new_links = sym (links_last rounds last next start.before)

    clocks_then : HasTime 1 (good_rounds rounds next).state.run
    clocks_then = subst (Each (λ clock. clock + 10000 * 1 ≤ 9000000000000000)) (sym taken_time) (time_left (length rounds) (clocks_of next.state.run) can)
      where
        few_rounds : (clocks : List ℕ) → Each (λ clock. clock + 10000 * suc (length rounds) ≤ 9000000000000000) clocks → Each (λ clock. clock + 10000 * length rounds ≤ 9000000000000000) clocks
        few_rounds [] each = tt
        few_rounds (clock ∷ clocks) each = let one = each.0 in (omega (arith, one), few_rounds clocks each.1)

        taken_time : clocks_of (good_rounds rounds next).state.run ≡ rounds_later (length rounds) (clocks_of next.state.run)
        taken_time = take_their_time laws rounds next (subst (λ (x : SitedTable). Once x.site) (sym start.is.same) once) (subst (λ (x : SitedTable). IsStation x.site) (sym start.is.same) station)
            (subst (λ (x : SitedTable). IsReached x.site x.table next.state.run) (sym start.is.same) start.is.reached) works (few_rounds (clocks_of next.state.run) can)

    flow_with : (f : Flow) (ends : Ends) → ends ≡ f.ends → f ≡ record { ends = ends; passed = f.passed }
    flow_with f ends e = ap (λ (x : Ends). record { ends = x; passed = f.passed }) (sym e)

    pub goes : Goes laws sited station once is_table place below over.connection last (good_rounds rounds next) (links_after rounds next start.before)
    goes = record {
      held = held_at rounds;
      work = works_last;
      can = clocks_then;
      passed = at.passed;
      at_work = subst (λ (f : Flow). IsAtWork names f calls) (flow_with at (seen place old) old_is) work.1;
      opens = opened.1;
      room = subst (λ (e : Ends). HaveRoom calls (later 10000 10000 10000 e)) (sym old_is) room.1;
      client_before = over.old_client;
      server_before = over.old_server;
      client_behind = subst (λ (l : Links). IsInOf Role.Client over.connection (seen place l)) (sym new_links) (record { at = over.new_client; opened = up_open (seen place new).client.link.phase new_up.0 });
      server_behind = subst (λ (l : Links). IsInOf Role.Server over.connection (seen place l)) (sym new_links) (record { at = over.new_server; opened = up_open (seen place new).server.link.phase new_up.1 });
    }

    -- a signal's end there
    pub stands_old : Stands laws sited station once place below over.connection (good_rounds rounds next).state (links_after rounds next start.before)
    stands_old = record {
      has = (held_at rounds).has;
      is = (held_at rounds).is;
      ordered = (held_at rounds).ordered;
      client = record { at = over.old_client; opened = up_open (seen place old).client.link.phase old_up.0 };
      server = record { at = over.old_server; opened = up_open (seen place old).server.link.phase old_up.1 };
    }

    pub stands_new : Stands laws sited station once place below over.connection (good_rounds (rounds ++ last ∷ []) next).state (links_after (rounds ++ last ∷ []) next start.before)
    stands_new = record {
      has = (held_at (rounds ++ last ∷ [])).has;
      is = (held_at (rounds ++ last ∷ [])).is;
      ordered = (held_at (rounds ++ last ∷ [])).ordered;
      client = record { at = over.new_client; opened = up_open (seen place new).client.link.phase new_up.0 };
      server = record { at = over.new_server; opened = up_open (seen place new).server.link.phase new_up.1 };
    }

  -- a client has given few items beyond those that its controller has taken
  gives_most : (connection : ℕ) (world : Played) (here : Links) → Stands laws sited station once place below connection world here → length (seen place here).client.given ≤ 4 + length (seen place here).server.taken
  gives_most connection world here s =
      let client = s.has.are.clients place id.0 id.1
      in let kept : client.kept ≡ known.0.client.link = same_Some client.kept known.0.client.link (sym client.there ∙ at_front _ _ place known.0.client.link (mapped (λ (k : KnownSignalState). k.client.link) world.run.interlocking.ixl.known_signals place known.0 known.1))
      in let l = client.link_is ∙ ap (settled (reading_of world.run.interlocking.clock)) kept
      in let so = settled_open (reading_of world.run.interlocking.clock) known.0.client.link (ap (λ (x : LinkState). is_open x.phase) (sym l) ∙ s.client.opened)
      in let few = four_wait sited.site sited.table world.run s.is.reached place known.0 known.1 so.1
      in let waits = ap (λ (x : LinkState). length x.waiting) (l ∙ so.0)
      in let safe = (laws.order_is_safe names (seen place here) s.ordered connection s.client.at s.server.at).0
      in let confirmed = safe.confirmed
      in let gave = counted_given (seen place here).client (laws.items_are_counted names (seen place here) s.ordered connection s.client.at s.server.at).0 s.client.opened
      in omega (arith, few, waits, confirmed, gave)
    where
      id : (one : ℕ) × (slice_get (partners sited.site) place ≡ Some one)
      id = at_place (partners sited.site) place (subst (λ (n : ℕ). place < n) (sym (partners_length sited.site)) there)

      known : (known : KnownSignalState) × (slice_get world.run.interlocking.ixl.known_signals place ≡ Some known)
      known = let many = s.has.whole.clients.known_signals in at_place world.run.interlocking.ixl.known_signals place (omega (arith, below, many))

  -- what a client's link counts as given
  pub counts_given : (world : Played) (here : Links) → Held laws sited station once is_table place below world here → (known : KnownSignalState) × (slice_get world.run.interlocking.ixl.known_signals place ≡ Some known) × ((seen place here).client.link.given ≡ known.client.link.given)
  counts_given world here h = (known.0, known.1, ap (λ (l : LinkState). l.given) (client.link_is ∙ ap (settled (reading_of world.run.interlocking.clock)) kept) ∙ settled_given (reading_of world.run.interlocking.clock) known.0.client.link)
    where
      id : (one : ℕ) × (slice_get (partners sited.site) place ≡ Some one)
      id = at_place (partners sited.site) place (subst (λ (n : ℕ). place < n) (sym (partners_length sited.site)) there)

      known : (known : KnownSignalState) × (slice_get world.run.interlocking.ixl.known_signals place ≡ Some known)
      known = let many_known = h.has.whole.clients.known_signals in at_place world.run.interlocking.ixl.known_signals place (omega (arith, below, many_known))

      client : IsClientAt world.run place (here.ends place).client
      client = h.has.are.clients place id.0 id.1

      kept : client.kept ≡ known.0.client.link
      kept = same_Some client.kept known.0.client.link (sym client.there ∙ at_front _ _ place known.0.client.link (mapped (λ (k : KnownSignalState). k.client.link) world.run.interlocking.ixl.known_signals place known.0 known.1))

  -- ---- three moments

  module _ (rounds : List (List Event)) (given replied : List Event) (works_given : Each IsWork given) (works_replied : Each IsWork replied) (works : Each (Each IsWork) rounds) (works_more : Each (Each IsWork) (rounds ++ given ∷ [])) (can : HasTime (suc (length rounds)) next.state.run)
      (can_more : HasTime (suc (length (rounds ++ given ∷ []))) next.state.run) (s : UpBehind rounds) (t : UpBehind (rounds ++ given ∷ [])) (u : UpBehind ((rounds ++ given ∷ []) ++ replied ∷ [])) (many : 2 ≤ length (seen place (links_after rounds next start.before)).server.taken) where
    abbrev before : Links
    before = links_after rounds next start.before

    abbrev behind : Links
    behind = links_after (rounds ++ given ∷ []) next start.before

    abbrev first_over : HandOver (seen place before) (seen place behind)
    first_over = over rounds given works_given works can s t

    abbrev second_over : HandOver (seen place behind) (seen place (links_after ((rounds ++ given ∷ []) ++ replied ∷ []) next start.before))
    second_over = over (rounds ++ given ∷ []) replied works_replied works_more can_more t u

    abbrev connection : ℕ
    connection = second_over.connection

    same_connection : first_over.connection ≡ connection
    same_connection = same_Some first_over.connection connection (sym first_over.new_client ∙ second_over.old_client)

    first_goes : Goes laws sited station once is_table place below connection given (good_rounds rounds next) before
    first_goes = subst (λ (n : ℕ). Goes laws sited station once is_table place below n given (good_rounds rounds next) before) same_connection (goes rounds given works_given works can s t)

    second_goes : Goes laws sited station once is_table place below connection replied (good_rounds (rounds ++ given ∷ []) next) behind
    second_goes = goes (rounds ++ given ∷ []) replied works_replied works_more can_more t u

    abbrev At : Played → Links → Type 0
    At = Stands laws sited station once place below connection

    stands_before : At (good_rounds rounds next).state before
    stands_before = subst (λ (n : ℕ). Stands laws sited station once place below n (good_rounds rounds next).state before) same_connection (stands_old rounds given works_given works can s t)

    stands_behind : At (good_rounds (rounds ++ given ∷ []) next).state behind
    stands_behind = stands_old (rounds ++ given ∷ []) replied works_replied works_more can_more t u

    m : Controls laws sited station once place below connection (good_rounds rounds next).state before
    m = controls laws sited station once place below connection (good_rounds rounds next).state before stands_before

    n : Controls laws sited station once place below connection (good_rounds (rounds ++ given ∷ []) next).state behind
    n = controls laws sited station once place below connection (good_rounds (rounds ++ given ∷ []) next).state behind stands_behind

    behind_is : links_behind given (good_rounds rounds next) before ≡ behind
    behind_is = sym (links_last rounds given next start.before)

    -- what the signal reports in the first round
    few_reports : GivesFew m.c n.c
    few_reports = round_gives_few laws sited station once is_table place below connection given (good_rounds rounds next) before first_goes m.c n.c m.stands_there
        (ap (λ (f : Flowing). slice_get f.state.run.signals place) (sym (last_round rounds given next)) ∙ n.stands_there) many

    taken_few : length (seen place behind).server.taken ≤ length (seen place before).client.given
    taken_few = subst (λ (l : Links). length (seen place l).server.taken ≤ length (seen place before).client.given) behind_is (taken_most laws sited station once is_table place below connection given (good_rounds rounds next) before first_goes)

    grown : length (seen place before).server.taken ≤ length (seen place behind).server.taken
    grown = subst (λ (l : Links). length (seen place before).server.taken ≤ length (seen place l).server.taken) behind_is (round_grows laws sited station once is_table place below connection given (good_rounds rounds next) before first_goes many)

    -- as the first round ends, before what comes after it
    abbrev even : Links
    even = even_links laws sited station once is_table place below connection given (good_rounds rounds next) before first_goes

    held_there : Held laws sited station once is_table place below (after_each (map event_of (behind_time (good_rounds rounds next))) (after (good_rounds rounds next).state (round_of_time (good_rounds rounds next).state.sited.site))) even
    held_there = held_even laws sited station once is_table place below connection given (good_rounds rounds next) before first_goes

    abbrev even_world : Played
    even_world = after_each (map event_of (behind_time (good_rounds rounds next))) (after (good_rounds rounds next).state (round_of_time (good_rounds rounds next).state.sited.site))

    even_world_is : (round (good_rounds rounds next)).state ≡ even_world
    even_world_is = round_tried [] (good_rounds rounds next) ∙ ap (λ (l : List Event). after_each l (after (good_rounds rounds next).state (round_of_time (good_rounds rounds next).state.sited.site))) (append-nil (map event_of (behind_time (good_rounds rounds next))))

    -- the second round
    abbrev timed : Played
    timed = after (good_rounds (rounds ++ given ∷ []) next).state (round_of_time (good_rounds (rounds ++ given ∷ []) next).state.sited.site)

    abbrev timed_links : Links
    timed_links = run_links (time_of_round (good_rounds (rounds ++ given ∷ []) next)) behind

    abbrev events : List Event
    events = map event_of (behind_time (good_rounds (rounds ++ given ∷ []) next)) ++ replied

    timed_is : seen place timed_links ≡ later 10000 10000 10000 (seen place behind)
    timed_is = start_is laws sited station once is_table place below connection replied (good_rounds (rounds ++ given ∷ []) next) behind second_goes

    stands_then : At timed timed_links
    stands_then = stands_timed laws sited station once is_table place below connection replied (good_rounds (rounds ++ given ∷ []) next) behind second_goes

    abbrev controls_then : Controls laws sited station once place below connection timed timed_links
    controls_then = controls_timed laws sited station once is_table place below connection replied (good_rounds (rounds ++ given ∷ []) next) behind second_goes

    -- time has left the client's link as it was
    later_link : (ends : Ends) → (later 10000 10000 10000 ends).client.link ≡ settled (reading_of (ends.client.clock + 10000)) ends.client.link
    unfolding later end_later
    later_link ends = refl

    link_then : (seen place timed_links).client.link ≡ settled (reading_of ((seen place behind).client.clock + 10000)) (seen place behind).client.link
    link_then = ap (λ (e : Ends). e.client.link) timed_is ∙ later_link (seen place behind)

    link_same : (seen place timed_links).client.link ≡ record (seen place behind).client.link { clock = reading_of ((seen place behind).client.clock + 10000) }
    link_same = link_then ∙ (settled_open (reading_of ((seen place behind).client.clock + 10000)) (seen place behind).client.link (ap (λ (l : LinkState). is_open l.phase) (sym link_then) ∙ stands_then.client.opened)).0

    sent_same : (seen place timed_links).sent ≡ (seen place behind).sent
    sent_same = ap (λ (e : Ends). e.sent) timed_is ∙ later_sent (seen place behind)

    -- the counts
    given_then : length (seen place timed_links).client.given ≡ length (seen place behind).client.given
    given_then = ap (λ (e : Ends). length e.client.given) timed_is ∙ ap length (later_given (seen place behind))

    taken_then : length (seen place timed_links).server.taken ≡ length (seen place behind).server.taken
    taken_then = ap (λ (e : Ends). length e.server.taken) timed_is ∙ ap length (later_server_taken (seen place behind))

    client_taken_then : length (seen place timed_links).client.taken ≡ length (seen place behind).client.taken
    client_taken_then = ap (λ (e : Ends). length e.client.taken) timed_is ∙ ap length (later_client_taken (seen place behind))

    counted_at : (world : Played) (here : Links) → At world here → ((seen place here).client.link.given ≡ length (seen place here).client.given) × ((seen place here).client.link.taken ≡ length (seen place here).client.taken)
        × ((seen place here).server.link.given ≡ length (seen place here).server.given) × ((seen place here).server.link.taken ≡ length (seen place here).server.taken)
    counted_at world here st =
        let c = laws.items_are_counted names (seen place here) st.ordered connection st.client.at st.server.at
        in (counted_given (seen place here).client c.0 st.client.opened, counted_taken (seen place here).client c.0 st.client.opened, counted_given (seen place here).server c.1 st.server.opened, counted_taken (seen place here).server c.1 st.server.opened)

    enough_then : length (seen place timed_links).client.given ≤ ((run_links (all_events_tried events timed) timed_links).ends place).server.link.taken
    enough_then =
        let over_counts = second_over.to_server.counts
        in let b = (counted_at (good_rounds (rounds ++ given ∷ []) next).state behind stands_behind).0
        in let e = given_then
        in let l = ap (λ (x : Links). (x.ends place).server.link.taken) (links_last (rounds ++ given ∷ []) replied next start.before)
        in omega (arith, over_counts, b, e, l)

    -- what the controller takes in the second round confirms what its client had taken before the first
    module _ (takings : Takings) (front rest : List LinkEvent) (are : calls_on place replied (good_rounds (rounds ++ given ∷ []) next) behind ≡ front ++ rest)
        (took : (seen place timed_links).server.link.taken < (run front (seen place timed_links)).server.link.taken) where
      abbrev flow_first : Flow
      flow_first = flow_then laws sited station once is_table place there first flowing work_first start

      abbrev at_first : Flow
      at_first = work_rounds (lists rounds) flow_first

      abbrev calls_first : List LinkEvent
      calls_first = calls_on place given (good_rounds rounds next) before

      abbrev at_second : Flow
      at_second = work_round calls_first at_first

      behind_at : seen place behind ≡ at_second.ends
      behind_at = new_is rounds given works_given works can s t

      second_work : StaysAtWork names at_second (front ++ rest)
      second_work = subst (StaysAtWork names at_second) are (subst (λ (f : Flow). StaysAtWork names f (calls_on place replied (good_rounds (rounds ++ given ∷ []) next) behind)) (then_at rounds given works_given works can s t)
          (stays_at_work (rounds ++ given ∷ []) replied works_replied works_more can_more t u))

      takes_more : at_second.ends.server.link.taken < (in_round front at_second).server.link.taken
      takes_more =
          let now_taken = ap (λ (e : Ends). (run front e).server.link.taken) timed_is
          in let now_at = ap (λ (e : Ends). (run front (later 10000 10000 10000 e)).server.link.taken) behind_at
          in let was_taken = ap (λ (e : Ends). e.server.link.taken) timed_is
          in let same = later_taken (seen place behind)
          in let was_at = ap (λ (e : Ends). e.server.link.taken) behind_at
          in omega (arith, took, now_taken, now_at, was_taken, same, was_at)

      confirmed_first : at_first.ends.client.link.taken ≤ confirmed_items (in_round front at_second).server.link
      confirmed_first = takings names (start_of place starts_at_zero) start.is_run.events (length (of_link place flowing.state.run.sent)) (lists rounds) calls_first front rest are_so start.is_run.may
          (work rounds given works_given works can s t).0 (opened rounds given works_given works can s t).0 (room rounds given works_given works can s t).0
          (let l = s.long in let n = lists_length place rounds next start.before in omega (arith, l, n)) (stays_at_work rounds given works_given works can s t) second_work takes_more

      holds_it : (seen place before).client.link.taken ≤ confirmed_items (run front (seen place timed_links)).server.link
      holds_it = subst (λ (e : Ends). (seen place before).client.link.taken ≤ confirmed_items (run front e).server.link) (sym timed_is)
          (subst (λ (e : Ends). (seen place before).client.link.taken ≤ confirmed_items (run front (later 10000 10000 10000 e)).server.link) (sym behind_at)
          (subst (λ (e : Ends). e.client.link.taken ≤ confirmed_items (in_round front at_second).server.link) (sym (old_is rounds given works_given works can s t)) confirmed_first))

    -- the controller replies, where it comes to know enough of what its client has taken
    module _ (heard : ℕ) (knows : GivesLast laws sited station once place below connection timed_links heard
        ⊎ HoldsConfirmed laws sited station once place below connection heard (calls_on place replied (good_rounds (rounds ++ given ∷ []) next) behind) (seen place timed_links))
        (fewer : (timed_links.ends place).server.link.taken < length (seen place timed_links).client.given)
        (bounded : controls_then.c.host.link.given + owed controls_then.c.host.object + length (seen place timed_links).client.given ≤ heard + 20 + controls_then.c.host.link.taken) where
      is_round : IsRound laws sited station once place below connection timed timed_links events (length (seen place timed_links).client.given)
      is_round = record {
        stands_so = stands_then;
        calm = round_calm laws sited station once is_table place below connection replied (good_rounds (rounds ++ given ∷ []) next) behind second_goes;
        through = (
          client_through laws sited station once is_table place below connection replied (good_rounds (rounds ++ given ∷ []) next) behind second_goes,
          server_through laws sited station once is_table place below connection replied (good_rounds (rounds ++ given ∷ []) next) behind second_goes,
        );
        may = round_may laws sited station once is_table place below connection replied (good_rounds (rounds ++ given ∷ []) next) behind second_goes;
        only = second_goes.at_work.only;
        due = round_due_so laws sited station once is_table place below connection replied (good_rounds (rounds ++ given ∷ []) next) behind second_goes;
        room = round_room laws sited station once is_table place below connection replied (good_rounds (rounds ++ given ∷ []) next) behind second_goes;
        heard = heard;
        knows = knows;
        number_is = refl;
        many = let g = grown in let e = taken_then in omega (arith, g, e, many);
        fewer = fewer;
        enough = enough_then;
        controls_so = controls_then;
        bounded = bounded;
      }

      replies : Replies laws sited station once place below connection (length (seen place timed_links).client.given) (calls_on place replied (good_rounds (rounds ++ given ∷ []) next) behind) (seen place timed_links)
      replies = signal_replies laws sited station once place below connection timed timed_links events (length (seen place timed_links).client.given) is_round

      replies_where : RepliesOn place replied (good_rounds (rounds ++ given ∷ []) next) (links_after (rounds ++ given ∷ []) next start.before)
      replies_where = record {
        front = replies.front;
        item = replies.item;
        rest = replies.rest;
        are = replies.are_so;
        accepts = subst (λ (e : Ends). Accepts (run replies.front e).server) timed_is replies.accepts;
        has_taken = let taken = replies.has_taken in let e = ap (λ (x : Ends). (run replies.front x).server.link.taken) timed_is in let g = given_then in let c = (counted_at (good_rounds (rounds ++ given ∷ []) next).state behind stands_behind).0 in omega (arith, taken, e, g, c);
      }

    -- where something was given after the first round
    module _ (more : HasGivenMore place (round (good_rounds rounds next)).state.run.interlocking.ixl (good_rounds (rounds ++ given ∷ []) next).state.run.interlocking.ixl) where
      gave_more : (seen place even).client.link.given < (seen place behind).client.link.given
      gave_more =
          let e = counts_given even_world even held_there
          in let b = counts_given (good_rounds (rounds ++ given ∷ []) next).state behind (held_at (rounds ++ given ∷ []))
          in let lt = more e.0 b.0 (ap (λ (w : Played). slice_get w.run.interlocking.ixl.known_signals place) even_world_is ∙ e.1) b.1
          in let x = e.2
          in let y = b.2
          in omega (arith, lt, x, y)

      gave_last : GaveLast names connection (seen place behind).client.link (seen place behind).sent
      gave_last = subst (λ (l : Links). GaveLast names connection (seen place l).client.link (seen place l).sent) behind_is
          (gives_last laws sited station once is_table place below connection given (good_rounds rounds next) before first_goes
          (λ same. let g = gave_more in let e = ap (λ (l : Links). (seen place l).client.link.given) behind_is in omega (arith, g, same, e)))

      gave_then : GaveLast names connection (seen place timed_links).client.link (seen place timed_links).sent
      gave_then = subst (λ (l : LinkState). GaveLast names connection l (seen place timed_links).sent) (sym link_same) (subst (GaveLast names connection (record (seen place behind).client.link { clock = reading_of ((seen place behind).client.clock + 10000) })) (sym sent_same) (record {
        others = gave_last.others;
        last = gave_last.last;
        waits = gave_last.waits;
        under = gave_last.under;
        datagram = gave_last.datagram;
        is_sent = gave_last.is_sent;
        sender = gave_last.sender;
        of = gave_last.of;
        pdu = gave_last.pdu;
        read = gave_last.read;
        number = gave_last.number;
        confirms = gave_last.confirms;
      }))

      asks_none : is_asking (seen place timed_links).client.link ≡ false
      asks_none = up_asks (seen place timed_links).client.link (ap (λ (l : LinkState). is_up l.phase) link_same ∙ (up_at (rounds ++ given ∷ []) t).0)

      fewer_then : (timed_links.ends place).server.link.taken < length (seen place timed_links).client.given
      fewer_then =
          let taken = (counted_at timed timed_links stands_then).3
          in let e = taken_then
          in let none = subst (λ (l : Links). length (seen place l).server.taken ≡ length (seen place even).server.taken) behind_is (none_taken_between laws sited station once is_table place below connection given (good_rounds rounds next) before first_goes)
          in let few = taken_even laws sited station once is_table place below connection given (good_rounds rounds next) before first_goes
          in let gave = given_even
          in let b = (counted_at (good_rounds (rounds ++ given ∷ []) next).state behind stands_behind).0
          in let g = gave_more
          in let then_given = given_then
          in omega (arith, taken, e, none, few, gave, b, g, then_given)
        where
          given_even : (seen place even).client.link.given ≡ length (seen place even).client.given
          given_even = (counted_at even_world even stands_even).0
            where
              stands_even : At even_world even
              stands_even = stands_there laws sited station once is_table place below connection given (good_rounds rounds next) before first_goes

      bounded_then : controls_then.c.host.link.given + owed controls_then.c.host.object + length (seen place timed_links).client.given ≤ length (seen place timed_links).client.taken + 20 + controls_then.c.host.link.taken
      bounded_then =
          let host = timed_host laws sited station once is_table place below connection replied (good_rounds (rounds ++ given ∷ []) next) behind second_goes n.c n.stands_there
          in let hg = ap (λ (h : HostState SignalState). h.link.given) host
          in let ho = ap (λ (h : HostState SignalState). owed h.object) host
          in let ht = ap (λ (h : HostState SignalState). h.link.taken) host
          in let reports = few_reports
          in let old_owed = owed_most m.c.host.object
          in let old_given = m.given_is
          in let old_taken = m.taken_is
          in let heard = first_over.to_client.counts
          in let old_counts = (counted_at (good_rounds rounds next).state before stands_before).2
          in let new_counts = (counted_at (good_rounds (rounds ++ given ∷ []) next).state behind stands_behind).1
          in let most = gives_most connection (good_rounds (rounds ++ given ∷ []) next).state behind stands_behind
          in let most_before = gives_most connection (good_rounds rounds next).state before stands_before
          in let few = taken_few
          in let g = given_then
          in let ct = client_taken_then
          in omega (arith, hg, ho, ht, reports, old_owed, old_given, old_taken, heard, old_counts, new_counts, most, most_before, few, g, ct)

      pub replies_on : RepliesOn place replied (good_rounds (rounds ++ given ∷ []) next) (links_after (rounds ++ given ∷ []) next start.before)
      replies_on = replies_where (length (seen place timed_links).client.taken) (inl (record { asks = asks_none; gave = gave_then; heard_is = refl })) fewer_then bounded_then

  -- ---- four moments

  -- Something is given in the second round, or after it.
  module _ (rounds : List (List Event)) (was given replied : List Event) (works_was : Each IsWork was) (works_given : Each IsWork given) (works_replied : Each IsWork replied) (works : Each (Each IsWork) rounds)
      (works_then : Each (Each IsWork) (rounds ++ was ∷ [])) (works_more : Each (Each IsWork) ((rounds ++ was ∷ []) ++ given ∷ [])) (can : HasTime (suc (length rounds)) next.state.run)
      (can_then : HasTime (suc (length (rounds ++ was ∷ []))) next.state.run) (can_more : HasTime (suc (length ((rounds ++ was ∷ []) ++ given ∷ []))) next.state.run) (s : UpBehind rounds) (t : UpBehind (rounds ++ was ∷ []))
      (u : UpBehind ((rounds ++ was ∷ []) ++ given ∷ [])) (v : UpBehind (((rounds ++ was ∷ []) ++ given ∷ []) ++ replied ∷ [])) (many : 2 ≤ length (seen place (links_after rounds next start.before)).server.taken)
      (more : HasGivenMore place (good_rounds (rounds ++ was ∷ []) next).state.run.interlocking.ixl (good_rounds ((rounds ++ was ∷ []) ++ given ∷ []) next).state.run.interlocking.ixl) where
    many_then : 2 ≤ length (seen place (links_after (rounds ++ was ∷ []) next start.before)).server.taken
    many_then = let g = grown rounds was given works_was works_given works works_then can can_then s t u many in omega (arith, g, many)

    gave_between : (seen place (links_after (rounds ++ was ∷ []) next start.before)).client.link.given < (seen place (links_after ((rounds ++ was ∷ []) ++ given ∷ []) next start.before)).client.link.given
    gave_between =
        let a = counts_given (good_rounds (rounds ++ was ∷ []) next).state (links_after (rounds ++ was ∷ []) next start.before) (held_at (rounds ++ was ∷ []))
        in let b = counts_given (good_rounds ((rounds ++ was ∷ []) ++ given ∷ []) next).state (links_after ((rounds ++ was ∷ []) ++ given ∷ []) next start.before) (held_at ((rounds ++ was ∷ []) ++ given ∷ []))
        in let less = more a.0 b.0 a.1 b.1
        in let x = a.2
        in let y = b.2
        in omega (arith, less, x, y)

    counts_there : ((seen place (links_after (rounds ++ was ∷ []) next start.before)).client.link.given ≡ length (seen place (links_after (rounds ++ was ∷ []) next start.before)).client.given) × ((seen place (links_after ((rounds ++ was ∷ []) ++ given ∷ []) next start.before)).client.link.given ≡ length (seen place (links_after ((rounds ++ was ∷ []) ++ given ∷ []) next start.before)).client.given)
    counts_there = (
      (counted_at (rounds ++ was ∷ []) given replied works_given works_replied works_then works_more can_then can_more t u v many_then (good_rounds (rounds ++ was ∷ []) next).state (links_after (rounds ++ was ∷ []) next start.before) (stands_before (rounds ++ was ∷ []) given replied works_given works_replied works_then works_more can_then can_more t u v many_then)).0,
      (counted_at (rounds ++ was ∷ []) given replied works_given works_replied works_then works_more can_then can_more t u v many_then (good_rounds ((rounds ++ was ∷ []) ++ given ∷ []) next).state (links_after ((rounds ++ was ∷ []) ++ given ∷ []) next start.before) (stands_behind (rounds ++ was ∷ []) given replied works_given works_replied works_then works_more can_then can_more t u v many_then)).0,
    )

    fewer_taken : ((timed_links (rounds ++ was ∷ []) given replied works_given works_replied works_then works_more can_then can_more t u v many_then).ends place).server.link.taken < length (seen place (timed_links (rounds ++ was ∷ []) given replied works_given works_replied works_then works_more can_then can_more t u v many_then)).client.given
    fewer_taken =
        let taken = (counted_at (rounds ++ was ∷ []) given replied works_given works_replied works_then works_more can_then can_more t u v many_then (timed (rounds ++ was ∷ []) given replied works_given works_replied works_then works_more can_then can_more t u v many_then) (timed_links (rounds ++ was ∷ []) given replied works_given works_replied works_then works_more can_then can_more t u v many_then) (stands_then (rounds ++ was ∷ []) given replied works_given works_replied works_then works_more can_then can_more t u v many_then)).3
        in let same = taken_then (rounds ++ was ∷ []) given replied works_given works_replied works_then works_more can_then can_more t u v many_then
        in let few = taken_few (rounds ++ was ∷ []) given replied works_given works_replied works_then works_more can_then can_more t u v many_then
        in let was_given = counts_there.0
        in let is_given = counts_there.1
        in let more_given = gave_between
        in let given_still = given_then (rounds ++ was ∷ []) given replied works_given works_replied works_then works_more can_then can_more t u v many_then
        in omega (arith, taken, same, few, was_given, is_given, more_given, given_still)

    -- the signal gives few reports in both rounds
    bounded_twice : (controls_then (rounds ++ was ∷ []) given replied works_given works_replied works_then works_more can_then can_more t u v many_then).c.host.link.given + owed (controls_then (rounds ++ was ∷ []) given replied works_given works_replied works_then works_more can_then can_more t u v many_then).c.host.object + length (seen place (timed_links (rounds ++ was ∷ []) given replied works_given works_replied works_then works_more can_then can_more t u v many_then)).client.given
        ≤ (seen place (links_after (rounds ++ was ∷ []) next start.before)).client.link.taken + 20 + (controls_then (rounds ++ was ∷ []) given replied works_given works_replied works_then works_more can_then can_more t u v many_then).c.host.link.taken
    bounded_twice =
        let host = timed_host laws sited station once is_table place below (connection (rounds ++ was ∷ []) given replied works_given works_replied works_then works_more can_then can_more t u v many_then) replied (good_rounds ((rounds ++ was ∷ []) ++ given ∷ []) next) (links_after ((rounds ++ was ∷ []) ++ given ∷ []) next start.before) (second_goes (rounds ++ was ∷ []) given replied works_given works_replied works_then works_more can_then can_more t u v many_then) (n (rounds ++ was ∷ []) given replied works_given works_replied works_then works_more can_then can_more t u v many_then).c (n (rounds ++ was ∷ []) given replied works_given works_replied works_then works_more can_then can_more t u v many_then).stands_there
        in let hg = ap (λ (h : HostState SignalState). h.link.given) host
        in let ho = ap (λ (h : HostState SignalState). owed h.object) host
        in let ht = ap (λ (h : HostState SignalState). h.link.taken) host
        in let same = same_Some (n rounds was given works_was works_given works works_then can can_then s t u many).c (m (rounds ++ was ∷ []) given replied works_given works_replied works_then works_more can_then can_more t u v many_then).c (sym (n rounds was given works_was works_given works works_then can can_then s t u many).stands_there ∙ (m (rounds ++ was ∷ []) given replied works_given works_replied works_then works_more can_then can_more t u v many_then).stands_there)
        in let sg = ap (λ (c : ClockedControllerState SignalState). c.host.link.given) same
        in let so = ap (λ (c : ClockedControllerState SignalState). owed c.host.object) same
        in let st = ap (λ (c : ClockedControllerState SignalState). c.host.link.taken) same
        in let earlier = few_reports rounds was given works_was works_given works works_then can can_then s t u many
        in let reports = few_reports (rounds ++ was ∷ []) given replied works_given works_replied works_then works_more can_then can_more t u v many_then
        in let old_owed = owed_most (m rounds was given works_was works_given works works_then can can_then s t u many).c.host.object
        in let old_given = (m rounds was given works_was works_given works works_then can can_then s t u many).given_is
        in let old_taken = (m rounds was given works_was works_given works works_then can can_then s t u many).taken_is
        in let heard = (first_over rounds was given works_was works_given works works_then can can_then s t u many).to_client.counts
        in let old_counts = (counted_at rounds was given works_was works_given works works_then can can_then s t u many (good_rounds rounds next).state (links_after rounds next start.before) (stands_before rounds was given works_was works_given works works_then can can_then s t u many)).2
        in let most = gives_most (connection (rounds ++ was ∷ []) given replied works_given works_replied works_then works_more can_then can_more t u v many_then) (good_rounds ((rounds ++ was ∷ []) ++ given ∷ []) next).state (links_after ((rounds ++ was ∷ []) ++ given ∷ []) next start.before) (stands_behind (rounds ++ was ∷ []) given replied works_given works_replied works_then works_more can_then can_more t u v many_then)
        in let few = taken_few (rounds ++ was ∷ []) given replied works_given works_replied works_then works_more can_then can_more t u v many_then
        in let most_then = gives_most (connection (rounds ++ was ∷ []) given replied works_given works_replied works_then works_more can_then can_more t u v many_then) (good_rounds (rounds ++ was ∷ []) next).state (links_after (rounds ++ was ∷ []) next start.before) (stands_before (rounds ++ was ∷ []) given replied works_given works_replied works_then works_more can_then can_more t u v many_then)
        in let few_then = taken_few rounds was given works_was works_given works works_then can can_then s t u many
        in let most_before = gives_most (connection rounds was given works_was works_given works works_then can can_then s t u many) (good_rounds rounds next).state (links_after rounds next start.before) (stands_before rounds was given works_was works_given works works_then can can_then s t u many)
        in let given_still = given_then (rounds ++ was ∷ []) given replied works_given works_replied works_then works_more can_then can_more t u v many_then
        in omega (arith, hg, ho, ht, sg, so, st, earlier, reports, old_owed, old_given, old_taken, heard, old_counts, most, few, most_then, few_then, most_before, given_still)

    pub replies_within : Takings → RepliesOn place replied (good_rounds ((rounds ++ was ∷ []) ++ given ∷ []) next) (links_after ((rounds ++ was ∷ []) ++ given ∷ []) next start.before)
    replies_within takings = replies_where (rounds ++ was ∷ []) given replied works_given works_replied works_then works_more can_then can_more t u v many_then (seen place (links_after (rounds ++ was ∷ []) next start.before)).client.link.taken (inr (λ front rest are took. holds_it (rounds ++ was ∷ []) given replied works_given works_replied works_then works_more can_then can_more t u v many_then takings front rest are took)) fewer_taken bounded_twice
