-- A good round of a station, as the link of a signal goes through it.
use Rattle.simulator_recovery.proofs.Words.Basics.{◌≡◌, inl, inr, ℕ, ◌+◌, ◌<◌, ◌≤◌, ◌==◌, Bool, true, false, if◌then◌else◌, List, [], ◌∷◌, ◌++◌, append-nil, length, map, replicate, Some, None, slice_get, refl, sym, ap, subst, ◌∙◌, arith, length-append, same_Some}
use Rattle.simulator_recovery.proofs.Words.Links.{HaveRoom, IsAtWork, IsBehindTick, LeavesOpen, Each, Call, Closes, EndState, Opens, Receives, Sends, Sent, Ticks, end_after, end_later, outcome, Calls, Elsewhere, Event as LinkEvent, Loses, MayRun, Passes, Restarts, run, Timely, CallsOn, Links, LinksEvent, LosesAny, PassesFor, RestartsOn, events_on, happened_to, run_links, run_on, seen, sent_by, AreNames, Names, Ordered, Ends, called, later, LinkState, is_open, Role}
use Rattle.simulator_recovery.proofs.Words.Controllers.{HostState, Sense, SignalState}
use Rattle.simulator_recovery.proofs.Words.Interlockings.{IsTableOf, SitedTable, Table}
use Rattle.simulator_recovery.proofs.Words.Stations.{Site, Once, IsStation, Event, Flowing, round, round_of_time, passed, names_at, links, nodes, refusal, ClockedControllerState, WorldState, Played, after, refusal_of, events_of}
use Rattle.simulator_recovery.proofs.Words.Recovery.{all_events_tried, behind_time, calls_of_round, calls_on, event_of, events_tried, links_behind, time_of_round, HasTime, IsWork, all_tried, clocks_of, good_rounds, LawsBelow}
use Rattle.simulator_recovery.proofs.Lemmas.Rounds.AtWork.{clock_event, table_sections, time_is, where_says}
use Rattle.simulator_recovery.proofs.Lemmas.Rounds.Clocks.{IsCalm, time_may_pass}
use Rattle.simulator_recovery.proofs.Lemmas.Links.ComeUp.{links_after}
use Rattle.simulator_recovery.proofs.Lemmas.Ground.EndCalls.{SaysOn, each_both}
use Rattle.simulator_recovery.proofs.Lemmas.Rounds.LinkRounds.{Followed, HasThese, after_each, are_links, events_both, links_both, round_tried, tens_at, tried_followed, calm_events, work_events}
use Rattle.simulator_recovery.proofs.Lemmas.Ground.NodeCalls.{command_says_on, sensed_says}
use Rattle.simulator_recovery.proofs.Lemmas.RoutesGoing.RepliedDue.{ComesDue, RunsAlone, alone, runs_alone, each_part, room_behind, round_due}
use Rattle.simulator_recovery.proofs.Lemmas.RoutesGoing.RepliedCounts.{owed}
use Rattle.simulator_recovery.proofs.Lemmas.RoutesGoing.RepliedGiving.{HasGiven, IsGiving, all_given}
use Rattle.simulator_recovery.proofs.Lemmas.RoutesGoing.RepliedThrough.{IsInOf, IsInThrough, in_through, may_front, run_both, run_timely, through_front, through_here}
use Rattle.simulator_recovery.proofs.Lemmas.RoutesGoing.RepliedWalk.{Controls, GivesFew, Leads, Stands, controls, leads, on_both}
use Rattle.simulator_recovery.proofs.Lemmas.RoutesGoing.RepliedWindow.{GaveLast}
use Rattle.simulator_recovery.proofs.Lemmas.Rounds.Rounds.{IsAt, behind_calm, each_can, has_all, time_happens, tried_happens, tried_reached}
use Rattle.simulator_recovery.proofs.Lemmas.Ground.StationKeeps.{later_at}

-- ---- what comes between rounds only gives items

work_says : (site : Site) (table : Table) (one : Event) (world : WorldState) → IsWork one → Each SaysOn (events_of site table one world)
unfolding events_of
work_says site table (Event.Request command) world work = command_says_on site table command world
work_says site table (Event.Occupy section occupancy) world work = sensed_says site _ (λ place. Sense.Section place occupancy) world.detectors
work_says site table (Event.Tick node) world work = absurd work
work_says site table (Event.Time elapsed clocks) world work = absurd work
work_says site table (Event.Deliver node bytes) world work = absurd work
work_says site table (Event.Lose bytes) world work = absurd work
work_says site table (Event.Reach point position) world work = absurd work
work_says site table (Event.Restart node clock first) world work = absurd work

all_say_so : (list : List Event) (world : Played) → Each IsWork list → Each SaysOn (all_events_tried list world)
all_say_so [] world work = tt
all_say_so (first ∷ others) world work = each_both SaysOn (events_tried first world) (all_events_tried others (after world first))
    (where_says (refusal_of first world) _ (work_says world.sited.site world.sited.table first world.run work.0)) (all_say_so others (after world first) work.1)

-- as a link sees it, where nothing closes it
gives_one : (link : ℕ) (one : LinksEvent) (before : Links) → SaysOn one → Each LeavesOpen (events_on link one before) → Each IsGiving (events_on link one before)
gives_one link (CallsOn at who call) before says opens = choose (link == at) opens
  where
    by_call : (call : Call) → IsBehindTick call → LeavesOpen (Calls who call) → IsGiving (Calls who call)
    by_call (Sends item) says_so leaves = tt
    by_call (Closes why) says_so leaves = absurd leaves
    by_call Ticks says_so leaves = absurd says_so
    by_call Opens says_so leaves = absurd says_so
    by_call (Receives bytes connection) says_so leaves = absurd says_so

    choose : (b : Bool) → Each LeavesOpen (if b then Calls who call ∷ [] else Elsewhere (length (sent_by who call (seen at before))) ∷ []) → Each IsGiving (if b then Calls who call ∷ [] else Elsewhere (length (sent_by who call (seen at before))) ∷ [])
    choose true leaves = (by_call call says leaves.0, tt)
    choose false leaves = (tt, tt)
gives_one link (PassesFor elapsed of_clients of_servers) before says opens = absurd says
gives_one link (LosesAny bytes) before says opens = absurd says
gives_one link (RestartsOn at who clock first) before says opens = absurd says

each_split : {X : Type 0} (P : X → Type 0) (one other : List X) → Each P (one ++ other) → Each P one × Each P other
each_split P [] other each = (tt, each)
each_split P (first ∷ one) other each = let more = each_split P one other each.1 in ((each.0, more.0), more.1)

all_give : (link : ℕ) (events : List LinksEvent) (before : Links) → Each SaysOn events → Each LeavesOpen (run_on link events before) → Each IsGiving (run_on link events before)
all_give link [] before says opens = tt
all_give link (first ∷ others) before says opens =
    let parts = each_split LeavesOpen (events_on link first before) (run_on link others (happened_to first before)) opens
    in each_both IsGiving (events_on link first before) (run_on link others (happened_to first before)) (gives_one link first before says.0 parts.0) (all_give link others (happened_to first before) says.1 parts.1)

client_sends : (item : List ℕ) (ends : Ends) → length (called Role.Client (Sends item) ends).server.taken ≡ length ends.server.taken
unfolding called
client_sends item ends = refl

server_sends : (item : List ℕ) (ends : Ends) → length (called Role.Server (Sends item) ends).server.taken ≡ length ends.server.taken
unfolding called outcome end_after
server_sends item ends = ap length (append-nil ends.server.taken)

-- where items are only given, none is taken
none_taken : (events : List LinkEvent) (ends : Ends) → Each IsGiving events → length (run events ends).server.taken ≡ length ends.server.taken
none_taken [] ends giving = refl
none_taken (Calls Role.Client (Sends item) ∷ others) ends giving = none_taken others (called Role.Client (Sends item) ends) giving.1 ∙ client_sends item ends
none_taken (Calls Role.Server (Sends item) ∷ others) ends giving = none_taken others (called Role.Server (Sends item) ends) giving.1 ∙ server_sends item ends
none_taken (Elsewhere count ∷ others) ends giving = none_taken others (record ends { moment = ends.moment + count }) giving.1
none_taken (Calls who Ticks ∷ others) ends giving = absurd giving.0
none_taken (Calls who Opens ∷ others) ends giving = absurd giving.0
none_taken (Calls who (Closes why) ∷ others) ends giving = absurd giving.0
none_taken (Calls who (Receives bytes other) ∷ others) ends giving = absurd giving.0
none_taken (Passes elapsed of_client of_server ∷ others) ends giving = absurd giving.0
none_taken (Loses bytes ∷ others) ends giving = absurd giving.0
none_taken (Restarts who clock first ∷ others) ends giving = absurd giving.0

-- time leaves of an end what it has given and taken, and its connection
pub later_given : (ends : Ends) → (later 10000 10000 10000 ends).client.given ≡ ends.client.given
unfolding later end_later
later_given ends = refl

pub later_server_taken : (ends : Ends) → (later 10000 10000 10000 ends).server.taken ≡ ends.server.taken
unfolding later end_later
later_server_taken ends = refl

pub later_client_taken : (ends : Ends) → (later 10000 10000 10000 ends).client.taken ≡ ends.client.taken
unfolding later end_later
later_client_taken ends = refl

later_client : (ends : Ends) → (later 10000 10000 10000 ends).client.connection ≡ ends.client.connection
unfolding later end_later
later_client ends = refl

later_server : (ends : Ends) → (later 10000 10000 10000 ends).server.connection ≡ ends.server.connection
unfolding later end_later
later_server ends = refl

pub later_sent : (ends : Ends) → (later 10000 10000 10000 ends).sent ≡ ends.sent
unfolding later
later_sent ends = refl

later_time : (ends : Ends) → (later 10000 10000 10000 ends).time ≡ ends.time + 10000
unfolding later
later_time ends = refl

client_gave : (item : List ℕ) (ends : Ends) → length ends.client.given ≤ length (called Role.Client (Sends item) ends).client.given
unfolding called outcome end_after
client_gave item ends = let n = length-append ends.client.given (outcome (Sends item) ends.moment ends.client).given in omega (arith, n)

server_gave : (item : List ℕ) (ends : Ends) → length ends.client.given ≤ length (called Role.Server (Sends item) ends).client.given
unfolding called
server_gave item ends = omega arith

-- where items are only given, none that was is lost
none_lost : (events : List LinkEvent) (ends : Ends) → Each IsGiving events → length ends.client.given ≤ length (run events ends).client.given
none_lost [] ends giving = omega arith
none_lost (Calls Role.Client (Sends item) ∷ others) ends giving = let more = none_lost others (called Role.Client (Sends item) ends) giving.1 in let one = client_gave item ends in omega (arith, more, one)
none_lost (Calls Role.Server (Sends item) ∷ others) ends giving = let more = none_lost others (called Role.Server (Sends item) ends) giving.1 in let one = server_gave item ends in omega (arith, more, one)
none_lost (Elsewhere count ∷ others) ends giving = none_lost others (record ends { moment = ends.moment + count }) giving.1
none_lost (Calls who Ticks ∷ others) ends giving = absurd giving.0
none_lost (Calls who Opens ∷ others) ends giving = absurd giving.0
none_lost (Calls who (Closes why) ∷ others) ends giving = absurd giving.0
none_lost (Calls who (Receives bytes other) ∷ others) ends giving = absurd giving.0
none_lost (Passes elapsed of_client of_server ∷ others) ends giving = absurd giving.0
none_lost (Loses bytes ∷ others) ends giving = absurd giving.0
none_lost (Restarts who clock first ∷ others) ends giving = absurd giving.0

-- ---- a round

module _ (laws : LawsBelow) (sited : SitedTable) (station : IsStation sited.site) (once : Once sited.site) (is_table : IsTableOf sited.site sited.table) (place : ℕ) (below : place < length sited.site.signals) where
  abbrev names : Names
  names = names_at sited.site place

  there_is : place < links sited.site
  there_is = omega (arith, below)

  are_so : AreNames (names_at sited.site place)
  are_so = (are_links laws sited station once).each place there_is

  -- A station with its links, of which that of the signal is in order.
  pub record Held (world : Played) (these : Links) : Type 0 where
    pub has : HasThese sited world these
    pub is : IsAt sited world
    pub ordered : Ordered (names_at sited.site place) (seen place these)

  pub ordered_then : (events : List LinksEvent) (these : Links) (world new : Played) → HasThese sited world these → Followed sited events these new → Ordered (names_at sited.site place) (seen place these) → Ordered (names_at sited.site place) (seen place (run_links events these))
  ordered_then events these world new has followed ordered = subst (Ordered names) (sym (laws.each_link_sees_its_events_run place events these))
      (run_timely laws names are_so (run_on place events these) (seen place these)
      (laws.each_link_sees_its_events_may_run (links sited.site) (names_at sited.site) events these (are_links laws sited station once) has.timely followed.may place there_is) (has.timely.each place there_is) ordered).1

  pub held_tried : (one : Event) (world : Played) (these : Links) → Held world these → Held (after world one) (run_links (events_tried one world) these)
  held_tried one world these h =
      let followed = tried_followed laws sited station once one world these h.has
      in record { has = followed.has; is = tried_reached laws sited world one h.is; ordered = ordered_then (events_tried one world) these world (after world one) h.has followed h.ordered }

  pub held_each : (events : List Event) (world : Played) (these : Links) → Held world these → Held (after_each events world) (run_links (all_events_tried events world) these)
  held_each [] world these h = h
  held_each (one ∷ others) world these h = subst (Held (after_each others (after world one))) (sym (links_both (events_tried one world) (all_events_tried others (after world one)) these))
      (held_each others (after world one) (run_links (events_tried one world) these) (held_tried one world these h))

  pub held_behind : (between : List Event) (flowing : Flowing) (before : Links) → Held flowing.state before → Held (all_tried between (round flowing)).state (links_behind between flowing before)
  held_behind between flowing before h = subst (λ (world : Played). Held world (links_behind between flowing before)) (sym (round_tried between flowing))
      (held_each (map event_of (behind_time flowing) ++ between) (after flowing.state (round_of_time flowing.state.sited.site)) (run_links (time_of_round flowing) before)
      (held_tried (round_of_time flowing.state.sited.site) flowing.state before h))

  pub held_after : (rounds : List (List Event)) (flowing : Flowing) (before : Links) → Held flowing.state before → Held (good_rounds rounds flowing).state (links_after rounds flowing before)
  held_after [] flowing before h = h
  held_after (between ∷ later_rounds) flowing before h = held_after later_rounds (all_tried between (round flowing)) (links_behind between flowing before) (held_behind between flowing before h)

  -- ---- one round

  -- What is so of the link of a signal in a round, which is in this connection before and after it.
  pub record Goes (connection : ℕ) (between : List Event) (flowing : Flowing) (before : Links) : Type 0 where
    pub held : Held flowing.state before
    pub work : Each IsWork between
    pub can : HasTime 1 flowing.state.run
    pub passed : ℕ
    pub at_work : IsAtWork (names_at sited.site place) (record { ends = seen place before; passed = passed }) (calls_on place between flowing before)
    pub opens : Each LeavesOpen (calls_on place between flowing before)
    pub room : HaveRoom (calls_on place between flowing before) (later 10000 10000 10000 (seen place before))
    pub client_before : (seen place before).client.connection ≡ Some connection
    pub server_before : (seen place before).server.connection ≡ Some connection
    pub client_behind : IsInOf Role.Client connection (seen place (links_behind between flowing before))
    pub server_behind : IsInOf Role.Server connection (seen place (links_behind between flowing before))

  module _ (connection : ℕ) (between : List Event) (flowing : Flowing) (before : Links) (g : Goes connection between flowing before) where
    abbrev timed : Played
    timed = after flowing.state (round_of_time flowing.state.sited.site)

    abbrev timed_links : Links
    timed_links = run_links (time_of_round flowing) before

    abbrev events : List Event
    events = map event_of (behind_time flowing) ++ between

    abbrev calls : List LinkEvent
    calls = run_on place (all_events_tried events timed) timed_links

    goes : refusal_of (round_of_time flowing.state.sited.site) flowing.state ≡ None
    goes = subst (λ (s : SitedTable). refusal s.site (round_of_time s.site) flowing.state.run ≡ None) (sym g.held.is.same)
        (time_may_pass sited.site flowing.state.run (has_all laws sited flowing.state.run station once g.held.is.reached) (each_can 0 (clocks_of flowing.state.run) g.can))

    abbrev sections : length sited.table.detectors ≡ length sited.site.detectors
    sections = table_sections sited.site sited.table is_table

    pub start_is : seen place (run_links (time_of_round flowing) before) ≡ later 10000 10000 10000 (seen place before)
    start_is = ap (λ (l : List LinksEvent). seen place (run_links l before)) (time_is laws sited station once sections flowing g.held.has.same goes)
        ∙ subst (λ (n : ℕ). seen place (happened_to (clock_event laws sited station once sections) before) ≡ later 10000 10000 n (seen place before)) (tens_at (links sited.site) place there_is)
        (laws.each_link_sees_its_events_event place (clock_event laws sited station once sections) before)

    pub held_timed : Held (after flowing.state (round_of_time flowing.state.sited.site)) (run_links (time_of_round flowing) before)
    held_timed = held_tried (round_of_time flowing.state.sited.site) flowing.state before g.held

    pub round_may : MayRun (names_at sited.site place) (calls_on place between flowing before) (seen place (run_links (time_of_round flowing) before))
    round_may = subst (MayRun names calls) (sym start_is) g.at_work.may.1

    pub round_due_so : Each (ComesDue (seen place (run_links (time_of_round flowing) before)).sent (seen place (run_links (time_of_round flowing) before)).time) (calls_on place between flowing before)
    round_due_so = subst (λ (ends : Ends). Each (ComesDue ends.sent ends.time) calls) (sym start_is)
        (subst (λ (n : ℕ). Each (ComesDue (later 10000 10000 10000 (seen place before)).sent n) calls) (sym (later_time (seen place before)))
        (subst (λ (s : List Sent). Each (ComesDue s ((seen place before).time + 10000)) calls) (sym (later_sent (seen place before)))
        (round_due (seen place before).sent ((seen place before).time + 10000) g.passed calls g.at_work.only g.at_work.server)))

    pub round_room : HaveRoom (calls_on place between flowing before) (seen place (run_links (time_of_round flowing) before))
    round_room = subst (HaveRoom calls) (sym start_is) g.room

    behind_is : seen place (links_behind between flowing before) ≡ run calls (seen place timed_links)
    behind_is = laws.each_link_sees_its_events_run place (calls_of_round between flowing) timed_links

    client_start : (seen place timed_links).client.connection ≡ Some connection
    client_start = ap (λ (e : Ends). e.client.connection) start_is ∙ later_client (seen place before) ∙ g.client_before

    server_start : (seen place timed_links).server.connection ≡ Some connection
    server_start = ap (λ (e : Ends). e.server.connection) start_is ∙ later_server (seen place before) ∙ g.server_before

    timely_start : Timely names (seen place timed_links)
    timely_start = held_timed.has.timely.each place there_is

    pub client_through : IsInThrough Role.Client connection (calls_on place between flowing before) (seen place (run_links (time_of_round flowing) before))
    client_through = in_through laws names are_so Role.Client connection calls (seen place timed_links) timely_start g.at_work.only round_may client_start
        (ap (λ (e : Ends). e.client.connection) (sym behind_is) ∙ g.client_behind.at, ap (λ (e : Ends). is_open e.client.link.phase) (sym behind_is) ∙ g.client_behind.opened)

    pub server_through : IsInThrough Role.Server connection (calls_on place between flowing before) (seen place (run_links (time_of_round flowing) before))
    server_through = in_through laws names are_so Role.Server connection calls (seen place timed_links) timely_start g.at_work.only round_may server_start
        (ap (λ (e : Ends). e.server.connection) (sym behind_is) ∙ g.server_behind.at, ap (λ (e : Ends). is_open e.server.link.phase) (sym behind_is) ∙ g.server_behind.opened)

    pub round_calm : Each IsCalm (map event_of (behind_time flowing) ++ between)
    round_calm = each_both IsCalm (map event_of (behind_time flowing)) between (calm_events (behind_time flowing) (behind_calm flowing)) (work_events between g.work)

    pub stands_timed : Stands laws sited station once place below connection (after flowing.state (round_of_time flowing.state.sited.site)) (run_links (time_of_round flowing) before)
    stands_timed = record {
      has = held_timed.has;
      is = held_timed.is;
      ordered = held_timed.ordered;
      client = through_here Role.Client connection calls (seen place timed_links) client_through;
      server = through_here Role.Server connection calls (seen place timed_links) server_through;
    }

    pub controls_timed : Controls laws sited station once place below connection (after flowing.state (round_of_time flowing.state.sited.site)) (run_links (time_of_round flowing) before)
    controls_timed = controls laws sited station once place below connection timed timed_links stands_timed

    -- time leaves the controller as it was
    pub timed_host : (c : ClockedControllerState SignalState) → slice_get flowing.state.run.signals place ≡ Some c → controls_timed.c.host ≡ c.host
    unfolding passed
    timed_host c found = from (later_at _ _ flowing.state.run.signals place controls_timed.c (ap (λ (l : List (ClockedControllerState SignalState)). slice_get l place) (sym signals_are) ∙ controls_timed.stands_there))
      where
        world_is : timed.run ≡ passed 10000 (replicate (nodes flowing.state.sited.site) 10000) flowing.state.run
        world_is = ap (λ (w : Played). w.run) (tried_happens flowing.state (round_of_time flowing.state.sited.site) goes) ∙ time_happens flowing.state.sited.site flowing.state.sited.table flowing.state.run

        signals_are : timed.run.signals ≡ (passed 10000 (replicate (nodes flowing.state.sited.site) 10000) flowing.state.run).signals
        signals_are = ap (λ (w : WorldState). w.signals) world_is

        from : (server : ClockedControllerState SignalState) × (slice_get flowing.state.run.signals place ≡ Some server) × (controls_timed.c.host ≡ server.host)
            × (controls_timed.c.connection ≡ server.connection) → controls_timed.c.host ≡ c.host
        from (server, e, same, still) = same ∙ ap (λ (x : ClockedControllerState SignalState). x.host) (same_Some server c (sym e ∙ found))

    many_timed : 2 ≤ length (seen place before).server.taken → 2 ≤ length (timed_links.ends place).server.taken
    many_timed many = let e = ap (λ (x : Ends). length x.server.taken) start_is in let l = ap length (later_server_taken (seen place before)) in omega (arith, e, l, many)

    pub leads_through : 2 ≤ length (seen place before).server.taken → Leads laws sited station once place below connection (map event_of (behind_time flowing) ++ between) (after flowing.state (round_of_time flowing.state.sited.site)) (run_links (time_of_round flowing) before) controls_timed.c
    leads_through many = leads laws sited station once place below connection events timed timed_links stands_timed controls_timed round_calm (client_through, server_through) (many_timed many)

    -- the reports of a round
    pub round_gives_few : (c new : ClockedControllerState SignalState) → slice_get flowing.state.run.signals place ≡ Some c → slice_get (all_tried between (round flowing)).state.run.signals place ≡ Some new → 2 ≤ length (seen place before).server.taken → GivesFew c new
    round_gives_few c new found found_then many =
        let l = leads_through many
        in let same : l.controls_so.c ≡ new = same_Some l.controls_so.c new (sym l.controls_so.stands_there ∙ (ap (λ (w : Played). slice_get w.run.signals place) (sym (round_tried between flowing)) ∙ found_then))
        in few_so (timed_host c found) (subst (GivesFew controls_timed.c) same l.gives_few)
      where
        few_so : controls_timed.c.host ≡ c.host → GivesFew controls_timed.c new → GivesFew c new
        few_so e few = subst (λ (h : HostState SignalState). new.host.link.given + owed new.host.object + h.link.taken ≤ h.link.given + owed h.object + new.host.link.taken) e few

    -- what was taken stays taken
    pub round_grows : 2 ≤ length (seen place before).server.taken → length (seen place before).server.taken ≤ length (seen place (links_behind between flowing before)).server.taken
    round_grows many =
        let l = leads_through many
        in let g = l.grows
        in let a = controls_timed.taken_is
        in let b = l.controls_so.taken_is
        in let e = ap (λ (x : Ends). length x.server.taken) start_is
        in let t = ap length (later_server_taken (seen place before))
        in omega (arith, g, a, b, e, t)

    -- a controller has taken no more after the round than was given before it
    pub taken_most : length (seen place (links_behind between flowing before)).server.taken ≤ length (seen place before).client.given
    taken_most =
        let safe = (laws.order_is_safe names single ran.1 connection client_at server_at).0
        in let n = ap length safe.beginning ∙ length-append single.server.taken safe.rest
        in let t = ap (λ (e : EndState). length e.taken) ra.server.1
        in let b = ap (λ (e : Ends). length e.server.taken) behind_is
        in let c = ap (λ (e : EndState). length e.given) ra.client
        in let s = ap (λ (e : Ends). length e.client.given) start_is
        in let l = ap length (later_given (seen place before))
        in omega (arith, n, t, b, c, s, l)
      where
        start : Ends
        start = seen place timed_links

        ra : RunsAlone names (alone connection calls) calls start start
        ra = runs_alone laws names are_so connection start.sent start.time calls start start g.at_work.only round_due_so round_may server_through
            (record { same = (start.server.left, refl); at = server_start; time_is = refl; timely = timely_start; there = λ datagram is. is })

        single : Ends
        single = run (alone connection calls) start

        ran : Timely names single × Ordered names single
        ran = run_timely laws names are_so (alone connection calls) start ra.may timely_start held_timed.ordered

        client_at : single.client.connection ≡ Some connection
        client_at = ap (λ (e : EndState). e.connection) ra.client ∙ client_start

        server_at : single.server.connection ≡ Some connection
        server_at = ap (λ (e : EndState). e.connection) ra.server.1 ∙ (ap (λ (e : Ends). e.server.connection) (sym behind_is) ∙ g.server_behind.at)

    -- ---- what is given between this round and the next

    abbrev due_events : List Event
    due_events = map event_of (behind_time flowing)

    abbrev pub even : Played
    even = after_each (map event_of (behind_time flowing)) (after flowing.state (round_of_time flowing.state.sited.site))

    abbrev pub even_links : Links
    even_links = run_links (all_events_tried (map event_of (behind_time flowing)) (after flowing.state (round_of_time flowing.state.sited.site))) (run_links (time_of_round flowing) before)

    abbrev due_calls : List LinkEvent
    due_calls = run_on place (all_events_tried due_events timed) timed_links

    abbrev between_calls : List LinkEvent
    between_calls = run_on place (all_events_tried between even) even_links

    calls_split : calls ≡ due_calls ++ between_calls
    calls_split = ap (λ (l : List LinksEvent). run_on place l timed_links) (events_both due_events between timed) ∙ on_both place (all_events_tried due_events timed) (all_events_tried between even) timed_links

    even_is : seen place even_links ≡ run due_calls (seen place timed_links)
    even_is = laws.each_link_sees_its_events_run place (all_events_tried due_events timed) timed_links

    pub held_even : Held (after_each (map event_of (behind_time flowing)) (after flowing.state (round_of_time flowing.state.sited.site))) even_links
    held_even = held_each due_events timed timed_links held_timed

    behind_even : seen place (links_behind between flowing before) ≡ run between_calls (seen place even_links)
    behind_even = behind_is ∙ ap (λ (l : List LinkEvent). run l (seen place timed_links)) calls_split ∙ run_both due_calls between_calls (seen place timed_links) ∙ ap (run between_calls) (sym even_is)

    through_even : (who : Role) → IsInThrough who connection calls (seen place timed_links) → IsInThrough who connection between_calls (seen place even_links)
    through_even who is = subst (IsInThrough who connection between_calls) (sym even_is)
        (through_front who connection due_calls between_calls (seen place timed_links) (subst (λ (l : List LinkEvent). IsInThrough who connection l (seen place timed_links)) calls_split is)).1

    client_even : IsInOf Role.Client connection (seen place even_links)
    client_even = through_here Role.Client connection between_calls (seen place even_links) (through_even Role.Client client_through)

    server_even : IsInOf Role.Server connection (seen place even_links)
    server_even = through_here Role.Server connection between_calls (seen place even_links) (through_even Role.Server server_through)

    pub stands_there : Stands laws sited station once place below connection (after_each (map event_of (behind_time flowing)) (after flowing.state (round_of_time flowing.state.sited.site))) even_links
    stands_there = record { has = held_even.has; is = held_even.is; ordered = held_even.ordered; client = client_even; server = server_even }

    giving_only : Each IsGiving between_calls
    giving_only = all_give place (all_events_tried between even) even_links (all_say_so between even g.work)
        (each_part LeavesOpen due_calls between_calls (subst (Each LeavesOpen) calls_split g.opens)).1

    pub none_taken_between : length (seen place (links_behind between flowing before)).server.taken ≡ length (seen place even_links).server.taken
    none_taken_between = ap (λ (e : Ends). length e.server.taken) behind_even ∙ none_taken between_calls (seen place even_links) giving_only

    pub taken_even : length (seen place even_links).server.taken ≤ length (seen place even_links).client.given
    taken_even =
        let safe = (laws.order_is_safe names (seen place even_links) held_even.ordered connection client_even.at server_even.at).0
        in let n = ap length safe.beginning ∙ length-append (seen place even_links).server.taken safe.rest
        in omega (arith, n)

    pub gives_last : ((seen place (links_behind between flowing before)).client.link.given ≡ (seen place even_links).client.link.given → ⊥)
        → GaveLast (names_at sited.site place) connection (seen place (links_behind between flowing before)).client.link (seen place (links_behind between flowing before)).sent
    gives_last differ = by_given (subst (HasGiven laws names are_so connection first_link) (sym behind_even)
        (all_given laws names are_so connection first_link between_calls (seen place even_links) (held_even.has.timely.each place there_is) giving_only may_even (through_even Role.Client client_through) room_even client_even.at (inl refl)))
      where
        first_link : LinkState
        first_link = (seen place even_links).client.link

        may_even : MayRun names between_calls (seen place even_links)
        may_even = subst (MayRun names between_calls) (sym even_is) (may_front names due_calls between_calls (seen place timed_links) (subst (λ (l : List LinkEvent). MayRun names l (seen place timed_links)) calls_split round_may)).1

        room_even : HaveRoom between_calls (seen place even_links)
        room_even = subst (HaveRoom between_calls) (sym even_is) (room_behind due_calls between_calls (seen place timed_links) (subst (λ (l : List LinkEvent). HaveRoom l (seen place timed_links)) calls_split round_room))

        by_given : HasGiven laws names are_so connection first_link (seen place (links_behind between flowing before))
            → GaveLast names connection (seen place (links_behind between flowing before)).client.link (seen place (links_behind between flowing before)).sent
        by_given (inl same) = absurd (differ (ap (λ (l : LinkState). l.given) same))
        by_given (inr gave) = gave

    -- ---- within what comes between

    module _ (front rest : List Event) (parts : between ≡ front ++ rest) where
      abbrev pub middle : Played
      middle = after_each front even

      abbrev pub middle_links : Links
      middle_links = run_links (all_events_tried front even) even_links

      abbrev front_calls : List LinkEvent
      front_calls = run_on place (all_events_tried front even) even_links

      abbrev rest_calls : List LinkEvent
      rest_calls = run_on place (all_events_tried rest middle) middle_links

      parts_are : between_calls ≡ front_calls ++ rest_calls
      parts_are = ap (λ (l : List Event). run_on place (all_events_tried l even) even_links) parts ∙ (ap (λ (l : List LinksEvent). run_on place l even_links) (events_both front rest even)
          ∙ on_both place (all_events_tried front even) (all_events_tried rest middle) even_links)

      middle_is : seen place middle_links ≡ run front_calls (seen place even_links)
      middle_is = laws.each_link_sees_its_events_run place (all_events_tried front even) even_links

      pub held_middle : Held middle middle_links
      held_middle = held_each front even even_links held_even

      in_middle : (who : Role) → IsInThrough who connection between_calls (seen place even_links) → IsInOf who connection (seen place middle_links)
      in_middle who is = subst (IsInOf who connection) (sym middle_is) (through_here who connection rest_calls (run front_calls (seen place even_links))
          (through_front who connection front_calls rest_calls (seen place even_links) (subst (λ (l : List LinkEvent). IsInThrough who connection l (seen place even_links)) parts_are is)).1)

      pub stands_middle : Stands laws sited station once place below connection middle middle_links
      stands_middle = record {
        has = held_middle.has;
        is = held_middle.is;
        ordered = held_middle.ordered;
        client = in_middle Role.Client (through_even Role.Client client_through);
        server = in_middle Role.Server (through_even Role.Server server_through);
      }

      pub middle_gave : length (seen place even_links).client.given ≤ length (seen place middle_links).client.given
      middle_gave = subst (λ (e : Ends). length (seen place even_links).client.given ≤ length e.client.given) (sym middle_is)
          (none_lost front_calls (seen place even_links) (each_split IsGiving front_calls rest_calls (subst (Each IsGiving) parts_are giving_only)).0)
