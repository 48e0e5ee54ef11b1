-- The links of a station come up, as long as nothing closes them.
use Rattle.simulator_recovery.proofs.Words.Basics.{◌≡◌, ℕ, ◌+◌, ◌-◌, ◌<◌, Bool, true, false, nat_lt, Option, Some, None, List, [], ◌∷◌, ◌++◌, length, map, refl, sym, subst, arith, ltb-true, ltb-false, ◌≢◌, zero, suc, inl, inr, drop, ◌*◌, ◌≤◌, ◌==◌, if◌then◌else◌, ap, ◌∙◌, nat_tests}
use Rattle.simulator_recovery.proofs.Words.Links.{Each, Closes, Opens, Receives, Sends, Ticks, CallsOn, LinksEvent, LosesAny, PassesFor, RestartsOn, Role, AreUp, Flow, flow_after, BeginAtWork, WereSent, AreAtWork, HaveRoom, LeavesOpen, StayBelow, recovery_rounds_at_work, work_round, work_rounds, AreTimely, Sent, Calls, Elsewhere, Event as LinkEvent, IsAmong, IsRun, run, AreLinks, Links, begun, events_on, happened_to, of_link, run_links, run_on, seen, sent_by, start_of, Names, Ends, later, is_up}
use Rattle.simulator_recovery.proofs.Words.Interlockings.{IsTableOf, SitedTable, Table}
use Rattle.simulator_recovery.proofs.Words.Stations.{Site, Once, IsStation, Event, Refused, Flowing, round, round_of_time, links, refusal, WorldState, Played, after, refusal_of, events_of, IsReached, AreLinksOf, names_at, starts_at_zero, partners, IsStanding}
use Rattle.simulator_recovery.proofs.Words.Recovery.{FillsNoWindowOn, LeavesClientOpen, LeavesOpenOn, LeavesServerOpen, all_events_tried, behind_time, calls_of_round, event_of, events_tried, events_where, all_tried, LawsBelow, HasRoomOn, HaveRoomOn, IsAtWorkOn, IsUpOn, StayBelowOn, StaysBelowLimit, calls_on, flow_of, link_rounds, links_behind, time_of_round, HasTime, IsWork, LeavesFresh, arrivals, clocks_of, good_rounds}
use Rattle.simulator_recovery.proofs.Lemmas.Ground.EndCalls.{each_both, IsCallOn, at_place}
use Rattle.simulator_recovery.proofs.Lemmas.Rounds.Rounds.{IsAt, round_reached, tried_reached, work_reached, each_can, each_later, has_all, one_round}
use Rattle.simulator_recovery.proofs.Lemmas.Windows.SignalWindows.{signal_leaves}
use Rattle.simulator_recovery.proofs.Lemmas.Windows.PointWindows.{point_leaves}
use Rattle.simulator_recovery.proofs.Lemmas.Windows.DetectorWindows.{detector_leaves}
use Rattle.simulator_recovery.proofs.Lemmas.Windows.StationCloses.{stay_open}
use Rattle.simulator_recovery.proofs.Lemmas.Windows.OpenHosts.{close_none}
use Rattle.simulator_recovery.proofs.Lemmas.Ground.ClientItem.{partners_length}
use Rattle.simulator_recovery.proofs.Lemmas.Rounds.Arrives.{due_in_order, none_refused}
use Rattle.simulator_recovery.proofs.Lemmas.Rounds.AtWork.{all_from, all_has, clock_event, fresh_come, round_at_work, table_sections, time_is}
use Rattle.simulator_recovery.proofs.Lemmas.Rounds.Clocks.{HasAll, time_may_pass}
use Rattle.simulator_recovery.proofs.Lemmas.Rounds.LinkRounds.{Followed, HasThese, after_each, all_followed, are_links, links_both, may_both, round_called, round_tried, tens_at}
use Rattle.simulator_recovery.proofs.Lemmas.Rounds.Sends.{leaves_fresh}

-- ---- no event closes a link, and so no good round does

-- ---- an event

one_stays : (link : ℕ) (one : LinksEvent) → FillsNoWindowOn link one → LeavesClientOpen one → LeavesServerOpen one → LeavesOpenOn link one
one_stays link (CallsOn at Role.Client (Closes why)) so client server = so client
one_stays link (CallsOn at Role.Server (Closes why)) so client server = absurd server
one_stays link (CallsOn at who Ticks) so client server = tt
one_stays link (CallsOn at who Opens) so client server = tt
one_stays link (CallsOn at who (Sends item)) so client server = tt
one_stays link (CallsOn at who (Receives bytes connection)) so client server = tt
one_stays link (PassesFor elapsed of_clients of_servers) so client server = tt
one_stays link (LosesAny bytes) so client server = tt
one_stays link (RestartsOn at who clock first) so client server = tt

all_stay : (link : ℕ) (events : List LinksEvent) → Each (FillsNoWindowOn link) events → Each LeavesClientOpen events → Each LeavesServerOpen events → Each (LeavesOpenOn link) events
all_stay link [] so clients servers = tt
all_stay link (first ∷ others) so clients servers = (one_stays link first so.0 clients.0 servers.0, all_stay link others so.1 clients.1 servers.1)

-- the link is that of a signal, of a point or of a detector
fills_none : LawsBelow → (site : Site) (table : Table) (world : WorldState) (happening : Event) (link : ℕ) → IsStation site → Once site → IsTableOf site table → IsReached site table world
    → refusal site happening world ≡ None → link < links site → Each (FillsNoWindowOn link) (events_of site table happening world)
fills_none laws site table world happening link station once is_table reached may there = choose (nat_lt link (length site.signals)) refl (nat_lt link (length site.signals + length site.points)) refl
  where
    Fills : ℕ → Type 0
    Fills of = Each (FillsNoWindowOn of) (events_of site table happening world)

    choose : (a : Bool) → nat_lt link (length site.signals) ≡ a → (b : Bool) → nat_lt link (length site.signals + length site.points) ≡ b → Fills link
    choose true e b f = signal_leaves laws site table station once world reached link (ltb-true _ _ e) happening may
    choose false e true f = subst Fills (omega (arith, ltb-false _ _ e)) (point_leaves laws site table station once is_table (link - length site.signals) (omega (arith, ltb-false _ _ e, ltb-true _ _ f)) world reached happening may)
    choose false e false f = subst Fills (omega (arith, ltb-false _ _ f)) (detector_leaves laws site table station once (link - (length site.signals + length site.points)) (omega (arith, ltb-false _ _ f, there)) world reached happening may)

pub closes_none : LawsBelow → (site : Site) (table : Table) (world : WorldState) (happening : Event) (link : ℕ) → IsStation site → Once site → IsTableOf site table → IsReached site table world
    → refusal site happening world ≡ None → link < links site → Each (LeavesOpenOn link) (events_of site table happening world)
closes_none laws site table world happening link station once is_table reached may there = all_stay link (events_of site table happening world)
    (fills_none laws site table world happening link station once is_table reached may there)
    (stay_open laws site table station once is_table world reached happening may) (close_none laws site table station once is_table world reached happening may)

-- ---- good rounds

-- the calls of many rounds
abbrev pub calls_of_rounds : List (List Event) → Flowing → List (List LinksEvent)
calls_of_rounds [] flowing = []
calls_of_rounds (between ∷ later) flowing = calls_of_round between flowing ∷ calls_of_rounds later (all_tried between (round flowing))

module _ (laws : LawsBelow) (sited : SitedTable) (station : IsStation sited.site) (once : Once sited.site) (is_table : IsTableOf sited.site sited.table) (link : ℕ) (there : link < links sited.site) where
  tried_stays : (one : Event) (world : Played) → IsAt sited world → Each (LeavesOpenOn link) (events_tried one world)
  tried_stays one world is = by_refusal (refusal_of one world) refl
    where
      events : List LinksEvent
      events = events_of world.sited.site world.sited.table one world.run

      reached : IsReached world.sited.site world.sited.table world.run
      reached = subst (λ (s : SitedTable). IsReached s.site s.table world.run) (sym is.same) is.reached

      station_so : IsStation world.sited.site
      station_so = subst (λ (s : SitedTable). IsStation s.site) (sym is.same) station

      once_so : Once world.sited.site
      once_so = subst (λ (s : SitedTable). Once s.site) (sym is.same) once

      is_table_so : IsTableOf world.sited.site world.sited.table
      is_table_so = subst (λ (s : SitedTable). IsTableOf s.site s.table) (sym is.same) is_table

      there_so : link < links world.sited.site
      there_so = subst (λ (s : SitedTable). link < links s.site) (sym is.same) there

      by_refusal : (why : Option Refused) → refusal_of one world ≡ why → Each (LeavesOpenOn link) (events_where why events)
      by_refusal (Some why) e = tt
      by_refusal None e = closes_none laws world.sited.site world.sited.table world.run one link station_so once_so is_table_so reached e there_so

  all_tried_stay : (list : List Event) (world : Played) → IsAt sited world → Each (LeavesOpenOn link) (all_events_tried list world)
  all_tried_stay [] world is = tt
  all_tried_stay (first ∷ others) world is = each_both (LeavesOpenOn link) (events_tried first world) (all_events_tried others (after world first))
      (tried_stays first world is) (all_tried_stay others (after world first) (tried_reached laws sited world first is))

  pub rounds_stay : (rounds : List (List Event)) (flowing : Flowing) → IsAt sited flowing.state → Each (Each (LeavesOpenOn link)) (calls_of_rounds rounds flowing)
  rounds_stay [] flowing is = tt
  rounds_stay (between ∷ later) flowing is = (
    all_tried_stay (map event_of (behind_time flowing) ++ between) (after flowing.state (round_of_time flowing.state.sited.site)) (tried_reached laws sited flowing.state (round_of_time flowing.state.sited.site) is),
    rounds_stay later (all_tried between (round flowing)) (work_reached laws sited between (round flowing) (round_reached laws sited flowing is)),
  )

-- ---- the links of a station come up, as long as nothing closes them

-- ---- what closes no link, as the link sees it

not_same : (a b : ℕ) → a ≢ b → (a == b) ≡ false
not_same a b differ = choose (a == b) refl
  where
    same : (a == b) ≡ true → a ≡ b
    same e = grind (arith, nat_tests)

    choose : (c : Bool) → (a == b) ≡ c → c ≡ false
    choose true e = absurd (differ (same e))
    choose false e = refl

one_open : (link : ℕ) (one : LinksEvent) (before : Links) → IsCallOn one → LeavesOpenOn link one → Each LeavesOpen (events_on link one before)
one_open link (CallsOn at who (Closes why)) before is open_so = subst (λ (b : Bool). Each LeavesOpen (if b then Calls who (Closes why) ∷ [] else Elsewhere (length (sent_by who (Closes why) (seen at before))) ∷ [])) (sym (not_same link at open_so)) (tt, tt)
one_open link (CallsOn at who Ticks) before is open_so = choose (link == at)
  where
    choose : (b : Bool) → Each LeavesOpen (if b then Calls who Ticks ∷ [] else Elsewhere (length (sent_by who Ticks (seen at before))) ∷ [])
    choose true = (tt, tt)
    choose false = (tt, tt)
one_open link (CallsOn at who Opens) before is open_so = choose (link == at)
  where
    choose : (b : Bool) → Each LeavesOpen (if b then Calls who Opens ∷ [] else Elsewhere (length (sent_by who Opens (seen at before))) ∷ [])
    choose true = (tt, tt)
    choose false = (tt, tt)
one_open link (CallsOn at who (Sends item)) before is open_so = choose (link == at)
  where
    choose : (b : Bool) → Each LeavesOpen (if b then Calls who (Sends item) ∷ [] else Elsewhere (length (sent_by who (Sends item) (seen at before))) ∷ [])
    choose true = (tt, tt)
    choose false = (tt, tt)
one_open link (CallsOn at who (Receives bytes connection)) before is open_so = choose (link == at)
  where
    choose : (b : Bool) → Each LeavesOpen (if b then Calls who (Receives bytes connection) ∷ [] else Elsewhere (length (sent_by who (Receives bytes connection) (seen at before))) ∷ [])
    choose true = (tt, tt)
    choose false = (tt, tt)
one_open link (PassesFor elapsed of_clients of_servers) before is open_so = absurd is
one_open link (LosesAny bytes) before is open_so = absurd is
one_open link (RestartsOn at who clock first) before is open_so = absurd is

all_open : (link : ℕ) (events : List LinksEvent) (before : Links) → Each IsCallOn events → Each (LeavesOpenOn link) events → Each LeavesOpen (run_on link events before)
all_open link [] before each open_so = tt
all_open link (first ∷ others) before each open_so =
    each_both LeavesOpen (events_on link first before) (run_on link others (happened_to first before)) (one_open link first before each.0 open_so.0) (all_open link others (happened_to first before) each.1 open_so.1)

-- ---- room, as the link sees it

module _ (sees : (link : ℕ) (one : LinksEvent) (before : Links) → seen link (happened_to one before) ≡ run (events_on link one before) (seen link before)) where
  one_room : (link : ℕ) (one : LinksEvent) (before : Links) (rest : List LinkEvent) → IsCallOn one → HasRoomOn link before → HaveRoom rest (seen link (happened_to one before)) → HaveRoom (events_on link one before ++ rest) (seen link before)
  one_room link (CallsOn at who call) before rest is room more = choose (link == at) (sees link (CallsOn at who call) before)
    where
      choose : (b : Bool) → seen link (happened_to (CallsOn at who call) before) ≡ run (if b then Calls who call ∷ [] else Elsewhere (length (sent_by who call (seen at before))) ∷ []) (seen link before)
          → HaveRoom ((if b then Calls who call ∷ [] else Elsewhere (length (sent_by who call (seen at before))) ∷ []) ++ rest) (seen link before)
      choose true e = (room.0, room.1, subst (HaveRoom rest) e more)
      choose false e = (room.0, room.1, subst (HaveRoom rest) e more)
  one_room link (PassesFor elapsed of_clients of_servers) before rest is room more = absurd is
  one_room link (LosesAny bytes) before rest is room more = absurd is
  one_room link (RestartsOn at who clock first) before rest is room more = absurd is

  all_room : (link : ℕ) (events : List LinksEvent) (before : Links) → Each IsCallOn events → HaveRoomOn link events before → HaveRoom (run_on link events before) (seen link before)
  all_room link [] before each room = room
  all_room link (first ∷ others) before each room = one_room link first before (run_on link others (happened_to first before)) each.0 room.0 (all_room link others (happened_to first before) each.1 room.1)

-- ---- many rounds

-- the rounds of a link
abbrev pub lists_on : ℕ → List (List Event) → Flowing → Links → List (List LinkEvent)
lists_on link [] flowing before = []
lists_on link (between ∷ later) flowing before = calls_on link between flowing before ∷ lists_on link later (all_tried between (round flowing)) (links_behind between flowing before)

pub lists_length : (link : ℕ) (rounds : List (List Event)) (flowing : Flowing) (before : Links) → length (lists_on link rounds flowing before) ≡ length rounds
lists_length link [] flowing before = refl
lists_length link (between ∷ later) flowing before = ap suc (lists_length link later (all_tried between (round flowing)) (links_behind between flowing before))

pub rounds_open : (link : ℕ) (rounds : List (List Event)) (flowing : Flowing) (before : Links) → Each (Each IsWork) rounds → Each (Each (LeavesOpenOn link)) (calls_of_rounds rounds flowing) → Each (Each LeavesOpen) (lists_on link rounds flowing before)
rounds_open link [] flowing before work open_so = tt
rounds_open link (between ∷ later) flowing before work open_so = (
  all_open link (calls_of_round between flowing) (run_links (time_of_round flowing) before) (round_called between flowing (after flowing.state (round_of_time flowing.state.sited.site)) work.0) open_so.0,
  rounds_open link later (all_tried between (round flowing)) (links_behind between flowing before) work.1 open_so.1,
)

-- the links after these rounds
abbrev pub links_after : List (List Event) → Flowing → Links → Links
links_after [] flowing before = before
links_after (between ∷ later) flowing before = links_after later (all_tried between (round flowing)) (links_behind between flowing before)

-- ---- a first round

among_drop : (n : ℕ) (ds all : List Sent) → ((d : Sent) → IsAmong d ds → IsAmong d all) → WereSent all (drop n ds)
among_drop n [] all turn = none n
  where
    none : (n : ℕ) → WereSent all (drop n [])
    none zero = tt
    none (suc n) = tt
among_drop zero (d ∷ ds) all turn = (turn d (inl refl), among_drop zero ds all (λ x is. turn x (inr is)))
among_drop (suc n) (d ∷ ds) all turn = among_drop n ds all (λ x is. turn x (inr is))

-- rounds at work begin with one in which only that comes which was sent before
pub rounds_begin : (names : Names) (rounds : List (List LinkEvent)) (f : Flow) → AreAtWork names rounds f → BeginAtWork names rounds f
rounds_begin names [] f work = tt
rounds_begin names (calls ∷ others) f (first, work) = (
  record {
    due = drop f.passed f.ends.sent;
    comes = inl (among_drop f.passed f.ends.sent f.ends.sent (λ d is. is));
    may = first.may;
    only = first.only;
    client = first.client;
    server = first.server;
  },
  work,
)

-- rounds at work; or such of which the first is one in which anything may come that was sent before
abbrev pub WorkFrom : Bool → Names → List (List LinkEvent) → Flow → Type 0
WorkFrom true names rounds f = BeginAtWork names rounds f
WorkFrom false names rounds f = AreAtWork names rounds f

pub begins_so : (any_first : Bool) (names : Names) (rounds : List (List LinkEvent)) (f : Flow) → WorkFrom any_first names rounds f → BeginAtWork names rounds f
begins_so true names rounds f work = work
begins_so false names rounds f work = rounds_begin names rounds f work

-- A link goes through rounds at work, one for each good round of the station.
pub record RoundsOn (any_first : Bool) (site : Site) (link : ℕ) (rounds : List (List Event)) (f : Flow) (new : Flowing) (before : Links) : Type 0 where
  pub after : Links
  pub are : AreLinksOf site (good_rounds rounds new).state.run after
  pub work : WorkFrom any_first (names_at site link) (lists_on link rounds new before) f
  pub ends : seen link after ≡ (work_rounds (lists_on link rounds new before) f).ends
  pub below : StayBelowOn link rounds new before → StayBelow (lists_on link rounds new before) f
  pub after_is : after ≡ links_after rounds new before

abbrev flow_with : Ends → ℕ → Flow
flow_with ends passed = record { ends = ends; passed = passed }

module _ (laws : LawsBelow) (sited : SitedTable) (station : IsStation sited.site) (once : Once sited.site) (is_table : IsTableOf sited.site sited.table) (link : ℕ) (there : link < links sited.site) where
  pub sections : length sited.table.detectors ≡ length sited.site.detectors
  sections = table_sections sited.site sited.table is_table

  -- the time of a round leaves room at the ends as they are later
  later_room : (new : Flowing) (before : Links) (events : List LinkEvent) → time_of_round new ≡ clock_event laws sited station once sections ∷ []
      → HaveRoom events (seen link (run_links (time_of_round new) before)) → HaveRoom events (later 10000 10000 10000 (seen link before))
  later_room new before events time room = subst (HaveRoom events) (ap (λ (l : List LinksEvent). seen link (run_links l before)) time
      ∙ subst (λ (n : ℕ). seen link (happened_to (clock_event laws sited station once sections) before) ≡ later 10000 10000 n (seen link before)) (tens_at (links sited.site) link there)
      (laws.each_link_sees_its_events_event link (clock_event laws sited station once sections) before)) room

  -- a round, and those after it
  pub one_before : (any_first : Bool) (passed : ℕ) (between : List Event) (later_rounds : List (List Event)) (new : Flowing) (before : Links) → Each IsWork between
      → time_of_round new ≡ clock_event laws sited station once sections ∷ []
      → AreLinksOf sited.site new.state.run before
      → seen link (links_behind between new before) ≡ (work_round (calls_on link between new before) (flow_of link passed before)).ends
      → (AreAtWork (names_at sited.site link) (lists_on link later_rounds (all_tried between (round new)) (links_behind between new before))
      (work_round (calls_on link between new before) (flow_of link passed before))
      → WorkFrom any_first (names_at sited.site link) (lists_on link (between ∷ later_rounds) new before) (flow_of link passed before))
      → RoundsOn false sited.site link later_rounds (flow_of link (length (of_link link new.state.run.sent)) (links_behind between new before))
      (all_tried between (round new)) (links_behind between new before)
      → RoundsOn any_first sited.site link (between ∷ later_rounds) (flow_of link passed before) new before
  one_before any_first passed between later_rounds new before work time are leads with_first rest = record {
    after = more.after;
    are = more.are;
    work = with_first more.work;
    ends = more.ends;
    below = λ stay. (
      later_room new before (calls_on link between new before) time
          (all_room laws.each_link_sees_its_events_event link (calls_of_round between new) (run_links (time_of_round new) before) (round_called between new (after new.state (round_of_time new.state.sited.site)) work) stay.0),
      more.below stay.1,
    );
    after_is = more.after_is;
  }
    where
      next : Flow
      next = work_round (calls_on link between new before) (flow_of link passed before)

      two : {ends other : Ends} {n m : ℕ} → ends ≡ other → n ≡ m → flow_with ends n ≡ flow_with other m
      two e f = cc (e, f)

      is_next : flow_of link (length (of_link link new.state.run.sent)) (links_behind between new before) ≡ next
      is_next = two leads (ap (λ sent. length (of_link link sent)) (sym are.sent_is))

      more : RoundsOn false sited.site link later_rounds next (all_tried between (round new)) (links_behind between new before)
      more = subst (λ (f : Flow). RoundsOn false sited.site link later_rounds f (all_tried between (round new)) (links_behind between new before)) is_next rest

  pub one_more : (between : List Event) (later_rounds : List (List Event)) (old new : Flowing) (before : Links) → Each IsWork between
      → time_of_round new ≡ clock_event laws sited station once sections ∷ []
      → AreLinksOf sited.site new.state.run before → IsAtWorkOn sited.site link between old new before
      → RoundsOn false sited.site link later_rounds (flow_of link (length (of_link link new.state.run.sent)) (links_behind between new before))
      (all_tried between (round new)) (links_behind between new before)
      → RoundsOn false sited.site link (between ∷ later_rounds) (flow_of link (length (of_link link old.state.run.sent)) before) new before
  one_more between later_rounds old new before work time are one rest = one_before false
      (length (of_link link old.state.run.sent)) between later_rounds new before work time are one.leads (λ more. (one.work, more)) rest

  pub through : (rounds : List (List Event)) (old new : Flowing) (leaves : LeavesFresh old new) (before : Links) → HasThese sited new.state before → IsAt sited new.state → Each (Each IsWork) rounds → HasTime (length rounds) new.state.run
      → RoundsOn false sited.site link rounds (flow_of link (length (of_link link old.state.run.sent)) before) new before
  through [] old new leaves before has is work can = record { after = before; are = has.are; work = tt; ends = refl; below = λ stay. tt; after_is = refl }
  through (between ∷ later_rounds) old new leaves before has is work can =
      let same = is.same
      in let all = has_all laws sited new.state.run station once is.reached
      in let clocks = clocks_of new.state.run
      in let able = each_can (length later_rounds) clocks can
      in let goes = subst (λ (s : SitedTable). refusal s.site (round_of_time s.site) new.state.run ≡ None) (sym is.same) (time_may_pass sited.site new.state.run all able)
      in let from = all_from sited.site before old.state.run.sent leaves.more has.timely (has.are.sent_is ∙ leaves.sent)
      in let arrive = none_refused laws old new leaves (subst (λ (s : SitedTable). Once s.site) (sym is.same) once) (subst (λ (s : SitedTable). IsStation s.site) (sym is.same) station)
      (subst (λ (s : SitedTable). IsReached s.site s.table new.state.run) (sym is.same) is.reached)
      in let comes = fresh_come laws sited station once sections old new leaves before has from arrive
      in let next = all_tried between (round new)
      in let next_has = subst (λ (world : Played). HasThese sited world (links_behind between new before)) (sym (round_tried between new))
      (all_has laws sited station once sections old new (arrivals new.passed leaves.more) (due_in_order old new leaves) between before work.0 has goes comes)
      in let next_is = work_reached laws sited between (round new) (round_reached laws sited new is)
      in let goes_on = one_round between new work.0 (subst (λ (s : SitedTable). HasAll s.site new.state.run) (sym is.same) all) able
      in one_more between later_rounds old new before work.0 (time_is laws sited station once sections new has.same goes) has.are
      (round_at_work laws sited station once sections old new (arrivals new.passed leaves.more) (due_in_order old new leaves) between before work.0 has goes comes link there)
      (through later_rounds new next (leaves_fresh between new work.0) (links_behind between new before) next_has next_is work.1
      (subst (Each (λ clock. clock + 10000 * length later_rounds ≤ 9000000000000000)) (sym goes_on.clocks) (each_later (length later_rounds) clocks can)))

  pub up_on : (world : WorldState) (after_all : Links) → AreLinksOf sited.site world after_all → AreUp (seen link after_all) → IsUpOn link world
  up_on world after_all are up =
      let id = at_place (partners sited.site) link (subst (λ (n : ℕ). link < n) (sym (partners_length sited.site)) there)
      in let client = are.clients link id.0 id.1
      in let server = are.servers link id.0 id.1
      in record {
        client = client.kept;
        client_there = client.there;
        client_up = ap (λ l. is_up l.phase) (sym client.link_is) ∙ up.0;
        server = server.kept;
        server_there = server.there;
        server_up = ap (λ l. is_up l.phase) (sym server.link_is) ∙ up.1;
      }

  -- What a first round leaves, of which nothing is asked: the links of the station, and what happened to this one before.
  pub record Begun (first : List Event) (flowing : Flowing) : Type 0 where
    pub before : Links
    pub has : HasThese sited (all_tried first (round flowing)).state before
    pub is : IsAt sited (all_tried first (round flowing)).state
    pub is_run : IsRun (names_at sited.site link) (start_of link starts_at_zero) (seen link before)
    pub later_can : (n : ℕ) → HasTime (suc n) flowing.state.run → HasTime n (all_tried first (round flowing)).state.run

  pub begun_so : (first : List Event) (flowing : Flowing) → flowing.state.sited ≡ sited → IsReached sited.site sited.table flowing.state.run → Each IsWork first → Begun first flowing
  begun_so first flowing same reached work_first = record {
    before = before;
    has = subst (λ (world : Played). HasThese sited world before) (sym (round_tried first flowing)) followed.has;
    is = work_reached laws sited first (round flowing) (round_reached laws sited flowing (record { same = same; reached = reached }));
    is_run = subst (λ (l : Links). IsRun (names_at sited.site link) (start_of link starts_at_zero) (seen link l)) (links_both standing.linked.events (all_events_tried tried flowing.state) (begun (names_at sited.site) starts_at_zero))
        (laws.each_link_is_a_run (links sited.site) (names_at sited.site) starts_at_zero (standing.linked.events ++ all_events_tried tried flowing.state) named
        (may_both (links sited.site) (names_at sited.site) standing.linked.events (all_events_tried tried flowing.state) (begun (names_at sited.site) starts_at_zero) standing.linked.may followed.may) link there);
    later_can = λ n can. subst (Each (λ clock. clock + 10000 * n ≤ 9000000000000000))
        (sym (one_round first flowing work_first (subst (λ (s : SitedTable). HasAll s.site flowing.state.run) (sym same) all) (each_can n (clocks_of flowing.state.run) can)).clocks)
        (each_later n (clocks_of flowing.state.run) can);
  }
    where
      standing : IsStanding sited.site flowing.state.run
      standing = subst (IsStanding sited.site) (sym reached.after) (laws.stations_have_links_run sited.site sited.table reached.outset reached.events station once reached.lies reached.can)

      named : AreLinks (links sited.site) (names_at sited.site)
      named = are_links laws sited station once

      these : Links
      these = run_links standing.linked.events (begun (names_at sited.site) starts_at_zero)

      tried : List Event
      tried = round_of_time flowing.state.sited.site ∷ (map event_of (behind_time flowing) ++ first)

      before : Links
      before = run_links (all_events_tried tried flowing.state) these

      these_timely : AreTimely (links sited.site) (names_at sited.site) these
      these_timely = laws.links_keep_time_run (links sited.site) (names_at sited.site) standing.linked.events (begun (names_at sited.site) starts_at_zero) named
          (laws.links_keep_time_starts (links sited.site) (names_at sited.site) starts_at_zero named) standing.linked.may

      followed : Followed sited (all_events_tried tried flowing.state) these (after_each tried flowing.state)
      followed = all_followed laws sited station once tried flowing.state these (record { same = same; whole = standing.whole; timely = these_timely; are = standing.linked.are })

      all : HasAll sited.site flowing.state.run
      all = has_all laws sited flowing.state.run station once reached

  -- Good rounds begin, after these datagrams, which no round tries any more: the links of the station, what happened to this one before, and
  -- that each of the rounds is a round at work of it.
  pub record BegunAt (old next : Flowing) : Type 0 where
    pub before : Links
    pub has : HasThese sited next.state before
    pub is : IsAt sited next.state
    pub is_run : IsRun (names_at sited.site link) (start_of link starts_at_zero) (seen link before)
    -- whether anything may come in the first of them that was sent before
    pub any_first : Bool
    pub goes : (rounds : List (List Event)) → Each (Each IsWork) rounds → HasTime (length rounds) next.state.run
        → RoundsOn any_first sited.site link rounds (flow_of link (length (of_link link old.state.run.sent)) before) next before

  -- They are rounds at work of this link, which has had a run of its own.
  module _ (old next : Flowing) (start : BegunAt old next) where
    abbrev pub passed_at : ℕ
    passed_at = length (of_link link old.state.run.sent)

    abbrev pub flow_at : Flow
    flow_at = flow_after (names_at sited.site link) (start_of link starts_at_zero) start.is_run.events passed_at

    is_flow : flow_of link passed_at start.before ≡ flow_at
    is_flow = ap (λ (ends : Ends). record { ends = ends; passed = passed_at }) (sym start.is_run.same)

    abbrev pub lists_at : List (List Event) → List (List LinkEvent)
    lists_at rounds = lists_on link rounds next start.before

    -- what so many rounds leave
    pub record BehindAt (rounds : List (List Event)) : Type 0 where
      pub after : Links
      pub are : AreLinksOf sited.site (good_rounds rounds next).state.run after
      pub work : WorkFrom start.any_first (names_at sited.site link) (lists_at rounds) flow_at
      pub ends : seen link after ≡ (work_rounds (lists_at rounds) flow_at).ends
      pub below : StaysBelowLimit sited.site link rounds next → StayBelow (lists_at rounds) flow_at
      pub after_is : after ≡ links_after rounds next start.before

    pub behind_at : (rounds : List (List Event)) → Each (Each IsWork) rounds → HasTime (length rounds) next.state.run → BehindAt rounds
    behind_at rounds work can = record {
      after = goes.after;
      are = goes.are;
      work = subst (WorkFrom start.any_first (names_at sited.site link) (lists_at rounds)) is_flow goes.work;
      ends = goes.ends ∙ ap (λ (f : Flow). (work_rounds (lists_at rounds) f).ends) is_flow;
      below = λ below. subst (StayBelow (lists_at rounds)) is_flow (goes.below (below start.before start.has.are));
      after_is = goes.after_is;
    }
      where
        goes : RoundsOn start.any_first sited.site link rounds (flow_of link passed_at start.before) next start.before
        goes = start.goes rounds work can

    pub up_at : (rounds : List (List Event)) → (b : BehindAt rounds) → Each (Each LeavesOpen) (lists_at rounds) → StayBelow (lists_at rounds) flow_at → recovery_rounds_at_work ≤ length (lists_at rounds) → AreUp (seen link b.after)
    up_at rounds b open_so below long = subst AreUp (sym b.ends)
        (laws.two_ends_at_work_come_up (names_at sited.site link) (start_of link starts_at_zero) start.is_run.events passed_at (lists_at rounds)
        ((are_links laws sited station once).each link there) start.is_run.may
        (begins_so start.any_first (names_at sited.site link) (lists_at rounds) flow_at b.work) open_so below long)

  -- The rounds after a first one.
  module _ (first : List Event) (flowing : Flowing) (work_first : Each IsWork first) (start : Begun first flowing) where
    abbrev pub begun_at : BegunAt flowing (all_tried first (round flowing))
    begun_at = record {
      before = start.before;
      has = start.has;
      is = start.is;
      is_run = start.is_run;
      any_first = false;
      goes = λ rounds work can. through rounds flowing (all_tried first (round flowing)) (leaves_fresh first flowing work_first) start.before start.has start.is work can;
    }

    abbrev pub flow_then : Flow
    flow_then = flow_at flowing (all_tried first (round flowing)) begun_at

    abbrev pub BehindRounds : List (List Event) → Type 0
    BehindRounds rounds = BehindAt flowing (all_tried first (round flowing)) begun_at rounds

    pub behind_rounds : (rounds : List (List Event)) → Each (Each IsWork) rounds → HasTime (length rounds) (all_tried first (round flowing)).state.run → BehindRounds rounds
    behind_rounds rounds work can = behind_at flowing (all_tried first (round flowing)) begun_at rounds work can

pub come_up : LawsBelow → (between : List Event) (later_rounds : List (List Event)) (flowing : Flowing) (link : ℕ) → Once flowing.state.sited.site → IsStation flowing.state.sited.site
    → IsTableOf flowing.state.sited.site flowing.state.sited.table → IsReached flowing.state.sited.site flowing.state.sited.table flowing.state.run → Each IsWork between → Each (Each IsWork) later_rounds
    → HasTime (suc (length later_rounds)) flowing.state.run → link < links flowing.state.sited.site → link_rounds ≤ suc (length later_rounds)
    → StaysBelowLimit flowing.state.sited.site link later_rounds (all_tried between (round flowing)) → IsUpOn link (good_rounds (between ∷ later_rounds) flowing).state.run
come_up laws between later_rounds flowing link once station is_table reached work works can there long below =
    let sited = flowing.state.sited
    in let start = begun_so laws sited station once is_table link there between flowing refl reached work
    in let next = all_tried between (round flowing)
    in let b = behind_rounds laws sited station once is_table link there between flowing work start later_rounds works (start.later_can (length later_rounds) can)
    in let many = lists_length link later_rounds next start.before
    in up_on laws sited station once is_table link there (good_rounds later_rounds next).state.run b.after b.are
    (up_at laws sited station once is_table link there flowing next (begun_at laws sited station once is_table link there between flowing work start) later_rounds b (rounds_open link later_rounds next start.before works (rounds_stay laws sited station once is_table link there later_rounds next start.is)) (b.below below) (omega (arith, long, many)))
