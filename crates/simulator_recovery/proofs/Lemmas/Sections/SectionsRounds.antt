-- What is told of a section by one good round is known after the next.
use Rattle.simulator_recovery.proofs.Words.Basics.{◌≡◌, ℕ, suc, ◌-◌, ◌<◌, ◌≤◌, ◌∙◌, Bool, true, false, nat_lt, List, [], ◌∷◌, ◌++◌, length, map, Option, Some, None, slice_get, slice_index_or, refl, sym, ap, subst, arith, nat_tests, same_Some, slice_get_within}
use Rattle.simulator_recovery.proofs.Words.Links.{Each, reading_of, window_size, LinkState, is_up}
use Rattle.simulator_recovery.proofs.Words.Controllers.{is_completed, Stage, Section}
use Rattle.simulator_recovery.proofs.Words.Interlockings.{IsReportedIn, IsTableOf, as_section, At, SitedTable, Table}
use Rattle.simulator_recovery.proofs.Words.Stations.{Site, Once, IsStation, SectionId, Event, Refused, Flowing, round, round_of_time, happens, ServerEnd, end_of_server, Detector, Node, controller_at, detector_link, links, point_link, refusal, CanHappen, after_all, ClockedControllerState, WorldState, Played, refusal_of, world_where, IsStanding, IsWhole, IsReached}
use Rattle.simulator_recovery.proofs.Words.Recovery.{HasHandedOver, StaysBelowLimit, behind_time, event_of, HostIsAt, IsAtStage, IsReadyOn, ready_rounds, HasTime, IsWork, all_tried, clocks_of, good_rounds, name_of, section_names, HasRoomToReport, IsKnownAsItIs, LeavesSection, OwesNone, LawsBelow}
use Rattle.simulator_recovery.proofs.Lemmas.Links.HandedOver.{hands_over}
use Rattle.simulator_recovery.proofs.Lemmas.Rounds.LinkRounds.{after_each, round_tried}
use Rattle.simulator_recovery.proofs.Lemmas.Ground.EndCalls.{at_place, each_both, map_length}
use Rattle.simulator_recovery.proofs.Lemmas.Links.Ready.{count_front, each_front, fewer_time, links_ready}
use Rattle.simulator_recovery.proofs.Lemmas.Rounds.Rounds.{behind_time_are, events_are, IsAt, rounds_reached}
use Rattle.simulator_recovery.proofs.Lemmas.Sections.SectionsOver.{comes_over}
use Rattle.simulator_recovery.proofs.Lemmas.Sections.SectionsWindow.{owed_wait}
use Rattle.simulator_recovery.proofs.Lemmas.Ground.AtLink.{mapped, of_third}
use Rattle.simulator_recovery.proofs.Lemmas.Talk.ClientLinks.{up_open}
use Rattle.simulator_recovery.proofs.Lemmas.Ground.LinkCounts.{settled_open}
use Rattle.simulator_recovery.proofs.Lemmas.Ground.MatchedEnds.{all_matched}
use Rattle.simulator_recovery.proofs.Lemmas.Lamps.StopComes.{last_round}
use Rattle.simulator_recovery.proofs.Lemmas.Links.UnderHosts.{HasCompleted, hosts_completed}
use Rattle.simulator_recovery.proofs.Lemmas.Windows.WindowsAlone.{below_two}

-- ---- what is tried, as events that can happen

-- Those of the events that aren't refused.
pub record TriedAs (sited : SitedTable) (P : Event → Type 0) (tries : List Event) (world : Played) : Type 0 where
  pub events : List Event
  pub can : CanHappen sited.site sited.table events world.run
  pub leads : (after_each tries world).run ≡ after_all sited.site sited.table events world.run
  pub each : Each P events

pub tried_as : (sited : SitedTable) (P : Event → Type 0) (tries : List Event) (world : Played) → world.sited ≡ sited → Each P tries → TriedAs sited P tries world
tried_as sited P [] world same each = record { events = []; can = tt; leads = refl; each = tt }
tried_as sited P (first ∷ others) world same each = choose (refusal_of first world) refl (λ next is. tried_as sited P others next is each.1)
  where
    choose : (why : Option Refused) → refusal_of first world ≡ why → ((next : Played) → next.sited ≡ sited → TriedAs sited P others next) → TriedAs sited P (first ∷ others) world
    choose (Some why) e rest = let r = rest world same in record {
      events = r.events;
      can = r.can;
      leads = ap (λ (w : Played). (after_each others w).run) (ap (λ (o : Option Refused). world_where o world (record world { run = happens world.sited.site world.sited.table first world.run })) e) ∙ r.leads;
      each = r.each;
    }
    choose None e rest =
        let next : Played = record world { run = happens world.sited.site world.sited.table first world.run }
        in let r = rest next same
        in let then_is : next.run ≡ happens sited.site sited.table first world.run = ap (λ (s : SitedTable). happens s.site s.table first world.run) same
        in record {
          events = first ∷ r.events;
          can = (ap (λ (s : SitedTable). refusal s.site first world.run) (sym same) ∙ e, subst (CanHappen sited.site sited.table r.events) then_is r.can);
          leads = ap (λ (w : Played). (after_each others w).run) (ap (λ (o : Option Refused). world_where o world next) e) ∙ (r.leads ∙ ap (after_all sited.site sited.table r.events) then_is);
          each = (each.0, r.each);
        }

-- ---- two rounds

pub told_are_known : LawsBelow → (between : List Event) (later_rounds : List (List Event)) (last : List Event) (flowing : Flowing) (section : ℕ) (reporter : ℕ × ℕ) → Once flowing.state.sited.site → IsStation flowing.state.sited.site
    → IsTableOf flowing.state.sited.site flowing.state.sited.table → IsReached flowing.state.sited.site flowing.state.sited.table flowing.state.run → Each IsWork between → Each (Each IsWork) (later_rounds ++ last ∷ [])
    → HasTime (suc (length (later_rounds ++ last ∷ []))) flowing.state.run → slice_get flowing.state.sited.table.reporters section ≡ Some reporter → ready_rounds ≤ suc (suc (length later_rounds))
    → StaysBelowLimit flowing.state.sited.site (detector_link flowing.state.sited.site reporter.0) (later_rounds ++ last ∷ []) (all_tried between (round flowing))
    → OwesNone flowing.state.sited.table (good_rounds (between ∷ later_rounds) flowing).state.run section → Each (LeavesSection flowing.state.sited.site flowing.state.sited.table section) last
    → IsKnownAsItIs flowing.state.sited.table (good_rounds (between ∷ (later_rounds ++ last ∷ [])) flowing).state.run section
told_are_known laws between later_rounds last flowing section reporter once station is_table reached work works can reported long below owes leaves =
    subst (λ (w : WorldState). IsKnownAsItIs sited.table w section) (sym new_is)
    (comes_over laws sited.site sited.table station once is_table old.state.run tried.events section at_old.reached tried.can tried.each owes reporter reported
    (subst (λ (w : WorldState). HasHandedOver link old.state.run w) new_is over) (subst (λ (w : WorldState). IsReadyOn sited.site link w) new_is ready))
  where
    sited : SitedTable
    sited = flowing.state.sited

    link : ℕ
    link = detector_link flowing.state.sited.site reporter.0

    rounds : List (List Event)
    rounds = later_rounds ++ last ∷ []

    old : Flowing
    old = good_rounds (between ∷ later_rounds) flowing

    new : Flowing
    new = good_rounds (between ∷ (later_rounds ++ last ∷ [])) flowing

    at_old : IsAt sited old.state
    at_old = rounds_reached laws sited (between ∷ later_rounds) flowing (record { same = refl; reached = reached })

    tries : List Event
    tries = round_of_time old.state.sited.site ∷ (map event_of (behind_time old) ++ last)

    tried : TriedAs sited (LeavesSection sited.site sited.table section) tries old.state
    tried = tried_as sited (LeavesSection sited.site sited.table section) tries old.state at_old.same (
      tt,
      each_both (LeavesSection sited.site sited.table section) (map event_of (behind_time old)) last
          (events_are (LeavesSection sited.site sited.table section) (behind_time old)
          (behind_time_are (LeavesSection sited.site sited.table section) (λ node bytes. tt) (λ node. tt) (λ point position. tt) old)) leaves,
    )

    new_is : new.state.run ≡ after_all sited.site sited.table tried.events old.state.run
    new_is = ap (λ (f : Flowing). f.state.run) (last_round (between ∷ later_rounds) last flowing) ∙ (ap (λ (w : Played). w.run) (round_tried last old) ∙ tried.leads)

    there : IsReportedIn sited.site.detectors section reporter
    there = is_table.reporters.their section reporter reported

    below_links : link < links sited.site
    below_links = let a = slice_get_within sited.site.detectors reporter.0 there.0 there.1 in omega (arith, a)

    over : HasHandedOver link old.state.run new.state.run
    over = hands_over laws between later_rounds last flowing link once station is_table reached work works can below_links (omega (arith, long)) below

    ready : IsReadyOn sited.site link new.state.run
    ready = links_ready laws between rounds flowing link once station is_table reached work works can below_links (let count = count_front later_rounds last in omega (arith, long, count)) below

-- ---- where the window has room

-- the controller of a detector's link
pub detector_there : (site : Site) (place : ℕ) → place < length site.detectors → controller_at site (detector_link site place) ≡ Some (Detector place)
detector_there site place inside = rw (e, f, g) (ap (λ (n : ℕ). Some (Detector n)) here)
  where
    e : nat_lt (detector_link site place) (length site.signals) ≡ false
    e = grind (arith, nat_tests)

    f : nat_lt (detector_link site place) (point_link site (length site.points)) ≡ false
    f = grind (arith, nat_tests)

    g : nat_lt (detector_link site place) (links site) ≡ true
    g = grind (arith, nat_tests, inside)

    here : detector_link site place - detector_link site 0 ≡ place
    here = omega arith

-- a detector that has completed its initialisation and has room owes no report
pub owes_none : LawsBelow → (site : Site) (table : Table) (world : WorldState) (section : ℕ) (reporter : ℕ × ℕ) → IsStation site → Once site → IsTableOf site table → IsReached site table world → slice_get table.reporters section ≡ Some reporter
    → HasCompleted site (detector_link site reporter.0) world → HasRoomToReport table world section → OwesNone table world section
owes_none laws site table world section reporter station once is_table reached reported ready (r, r_there, room) = by_room (subst (λ (p : ℕ × ℕ). At world.detectors p.0 (λ controller. length controller.host.link.waiting < window_size)) (same_Some r reporter (sym r_there ∙ reported)) room)
  where
    there : IsReportedIn site.detectors section reporter
    there = is_table.reporters.their section reporter reported

    whole : IsWhole site world
    whole = (subst (IsStanding site) (sym reached.after) (laws.stations_have_links_run site table reached.outset reached.events station once reached.lies reached.can)).whole

    by_room : At world.detectors reporter.0 (λ controller. length controller.host.link.waiting < window_size) → OwesNone table world section
    by_room (c, e, few) = (reporter, reported, (c, e, (x.0, x.1, free x.0.owes refl)))
      where
        server_same : ready.up.server ≡ end_of_server c
        server_same = same_Some ready.up.server (end_of_server c) (sym ready.up.server_there ∙ of_third (map end_of_server world.signals) (map end_of_server world.points) _ (length site.signals) (length site.points) reporter.0 (end_of_server c)
            (map_length _ world.signals ∙ whole.signals) (map_length _ world.points ∙ whole.points) (mapped end_of_server world.detectors reporter.0 c e))

        up : is_up c.host.link.phase ≡ true
        up = ap (λ (s : ServerEnd). is_up s.link.phase) (sym server_same)
            ∙ (ap (λ (l : LinkState). is_up l.phase) (sym (settled_open (reading_of ready.up.server.clock) ready.up.server.link (up_open _ ready.up.server_up)).0) ∙ ready.up.server_up)

        completed : is_completed c.host.stage ≡ true
        completed = by_host (subst (λ (node : Option Node). HostIsAt node world Stage.Completed) (detector_there site reporter.0 (slice_get_within site.detectors reporter.0 there.0 there.1)) ready.host_ready)
          where
            by_host : IsAtStage world.detectors reporter.0 Stage.Completed → is_completed c.host.stage ≡ true
            by_host (other, f, at) = ap (λ (z : ClockedControllerState (List Section)). is_completed z.host.stage) (same_Some c other (sym e ∙ f)) ∙ ap is_completed at

        names : map name_of c.host.object ≡ section_names site there.0
        names = ((all_matched site table world reached).detectors reporter.0 c there.0 e there.1).1

        x : (one : Section) × (slice_get c.host.object reporter.1 ≡ Some one)
        x = at_place c.host.object reporter.1 (
            let long = map_length name_of c.host.object
            in let same = ap length names
            in let sections = map_length (λ (s : SectionId). slice_index_or site.sections s.0 []) there.0.sections
            in let a = slice_get_within there.0.sections reporter.1 (as_section section) there.2
            in omega (arith, long, same, sections, a))

        free : (b : Bool) → x.0.owes ≡ b → x.0.owes ≡ false
        free false f = f
        free true f = let full = owed_wait site station laws.detector_step_is_told_to_the_object once laws.stations_have_links_run table world reached reporter.0 c e up completed reporter.1 x.0 x.1 f in absurd (omega (arith, full, few))

pub told_with_room : LawsBelow → LawsBelow → (between : List Event) (later_rounds : List (List Event)) (last : List Event) (flowing : Flowing) (section : ℕ) (reporter : ℕ × ℕ) → Once flowing.state.sited.site → IsStation flowing.state.sited.site
    → IsTableOf flowing.state.sited.site flowing.state.sited.table → IsReached flowing.state.sited.site flowing.state.sited.table flowing.state.run → Each IsWork between → Each (Each IsWork) (later_rounds ++ last ∷ [])
    → HasTime (suc (length (later_rounds ++ last ∷ []))) flowing.state.run → slice_get flowing.state.sited.table.reporters section ≡ Some reporter → ready_rounds ≤ suc (suc (length later_rounds))
    → StaysBelowLimit flowing.state.sited.site (detector_link flowing.state.sited.site reporter.0) (later_rounds ++ last ∷ []) (all_tried between (round flowing))
    → HasRoomToReport flowing.state.sited.table (good_rounds (between ∷ later_rounds) flowing).state.run section → Each (LeavesSection flowing.state.sited.site flowing.state.sited.table section) last
    → IsKnownAsItIs flowing.state.sited.table (good_rounds (between ∷ (later_rounds ++ last ∷ [])) flowing).state.run section
told_with_room laws windows between later_rounds last flowing section reporter once station is_table reached work works can reported long below room leaves =
    told_are_known laws between later_rounds last flowing section reporter once station is_table reached work works can reported long below
    (owes_none windows sited.site sited.table old.state.run section reporter station once is_table at_old.reached reported completed room) leaves
  where
    sited : SitedTable
    sited = flowing.state.sited

    link : ℕ
    link = detector_link flowing.state.sited.site reporter.0

    old : Flowing
    old = good_rounds (between ∷ later_rounds) flowing

    at_old : IsAt sited old.state
    at_old = rounds_reached laws sited (between ∷ later_rounds) flowing (record { same = refl; reached = reached })

    there : IsReportedIn sited.site.detectors section reporter
    there = is_table.reporters.their section reporter reported

    below_links : link < links sited.site
    below_links = let a = slice_get_within sited.site.detectors reporter.0 there.0 there.1 in omega (arith, a)

    next : Flowing
    next = all_tried between (round flowing)

    -- the rounds but for the last stay below the limit, too
    below_front : StaysBelowLimit sited.site link later_rounds next
    below_front before are = below_two link later_rounds (last ∷ []) next before (below before are)

    completed : HasCompleted sited.site link old.state.run
    completed = hosts_completed laws between later_rounds flowing link once station is_table reached work (each_front (Each IsWork) later_rounds last works).0
        (fewer_time (suc (length later_rounds)) (suc (length (later_rounds ++ last ∷ []))) (clocks_of flowing.state.run) (let count = count_front later_rounds last in omega (arith, count)) can)
        below_links (omega (arith, long)) below_front
