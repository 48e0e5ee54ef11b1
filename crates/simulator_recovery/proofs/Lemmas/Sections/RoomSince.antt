-- The window of a detector has room where nothing was told of its sections since the good rounds began.
use Rattle.simulator_recovery.proofs.Words.Basics.{◌≡◌, inl, inr, ◌⊎◌, ℕ, suc, ◌+◌, ◌<◌, ◌≤◌, ◌∙◌, Bool, true, false, List, [], ◌∷◌, length, map, Option, Some, slice_get, refl, sym, ap, subst, arith, false≢true, same_Some, slice_get_within}
use Rattle.simulator_recovery.proofs.Words.Links.{WaitsAsGivenSince, settled, Each, AreTimely, reading_of, Links, stops_at_greatest, window_size, LinkState, is_open}
use Rattle.simulator_recovery.proofs.Words.Controllers.{HostState, is_completed, Stage, Section}
use Rattle.simulator_recovery.proofs.Words.Interlockings.{IsTableOf, SitedTable, Table}
use Rattle.simulator_recovery.proofs.Words.Stations.{DetectorEntry, Site, Once, IsStation, Event, Flowing, round, AreLinksOf, IsServerAt, ServerEnd, end_of_server, names_at, server_ends, starts_at_zero, detector_link, links, partners, ClockedControllerState, WorldState, IsStanding, links_in, IsWhole, IsReached}
use Rattle.simulator_recovery.proofs.Words.Recovery.{HostCountsByStage, HostHasGiven, IsUpOn, StaysBelowLimit, link_rounds, section_names, IsWorkElsewhere, HasTime, IsWork, all_tried, good_rounds, HasRoomToReport, LeavesSection, LawsBelow}
use Rattle.simulator_recovery.proofs.Lemmas.Ground.ClientItem.{partners_length}
use Rattle.simulator_recovery.proofs.Lemmas.Ground.SectionsEvents.{HasHeld}
use Rattle.simulator_recovery.proofs.Lemmas.Ground.AtLink.{mapped, of_third}
use Rattle.simulator_recovery.proofs.Lemmas.Talk.ClientLinks.{up_open}
use Rattle.simulator_recovery.proofs.Lemmas.Links.ComeUp.{Begun, begun_so, behind_rounds, rounds_open, up_on, rounds_stay}
use Rattle.simulator_recovery.proofs.Lemmas.Links.ConfirmedSince.{since_then}
use Rattle.simulator_recovery.proofs.Lemmas.Ground.ControllersOnLinks.{Lists, lists_at, lists_of}
use Rattle.simulator_recovery.proofs.Lemmas.Ground.LinkCounts.{settled_open}
use Rattle.simulator_recovery.proofs.Lemmas.Rounds.LinkRounds.{are_links}
use Rattle.simulator_recovery.proofs.Lemmas.Ground.EndCalls.{at_place, map_length}
use Rattle.simulator_recovery.proofs.Lemmas.Points.QuietRounds.{each_as}
use Rattle.simulator_recovery.proofs.Lemmas.Links.Ready.{IsUpBehind, ups}
use Rattle.simulator_recovery.proofs.Lemmas.Rounds.Rounds.{IsAt, rounds_reached}
use Rattle.simulator_recovery.proofs.Lemmas.Sections.SectionsAlways.{Reporting, reporting_first, reporting_held, reporting_on, timely_of}
use Rattle.simulator_recovery.proofs.Lemmas.Sections.SectionsAnew.{InThatOrOnce, IsOnce, that_or_once}
use Rattle.simulator_recovery.proofs.Lemmas.Sections.SectionsCalls.{DetectorSays}
use Rattle.simulator_recovery.proofs.Lemmas.Sections.SectionsController.{TellsSections}
use Rattle.simulator_recovery.proofs.Lemmas.Sections.SectionsInCount.{Counted, IsFew, Quiet, ToldOf, keeps, said_all, tellings}
use Rattle.simulator_recovery.proofs.Lemmas.Sections.SectionsInitial.{length_is}
use Rattle.simulator_recovery.proofs.Lemmas.Sections.SectionsInRound.{completed_said}
use Rattle.simulator_recovery.proofs.Lemmas.Sections.SectionsInTime.{HoldsOfRounds, round_leads}
use Rattle.simulator_recovery.proofs.Lemmas.Sections.SectionsKept.{Brings, StepKept}
use Rattle.simulator_recovery.proofs.Lemmas.Sections.SectionsNames.{says}
use Rattle.simulator_recovery.proofs.Lemmas.Sections.SectionsOver.{controller_open, report_there, server_count}
use Rattle.simulator_recovery.proofs.Lemmas.Sections.SectionsWalk.{IsSoIn, all_so}
use Rattle.simulator_recovery.proofs.Lemmas.Sections.SectionsWindow.{IsIdle, idle_always, many_few, owed_many}
use Rattle.simulator_recovery.proofs.Lemmas.Silence.Spent.{settled_given}
use Rattle.simulator_recovery.proofs.Lemmas.Talk.AlwaysTold.{TellsDetector}
use Rattle.simulator_recovery.proofs.Lemmas.Talk.Standing.{stand_by_counts}

-- ---- events that tell a detector nothing

pub elsewhere_works : (table : Table) (detector : ℕ) (one : Event) → IsWorkElsewhere table detector one → IsWork one
elsewhere_works table detector (Event.Request command) is = tt
elsewhere_works table detector (Event.Occupy section occupancy) is = tt
elsewhere_works table detector (Event.Tick node) is = absurd is
elsewhere_works table detector (Event.Time elapsed clocks) is = absurd is
elsewhere_works table detector (Event.Deliver node bytes) is = absurd is
elsewhere_works table detector (Event.Lose bytes) is = absurd is
elsewhere_works table detector (Event.Reach point position) is = absurd is
elsewhere_works table detector (Event.Restart node clock first) is = absurd is

pub elsewhere_leaves : (site : Site) (table : Table) (section : ℕ) (reporter : ℕ × ℕ) → slice_get table.reporters section ≡ Some reporter → (one : Event) → IsWorkElsewhere table reporter.0 one
    → LeavesSection site table section one
elsewhere_leaves site table section reporter reported (Event.Request command) is = tt
elsewhere_leaves site table section reporter reported (Event.Occupy other occupancy) is = λ same. is reporter (ap (slice_get table.reporters) same ∙ reported) refl
elsewhere_leaves site table section reporter reported (Event.Tick node) is = absurd is
elsewhere_leaves site table section reporter reported (Event.Time elapsed clocks) is = absurd is
elsewhere_leaves site table section reporter reported (Event.Deliver node bytes) is = absurd is
elsewhere_leaves site table section reporter reported (Event.Lose bytes) is = absurd is
elsewhere_leaves site table section reporter reported (Event.Reach point position) is = absurd is
elsewhere_leaves site table section reporter reported (Event.Restart node clock first) is = absurd is

brings_none : (site : Site) (table : Table) (detector : ℕ) (one : Event) → IsWorkElsewhere table detector one → Brings site table detector Quiet one
brings_none site table detector (Event.Request command) is = tt
brings_none site table detector (Event.Occupy section occupancy) is = λ reporter there same. absurd (is reporter there (sym same))
brings_none site table detector (Event.Tick node) is = absurd is
brings_none site table detector (Event.Time elapsed clocks) is = absurd is
brings_none site table detector (Event.Deliver node bytes) is = absurd is
brings_none site table detector (Event.Lose bytes) is = absurd is
brings_none site table detector (Event.Reach point position) is = absurd is
brings_none site table detector (Event.Restart node clock first) is = absurd is

-- ---- what a step of a detector keeps is kept through good rounds in which no contact comes to it

module _ (laws : LawsBelow) (reach : LawsBelow) (sited : SitedTable) (station : IsStation sited.site) (once : Once sited.site) (is_table : IsTableOf sited.site sited.table) (at : ℕ)
    (Q : Option ℕ → HostState (List Section) → Lists → Type 0) (kept : StepKept Quiet Q) where
  abbrev SoIn : WorldState → Links → Type 0
  SoIn = IsSoIn laws sited.site sited.table station once is_table at Q kept

  holds_of_rounds : HoldsOfRounds (Brings sited.site sited.table at Quiet)
  holds_of_rounds = record { times = λ s. tt; comes = λ node bytes. tt; ticks = λ node. tt; reaches = λ point position. tt }

  rounds_so : (rounds : List (List Event)) (flowing : Flowing) → IsAt sited flowing.state → Each (Each (Brings sited.site sited.table at Quiet)) rounds
      → (network : Links) → SoIn flowing.state.run network → (last : Links) × SoIn (good_rounds rounds flowing).state.run last
  rounds_so [] flowing is each network o = (network, o)
  rounds_so (between ∷ later) flowing is each network o =
      let l = round_leads sited (Brings sited.site sited.table at Quiet) holds_of_rounds flowing is.same between each.0
      in let n = all_so laws sited.site sited.table station once is_table at Q kept l.events flowing.state.run network l.can l.each o
      in rounds_so later (all_tried between (round flowing)) (rounds_reached reach sited (between ∷ []) flowing is) each.1 n.0 (subst (λ (w : WorldState). SoIn w n.0) (sym l.are) n.1)

-- ---- counts

few_count : (n : ℕ) → stops_at_greatest n ≤ 19 → n ≤ 19
few_count n few = grind (arith, few)

-- before its initialisation is completed a host has given one item at most
early_few : (objects : ℕ) (how_far : Stage) (count : ℕ) → is_completed how_far ≡ false → HostHasGiven objects how_far count → count ≤ 1
early_few objects Stage.Outside count early gave = omega (arith, gave)
early_few objects Stage.AwaitsCheck count early gave = omega (arith, gave)
early_few objects Stage.AwaitsRequest count early gave = omega (arith, gave)
early_few objects Stage.Completed count early gave = absurd (false≢true (sym early))
early_few objects Stage.Refused count early gave = omega (arith, gave)

-- ---- a detector after good rounds

module _ (laws : LawsBelow) (between : List Event) (later : List (List Event)) (flowing : Flowing) (section : ℕ) (reporter : ℕ × ℕ) (once : Once flowing.state.sited.site)
    (station : IsStation flowing.state.sited.site)
    (is_table : IsTableOf flowing.state.sited.site flowing.state.sited.table) (reached : IsReached flowing.state.sited.site flowing.state.sited.table flowing.state.run) (work : Each IsWork between)
    (elsewhere : Each (Each (IsWorkElsewhere flowing.state.sited.table reporter.0)) later) (can : HasTime (suc (length later)) flowing.state.run)
    (reported : slice_get flowing.state.sited.table.reporters section ≡ Some reporter) (long : link_rounds ≤ suc (length later))
    (below : StaysBelowLimit flowing.state.sited.site (detector_link flowing.state.sited.site reporter.0) later (all_tried between (round flowing))) where
  abbrev sited : SitedTable
  sited = flowing.state.sited

  abbrev site : Site
  site = flowing.state.sited.site

  abbrev table : Table
  table = flowing.state.sited.table

  abbrev at : ℕ
  at = reporter.0

  abbrev link : ℕ
  link = detector_link site at

  abbrev entry : DetectorEntry
  entry = (report_there laws site table station once is_table section reporter reported).0

  there : slice_get site.detectors at ≡ Some entry
  there = (report_there laws site table station once is_table section reporter reported).1

  within : at < length site.detectors
  within = slice_get_within site.detectors at entry there

  below_links : link < links site
  below_links = let a = within in omega (arith, a)

  abbrev d : DetectorSays
  d = says laws laws.written_telegram_is_read site table station once at entry there

  abbrev next : Flowing
  next = all_tried between (round flowing)

  abbrev old : WorldState
  old = next.state.run

  abbrev new : WorldState
  new = (good_rounds later next).state.run

  begun : Begun laws sited station once is_table link below_links between flowing
  begun = begun_so laws sited station once is_table link below_links between flowing refl reached work

  held : HasHeld laws site table station once (Reporting laws site table station once is_table) (reporting_first laws site table station once is_table)
      (reporting_on laws site table station once is_table) old
  held = reporting_held laws site table station once is_table old begun.is.reached

  abbrev first : Links
  first = links_in held.has

  timely : AreTimely (links site) (names_at site) first
  timely = timely_of laws site table station once is_table old held.has

  -- the rounds begin, with these links
  start : Begun laws sited station once is_table link below_links between flowing
  start = record {
    before = first;
    has = record { same = begun.is.same; whole = held.holds.stands.whole; timely = timely; are = held.has.are };
    is = begun.is;
    is_run = laws.each_link_is_a_run (links site) (names_at site) starts_at_zero held.has.events (are_links laws sited station once) held.has.may link below_links;
    later_can = begun.later_can;
  }

  works : Each (Each IsWork) later
  works = each_as (Each (IsWorkElsewhere table at)) (Each IsWork) (λ list. each_as (IsWorkElsewhere table at) IsWork (elsewhere_works table at) list) later elsewhere

  brings : Each (Each (Brings site table at Quiet)) later
  brings = each_as (Each (IsWorkElsewhere table at)) (Each (Brings site table at Quiet))
      (λ list. each_as (IsWorkElsewhere table at) (Brings site table at Quiet) (brings_none site table at) list) later elsewhere

  behind : IsUpBehind laws sited station once is_table link below_links between flowing work start later
  behind =
      let b = behind_rounds laws sited station once is_table link below_links between flowing work start later works (start.later_can (length later) can)
      in record {
        behind = b;
        opens = rounds_open link later next start.before works (rounds_stay laws sited station once is_table link below_links later next start.is);
        below = b.below below;
        long = omega (arith, long);
      }

  up : IsUpOn link new
  up = up_on laws sited station once is_table link below_links new behind.behind.after behind.behind.are
      (ups laws sited station once is_table link below_links between flowing work start later behind)

  new_at : IsAt sited (good_rounds later next).state
  new_at = rounds_reached laws sited later next start.is

  then_whole : IsWhole site new
  then_whole = (subst (IsStanding site) (sym new_at.reached.after)
      (laws.stations_have_links_run site table new_at.reached.outset new_at.reached.events station once new_at.reached.lies new_at.reached.can)).whole

  -- ---- the detector

  third_there : (world : WorldState) → IsWhole site world → (c : ClockedControllerState (List Section)) → slice_get world.detectors at ≡ Some c → slice_get (server_ends world) link ≡ Some (end_of_server c)
  third_there world whole c e = of_third (map end_of_server world.signals) (map end_of_server world.points) _ (length site.signals) (length site.points) at (end_of_server c)
      (map_length _ world.signals ∙ whole.signals) (map_length _ world.points ∙ whole.points) (mapped end_of_server world.detectors at c e)

  -- the end that it has of its link
  record HasEnd (world : WorldState) (network : Links) (c : ClockedControllerState (List Section)) : Type 0 where
    server : IsServerAt world link (network.ends link).server
    kept_is : server.kept ≡ end_of_server c

  end_there : (world : WorldState) (network : Links) → AreLinksOf site world network → IsWhole site world → (c : ClockedControllerState (List Section))
      → slice_get world.detectors at ≡ Some c → HasEnd world network c
  end_there world network are whole c e =
      let id = at_place (partners site) link (subst (λ (n : ℕ). link < n) (sym (partners_length site)) below_links)
      in let s = are.servers link id.0 id.1
      in record {
        server = s;
        kept_is = same_Some s.kept (end_of_server c) (sym s.there ∙ third_there world whole c e);
      }

  controller : (c : ClockedControllerState (List Section)) × (slice_get old.detectors at ≡ Some c)
  controller = at_place old.detectors at (let a = within in let b = held.holds.stands.whole.detectors in omega (arith, a, b))

  told_first : TellsSections laws laws.written_telegram_is_read laws.detector_step_is_told_to_the_object laws site table station once at entry there controller.0.host
      (lists_of (first.ends link).server)
  told_first = held.holds.telling.of_detectors at controller.0 controller.1 entry there

  idle_first : IsIdle controller.0.host
  idle_first = idle_always site station laws.detector_step_is_told_to_the_object once laws.stations_have_links_run table old begun.is.reached at controller.0 controller.1

  owed_first : owed_many controller.0.host.object ≤ length d.names
  owed_first = let few = many_few controller.0.host.object in let many = length_is d controller.0.host.object told_first.tells.kept_so.object in omega (arith, few, many)

  -- where this is so of it there, so it is after these rounds
  module _ (Q : Option ℕ → HostState (List Section) → Lists → Type 0) (kept : StepKept Quiet Q) (so_first : Q controller.0.connection controller.0.host (lists_at first link)) where
    so_then : (last : Links) × IsSoIn laws site table station once is_table at Q kept new last
    so_then = rounds_so laws laws sited station once is_table at Q kept later next start.is brings first (record {
      timely = timely;
      are = held.has.are;
      reporting = held.holds;
      so = λ other e. subst (λ (c : ClockedControllerState (List Section)). Q c.connection c.host (lists_at first link)) (same_Some controller.0 other (sym controller.1 ∙ e)) so_first;
    })

  -- ---- after the rounds

  module _ (c : ClockedControllerState (List Section)) (e : slice_get new.detectors at ≡ Some c) where
    abbrev Few : Type 0
    Few = length c.host.link.waiting < window_size

    -- a station with its links there
    module _ (network : Links) (then_timely : AreTimely (links site) (names_at site) network) (are : AreLinksOf site new network)
        (r : Reporting laws site table station once is_table new network) where
      opened : is_open c.host.link.phase ≡ true
      opened = controller_open laws site table station once is_table section reporter reported new network then_timely are r up c e

      server_same : up.server ≡ end_of_server c
      server_same = same_Some up.server (end_of_server c) (sym up.server_there ∙ third_there new r.stands.whole c e)

      counts : HostCountsByStage (length entry.sections) c.host
      counts = ((stand_by_counts site table new station new_at.reached).detectors at c entry e there).stands opened

      -- before its initialisation is completed
      early_room : is_completed c.host.stage ≡ false → Few
      early_room early =
          let one = early_few (length entry.sections) c.host.stage counts.given early counts.gave
          in let waits = counts.counts.waiting
          in omega (arith, one, waits)

      -- and then it has given three items more than it has told of laws
      completed_count : TellsDetector site entry c.host (lists_at network link) → is_completed c.host.stage ≡ true → c.host.link.given ≡ 3 + tellings d (network.ends link).server.given
      completed_count tells completed =
          let all : ToldOf d (network.ends link).server.given = said_all d (network.ends link).server.given
          (completed_said d _ c.host.stage (network.ends link).server.given completed (tells.said opened))
          in let count = server_count laws site table station once is_table section reporter reported new network then_timely are r up
          in let same = ap (λ (s : ServerEnd). s.link.given) server_same
          in let many = all.many
          in omega (arith, count, same, many)

    -- ---- in the connection in which it was after the first round

    abbrev ThatOrOnce : Option ℕ → HostState (List Section) → Lists → Type 0
    ThatOrOnce = InThatOrOnce laws site table station once at entry there controller.0.connection

    walked : (last : Links) × IsSoIn laws site table station once is_table at ThatOrOnce (that_or_once laws site table station once at entry there controller.0.connection) new last
    walked = so_then ThatOrOnce (that_or_once laws site table station once at entry there controller.0.connection)
        (record { tells = told_first.tells; idle = idle_first; which = inl refl })

    -- a detector that has told of each of its laws once at most has given 19 items at most
    once_given : c.host.link.given ≤ 3 + length d.names → Few
    once_given given =
        let k = counts walked.0 walked.1.timely walked.1.are walked.1.reporting
        in let names = d.few
        in let is = k.counts.given_is
        in let waits = k.counts.waiting
        in let small = few_count k.given (omega (arith, given, names, is))
        in omega (arith, small, waits)

    -- how often it has told of its laws after the first round, or owed to, where that was bounded so
    module _ (bound : ℕ) (enough : length (section_names site entry) ≤ bound)
        (few : IsFew laws site table station once at entry there bound enough controller.0.host (lists_at first link)) where
      abbrev CountedSo : Option ℕ → HostState (List Section) → Lists → Type 0
      CountedSo last = Counted laws site table station once at entry there bound enough

      counted : (last : Links) × IsSoIn laws site table station once is_table at CountedSo (keeps laws site table station once at entry there bound enough) new last
      counted = so_then CountedSo (keeps laws site table station once at entry there bound enough) (record { tells = told_first.tells; idle = idle_first; few = few })

      -- it has given so many items at most, once its initialisation is completed
      few_given : is_completed c.host.stage ≡ true → c.host.link.given ≤ 3 + bound
      few_given completed =
          let o = counted.1
          in let q = o.so c e
          in let given = completed_count counted.0 o.timely o.are o.reporting q.tells completed
          in let most = q.few (opened counted.0 o.timely o.are o.reporting) completed
          in omega (arith, given, most)

    module _ (same : c.connection ≡ controller.0.connection) where
      end_then : HasEnd new behind.behind.after c
      end_then = end_there new behind.behind.after behind.behind.are then_whole c e

      end_first : HasEnd old first controller.0
      end_first = end_there old first held.has.are held.holds.stands.whole controller.0 controller.1

      since : WaitsAsGivenSince (first.ends link).server (behind.behind.after.ends link).server
      unfolding start held
      since = since_then (laws) sited station once is_table link below_links between flowing work start later behind (omega (arith, long))
          (end_then.server.connection_is ∙ (ap (λ (s : ServerEnd). s.connection) end_then.kept_is
          ∙ (same ∙ (sym (ap (λ (s : ServerEnd). s.connection) end_first.kept_is) ∙ sym end_first.server.connection_is))))

      link_then : (behind.behind.after.ends link).server.link ≡ settled (reading_of c.clock) c.host.link
      link_then = end_then.server.link_is ∙ ap (λ (s : ServerEnd). settled (reading_of s.clock) s.link) end_then.kept_is

      -- no more items wait than it was given since
      waits_since : length c.host.link.waiting + length (first.ends link).server.given ≤ c.host.link.given
      waits_since =
          let is_in = up_open _ (ups laws sited station once is_table link below_links between flowing work start later behind).1
          in let inside = ap (λ (l : LinkState). is_open l.phase) (sym link_then) ∙ is_in
          in let still = (settled_open (reading_of c.clock) c.host.link inside).0
          in let waits = ap (λ (l : LinkState). length l.waiting) (link_then ∙ still)
          in let given = ap (λ (l : LinkState). l.given) link_then ∙ settled_given (reading_of c.clock) c.host.link
          in let items = since.items
          in let counted_so = since.counts
          in omega (arith, waits, given, items, counted_so)

      -- where it had completed its initialisation by then
      completed_first : is_open controller.0.host.link.phase ≡ true → is_completed controller.0.host.stage ≡ true → is_completed c.host.stage ≡ true → Few
      completed_first opened_first completed then_completed =
          let was : ToldOf d (first.ends link).server.given = said_all d (first.ends link).server.given
          (completed_said d _ controller.0.host.stage (first.ends link).server.given completed (told_first.tells.said opened_first))
          in let given = few_given (tellings d (first.ends link).server.given + length d.names) (omega arith) (λ o k. let owed = owed_first in omega (arith, owed)) then_completed
          in let many = was.many
          in let names = d.few
          in let waits = waits_since
          in omega (arith, given, many, names, waits)

    by_first : (a b : Bool) → is_open controller.0.host.link.phase ≡ a → is_completed controller.0.host.stage ≡ b → c.connection ≡ controller.0.connection
        → is_completed c.host.stage ≡ true → Few
    by_first true true f g same completed = completed_first same f g completed
    by_first false b f g same completed = once_given (few_given (length d.names) (omega arith) (λ o k. absurd (false≢true (sym f ∙ o))) completed)
    by_first true false f g same completed = once_given (few_given (length d.names) (omega arith) (λ o k. absurd (false≢true (sym g ∙ k))) completed)

    room_here : Few
    room_here = by_stage (is_completed c.host.stage) refl
      where
        q : ThatOrOnce c.connection c.host (lists_at walked.0 link)
        q = walked.1.so c e

        which : (c.connection ≡ controller.0.connection) ⊎ IsOnce laws site table station once at entry there c.host (lists_at walked.0 link)
            → is_completed c.host.stage ≡ true → Few
        which (inl same) completed = by_first (is_open controller.0.host.link.phase) (is_completed controller.0.host.stage) refl refl same completed
        which (inr few) completed =
            let given = completed_count walked.0 walked.1.timely walked.1.are walked.1.reporting q.tells completed
            in let most = few (opened walked.0 walked.1.timely walked.1.are walked.1.reporting) completed
            in once_given (omega (arith, given, most))

        by_stage : (b : Bool) → is_completed c.host.stage ≡ b → Few
        by_stage false early = early_room walked.0 walked.1.timely walked.1.are walked.1.reporting early
        by_stage true completed = which q.which completed

  pub room_then : HasRoomToReport table new section
  room_then = (reporter, reported, (one.0, one.1, room_here one.0 one.1))
    where
      one : (c : ClockedControllerState (List Section)) × (slice_get new.detectors at ≡ Some c)
      one = at_place new.detectors at (let a = within in let b = then_whole.detectors in omega (arith, a, b))
