-- What a detector whose link is ready gives while none of its contacts changes, and when its window has room.
use Rattle.simulator_recovery.proofs.Words.Basics.{◌≡◌, ◌⊎◌, inl, inr, ℕ, ◌+◌, ◌-◌, ◌<◌, ◌≤◌, ◌∙◌, nat_lt, Bool, true, false, List, [], ◌∷◌, length, map, Option, Some, slice_get, refl, sym, ap, subst, arith, ltb-false, ltb-true, false≢true, same_Some, slice_get_within}
use Rattle.simulator_recovery.proofs.Words.Links.{settled, Each, AreTimely, reading_of, Links, stops_at_greatest, window_size, confirmed_items, is_open, is_up}
use Rattle.simulator_recovery.proofs.Words.Controllers.{HostState, is_completed, contacts_of, Stage, detection_behaviour, Section}
use Rattle.simulator_recovery.proofs.Words.Interlockings.{IsTableOf, Table}
use Rattle.simulator_recovery.proofs.Words.Stations.{DetectorEntry, Site, Once, IsStation, Event, AreLinksOf, ServerEnd, end_of_server, names_at, Node, detector_link, links, CanHappen, after_all, ClockedControllerState, WorldState, IsStanding, links_in, IsWhole, IsReached}
use Rattle.simulator_recovery.proofs.Words.Recovery.{HostCountsByStage, ConfirmsAtOnce, IsUpOn, section_names, HostIsAt, IsAtStage, IsReadyOn, LeavesSection, OwesNone, HasNames, SaidAll, SaidBy, LawsBelow}
use Rattle.simulator_recovery.proofs.Lemmas.Ground.SectionsEvents.{HasHeld}
use Rattle.simulator_recovery.proofs.Lemmas.Ground.AtLink.{mapped, of_third}
use Rattle.simulator_recovery.proofs.Lemmas.Talk.ClientLinks.{up_open}
use Rattle.simulator_recovery.proofs.Lemmas.Ground.ControllersOnLinks.{Lists, lists_at, lists_of}
use Rattle.simulator_recovery.proofs.Lemmas.Ground.LinkCounts.{settled_open}
use Rattle.simulator_recovery.proofs.Lemmas.Ground.EndCalls.{map_length}
use Rattle.simulator_recovery.proofs.Lemmas.Sections.SectionsAlways.{Reporting, reporting_first, reporting_held, reporting_on, timely_of}
use Rattle.simulator_recovery.proofs.Lemmas.Sections.SectionsCalls.{DetectorSays, item}
use Rattle.simulator_recovery.proofs.Lemmas.Sections.SectionsController.{TellsSections}
use Rattle.simulator_recovery.proofs.Lemmas.Sections.SectionsInCount.{Counted, ToldOf, keeps, said_all, tellings}
use Rattle.simulator_recovery.proofs.Lemmas.Sections.SectionsInitial.{length_is}
use Rattle.simulator_recovery.proofs.Lemmas.Sections.SectionsKept.{Brings}
use Rattle.simulator_recovery.proofs.Lemmas.Sections.SectionsNames.{says}
use Rattle.simulator_recovery.proofs.Lemmas.Sections.SectionsOver.{controller_open, report_there, server_count}
use Rattle.simulator_recovery.proofs.Lemmas.Sections.SectionsRounds.{detector_there, owes_none}
use Rattle.simulator_recovery.proofs.Lemmas.Sections.SectionsStay.{stays_paid}
use Rattle.simulator_recovery.proofs.Lemmas.Sections.SectionsWalk.{IsSoIn, all_so}
use Rattle.simulator_recovery.proofs.Lemmas.Sections.SectionsWindow.{many_few, owed_many}
use Rattle.simulator_recovery.proofs.Lemmas.Windows.WindowsFew.{few_wait}
use Rattle.simulator_recovery.proofs.Lemmas.Windows.WindowsAlone.{Stand}

-- a detector that has completed its initialisation has said all of it
pub completed_said : (d : DetectorSays) (Wrong : Type 0) (how_far : Stage) (given : List (List ℕ)) → is_completed how_far ≡ true
    → SaidBy detection_behaviour (HasNames d.names) Wrong (item d) d.version how_far given
    → SaidAll detection_behaviour (HasNames d.names) (item d) d.version given
completed_said d Wrong Stage.Completed given completed said = said
completed_said d Wrong Stage.Outside given completed said = absurd (false≢true completed)
completed_said d Wrong Stage.AwaitsCheck given completed said = absurd (false≢true completed)
completed_said d Wrong Stage.AwaitsRequest given completed said = absurd (false≢true completed)
completed_said d Wrong Stage.Refused given completed said = absurd (false≢true completed)

-- an end of a link that is up is one
one_server : (link : ℕ) (world : WorldState) (one other : IsUpOn link world) → one.server ≡ other.server
one_server link world one other = same_Some one.server other.server (sym one.server_there ∙ other.server_there)

-- ---- lists of events

-- One world leads to another by events of one kind.
pub record LeadsBy (site : Site) (table : Table) (P : Event → Type 0) (old new : WorldState) : Type 0 where
  pub events : List Event
  pub can : CanHappen site table events old
  pub are : new ≡ after_all site table events old
  pub each : Each P events

each_left : (P Q : Event → Type 0) (list : List Event) → Each (λ (e : Event). P e × Q e) list → Each P list
each_left P Q [] each = tt
each_left P Q (first ∷ others) each = (each.0.0, each_left P Q others each.1)

each_right : (P Q : Event → Type 0) (list : List Event) → Each (λ (e : Event). P e × Q e) list → Each Q list
each_right P Q [] each = tt
each_right P Q (first ∷ others) each = (each.0.1, each_right P Q others each.1)

-- ---- what an end has given

-- A window was full, nothing of it was confirmed in the next round, and then all of it: if at most 16 items were given in the last round,
-- it isn't full again.
refilled : (given1 waiting1 given2 waiting2 given3 waiting3 : ℕ) → given2 - waiting2 ≤ given1 - waiting1 → given1 ≤ given3 - waiting3 → window_size ≤ waiting1 → window_size ≤ given1
    → waiting2 ≤ window_size → window_size ≤ waiting3
    → given3 ≤ given2 + 16 → ⊥
refilled given1 waiting1 given2 waiting2 given3 waiting3 still all full1 some few2 full3 few = omega (arith, still, all, full1, some, few2, full3, few)

module _ (laws : LawsBelow) (site : Site) (table : Table) (station : IsStation site) (once : Once site) (is_table : IsTableOf site table) (section : ℕ) (reporter : ℕ × ℕ)
    (reported : slice_get table.reporters section ≡ Some reporter) where
  abbrev link : ℕ
  link = detector_link site reporter.0

  abbrev entry : DetectorEntry
  entry = (report_there laws site table station once is_table section reporter reported).0

  abbrev there : slice_get site.detectors reporter.0 ≡ Some entry
  there = (report_there laws site table station once is_table section reporter reported).1

  abbrev d : DetectorSays
  d = says laws laws.written_telegram_is_read site table station once reporter.0 entry there

  -- an event that brings its detector no contact, and tells nothing of the section
  abbrev pub BringsNone : Event → Type 0
  BringsNone = Brings site table reporter.0 (λ input. contacts_of input ≡ [])

  abbrev pub IsCalmHere : Event → Type 0
  IsCalmHere happening = LeavesSection site table section happening × BringsNone happening

  -- how often its detector has told of its sections, or owes to, where that is bounded so
  module _ (bound : ℕ) (enough : length (section_names site entry) ≤ bound) where
    abbrev CountedHere : Option ℕ → HostState (List Section) → Lists → Type 0
    CountedHere last = Counted laws site table station once reporter.0 entry there bound enough

    abbrev IsCountedIn : WorldState → Links → Type 0
    IsCountedIn = IsSoIn laws site table station once is_table reporter.0 CountedHere (keeps laws site table station once reporter.0 entry there bound enough)

  -- ---- at a moment

  -- the detector of a link that is ready
  record IsController (world : WorldState) (up : IsUpOn link world) : Type 0 where
    controller : ClockedControllerState (List Section)
    is_there : slice_get world.detectors reporter.0 ≡ Some controller
    completed : is_completed controller.host.stage ≡ true
    is : up.server ≡ end_of_server controller

  controller_of : (world : WorldState) → IsWhole site world → (ready : IsReadyOn site link world) → IsController world ready.up
  controller_of world whole ready = by_host (subst (λ (node : Option Node). HostIsAt node world Stage.Completed)
      (detector_there site reporter.0 (slice_get_within site.detectors reporter.0 entry there)) ready.host_ready)
    where
      by_host : IsAtStage world.detectors reporter.0 Stage.Completed → IsController world ready.up
      by_host (c, e, at) = record {
        controller = c;
        is_there = e;
        completed = ap is_completed at;
        is = same_Some ready.up.server (end_of_server c) (sym ready.up.server_there
            ∙ of_third (map end_of_server world.signals) (map end_of_server world.points) _ (length site.signals) (length site.points) reporter.0 (end_of_server c)
            (map_length _ world.signals ∙ whole.signals) (map_length _ world.points ∙ whole.points) (mapped end_of_server world.detectors reporter.0 c e));
      }

  module _ (world : WorldState) (network : Links) (timely : AreTimely (links site) (names_at site) network) (are : AreLinksOf site world network)
      (r : Reporting laws site table station once is_table world network) (ready : IsReadyOn site link world) where
    its : IsController world ready.up
    its = controller_of world r.stands.whole ready

    told_so : TellsSections laws laws.written_telegram_is_read laws.detector_step_is_told_to_the_object laws site table station once reporter.0 entry there its.controller.host
        (lists_of (network.ends link).server)
    told_so = r.telling.of_detectors reporter.0 its.controller its.is_there entry there

    its_open : is_open its.controller.host.link.phase ≡ true
    its_open = controller_open laws site table station once is_table section reporter reported world network timely are r ready.up its.controller its.is_there

    its_told : ToldOf d (network.ends link).server.given
    its_told = said_all d (network.ends link).server.given (completed_said d _ its.controller.host.stage (network.ends link).server.given its.completed (told_so.tells.said its_open))

    its_count : ready.up.server.link.given ≡ 3 + tellings d (network.ends link).server.given
    its_count = server_count laws site table station once is_table section reporter reported world network timely are r ready.up ∙ its_told.many

    its_owed : owed_many its.controller.host.object ≤ length d.names
    its_owed = let few = many_few its.controller.host.object in let long = length_is d its.controller.host.object told_so.tells.kept_so.object in omega (arith, few, long)

  -- ---- from one moment to a later one

  -- so often it has told of its sections, and may tell
  abbrev bound_in : Links → ℕ
  bound_in network = tellings d (network.ends link).server.given + length d.names

  module _ (old : WorldState) (first : Links) (timely : AreTimely (links site) (names_at site) first) (are : AreLinksOf site old first)
      (r : Reporting laws site table station once is_table old first) (was : IsReadyOn site link old) where
    enough : length d.names ≤ bound_in first
    enough = omega arith

    begins : IsCountedIn (bound_in first) enough old first
    begins = record {
      timely = timely;
      are = are;
      reporting = r;
      so = λ other e. subst (λ (x : ClockedControllerState (List Section)). Counted laws site table station once reporter.0 entry there (bound_in first) enough x.host (lists_at first link))
          (same_Some (its old first timely are r was).controller other (sym (its old first timely are r was).is_there ∙ e)) (record {
            tells = (told_so old first timely are r was).tells;
            idle = λ early. absurd (false≢true (sym early ∙ (its old first timely are r was).completed));
            few = λ opened completed. let owed = its_owed old first timely are r was in omega (arith, owed);
          });
    }

    few_then : (new : WorldState) (last : Links) → IsCountedIn (bound_in first) enough new last → (is : IsReadyOn site link new) → is.up.server.link.given ≤ was.up.server.link.given + 16
    few_then new last o is =
        let before = its_count old first timely are r was
        in let behind = its_count new last o.timely o.are o.reporting is
        in let x = its new last o.timely o.are o.reporting is
        in let most = (o.so x.controller x.is_there).few (its_open new last o.timely o.are o.reporting is) x.completed
        in let names_few = d.few
        in omega (arith, before, behind, most, names_few)

  -- From one moment at which its link is ready to a later one a detector gives at most 16 items, where no contact of it comes in between.
  pub few_given : (old : WorldState) (events : List Event) → IsReached site table old → CanHappen site table events old → Each BringsNone events
      → (was : IsReadyOn site link old) → (is : IsReadyOn site link (after_all site table events old)) → is.up.server.link.given ≤ was.up.server.link.given + 16
  few_given old events reached can brings was is =
      let held : HasHeld laws site table station once (Reporting laws site table station once is_table) (reporting_first laws site table station once is_table)
      (reporting_on laws site table station once is_table) old
      = reporting_held laws site table station once is_table old reached
      in let timely = timely_of laws site table station once is_table old held.has
      in let last = all_so laws site table station once is_table reporter.0 (CountedHere (bound_in (links_in held.has)) (enough old (links_in held.has) timely held.has.are held.holds was))
      (keeps laws site table station once reporter.0 entry there (bound_in (links_in held.has)) (enough old (links_in held.has) timely held.has.are held.holds was)) events old (links_in held.has) can brings
      (begins old (links_in held.has) timely held.has.are held.holds was)
      in few_then old (links_in held.has) timely held.has.are held.holds was (after_all site table events old) last.0 last.1 is

  -- a section of which no report is owed stays so while nothing is told of it
  pub stays_none : (old new : WorldState) → LeadsBy site table (LeavesSection site table section) old new → IsReached site table old → IsUpOn link old → OwesNone table old section
      → OwesNone table new section
  stays_none old new leads reached up none = subst (λ (w : WorldState). OwesNone table w section) (sym leads.are)
      (stays_paid laws site table station once is_table old leads.events section reached leads.can leads.each reporter reported up none)

  -- ---- the window

  module _ (windows : LawsBelow) (stand : Stand) where
    its_whole : (world : WorldState) → IsReached site table world → IsWhole site world
    its_whole world reached = (subst (IsStanding site) (sym reached.after) (windows.stations_have_links_run site table reached.outset reached.events station once reached.lies reached.can)).whole

    -- a detector that is ready owes no report of the section, or its window is full
    none_or_full : (world : WorldState) → IsReached site table world → (ready : IsReadyOn site link world) → OwesNone table world section ⊎ (window_size ≤ length ready.up.server.link.waiting)
    none_or_full world reached ready = choose (nat_lt (length c.controller.host.link.waiting) window_size) refl
      where
        c : IsController world ready.up
        c = controller_of world (its_whole world reached) ready

        same : length ready.up.server.link.waiting ≡ length c.controller.host.link.waiting
        same = ap (λ (s : ServerEnd). length s.link.waiting) c.is

        choose : (b : Bool) → nat_lt (length c.controller.host.link.waiting) window_size ≡ b → OwesNone table world section ⊎ (window_size ≤ length ready.up.server.link.waiting)
        choose true e = inl (owes_none windows site table world section reporter station once is_table reached reported
            (record { up = ready.up; host_ready = ready.host_ready }) (reporter, reported, (c.controller, c.is_there, ltb-true _ _ e)))
        choose false e = inr (let full = ltb-false _ _ e in omega (arith, full, same))

    -- with a full window it has given so many items
    full_given : (world : WorldState) → IsReached site table world → (ready : IsReadyOn site link world) → window_size ≤ length ready.up.server.link.waiting → window_size ≤ ready.up.server.link.given
    full_given world reached ready full = subst (λ (n : ℕ). window_size ≤ n) (sym (ap (λ (s : ServerEnd). s.link.given) c.is
        ∙ counts.counts.given_is)) (at_least counts.given (omega (arith, full, same, waits)))
      where
        c : IsController world ready.up
        c = controller_of world (its_whole world reached) ready

        same : length ready.up.server.link.waiting ≡ length c.controller.host.link.waiting
        same = ap (λ (s : ServerEnd). length s.link.waiting) c.is

        opened : is_open c.controller.host.link.phase ≡ true
        opened = (settled_open (reading_of ready.up.server.clock) c.controller.host.link
            (up_open _ (ap (λ (s : ServerEnd). is_up (settled (reading_of ready.up.server.clock) s.link).phase) (sym c.is) ∙ ready.up.server_up))).1

        counts : HostCountsByStage (length entry.sections) c.controller.host
        counts = ((stand site table world station reached).detectors reporter.0 c.controller entry c.is_there there).stands opened

        waits : length c.controller.host.link.waiting ≤ counts.given
        waits = counts.counts.waiting

        at_least : (n : ℕ) → window_size ≤ n → window_size ≤ stops_at_greatest n
        at_least n some = grind (arith, some)

    within : reporter.0 < length site.detectors
    within = slice_get_within site.detectors reporter.0 entry there

    -- In three moments of good rounds, in the first two of which a full window holds what it held, and in the third of which all of that is
    -- confirmed: a section that isn't told of in between is owed no report at the third, if no contact comes after the second.
    paid_by : (one two : WorldState) → LeadsBy site table (LeavesSection site table section) one two → (last : List Event) → CanHappen site table last two
        → Each (LeavesSection site table section) last
        → Each BringsNone last → IsReached site table one → IsReached site table two → IsReadyOn site link one → IsReadyOn site link two
        → IsReached site table (after_all site table last two) → IsReadyOn site link (after_all site table last two) → ConfirmsAtOnce link one two (after_all site table last two)
        → OwesNone table (after_all site table last two) section
    paid_by one two leads last can leaves brings reached1 reached2 ready1 ready2 reached3 ready3 confirms = by_first (none_or_full one reached1 ready1)
      where
        on : OwesNone table one section → OwesNone table (after_all site table last two) section
        on none = stays_paid laws site table station once is_table two last section reached2 can leaves reporter reported ready2.up (stays_none one two leads reached1 ready1.up none)

        still : ready2.up.server.link.given - length ready2.up.server.link.waiting ≤ ready1.up.server.link.given - length ready1.up.server.link.waiting
        still = subst (λ (s : ServerEnd). confirmed_items ready2.up.server.link ≤ confirmed_items s.link) (one_server link one confirms.first ready1.up)
            (subst (λ (s : ServerEnd). confirmed_items s.link ≤ confirmed_items confirms.first.server.link) (one_server link two confirms.second ready2.up) confirms.still)

        all : ready1.up.server.link.given ≤ ready3.up.server.link.given - length ready3.up.server.link.waiting
        all = subst (λ (s : ServerEnd). ready1.up.server.link.given ≤ confirmed_items s.link) (one_server link (after_all site table last two) confirms.third ready3.up)
            (subst (λ (s : ServerEnd). s.link.given ≤ confirmed_items confirms.third.server.link) (one_server link one confirms.first ready1.up) confirms.all)

        by_last : window_size ≤ length ready1.up.server.link.waiting → OwesNone table (after_all site table last two) section ⊎ (window_size ≤ length ready3.up.server.link.waiting)
            → OwesNone table (after_all site table last two) section
        by_last full (inl none) = none
        by_last full (inr again) = absurd (refilled ready1.up.server.link.given (length ready1.up.server.link.waiting) ready2.up.server.link.given
            (length ready2.up.server.link.waiting) ready3.up.server.link.given (length ready3.up.server.link.waiting)
            still all full (full_given one reached1 ready1 full) (few_wait laws site table station once is_table two reporter.0 reached2 within ready2.up) again
            (few_given two last reached2 can brings ready2 ready3))

        by_first : OwesNone table one section ⊎ (window_size ≤ length ready1.up.server.link.waiting) → OwesNone table (after_all site table last two) section
        by_first (inl none) = on none
        by_first (inr full) = by_last full (none_or_full (after_all site table last two) reached3 ready3)

    pub paid_behind : (one two three : WorldState) → LeadsBy site table (LeavesSection site table section) one two → LeadsBy site table IsCalmHere two three → IsReached site table one
        → IsReached site table two → IsReached site table three
        → IsReadyOn site link one → IsReadyOn site link two → IsReadyOn site link three → ConfirmsAtOnce link one two three → OwesNone table three section
    paid_behind one two three leads last reached1 reached2 reached3 ready1 ready2 ready3 confirms =
        subst (λ (w : WorldState). IsReached site table w → IsReadyOn site link w → ConfirmsAtOnce link one two w → OwesNone table w section) (sym last.are)
        (paid_by one two leads last.events last.can (each_left (LeavesSection site table section) BringsNone last.events last.each)
        (each_right (LeavesSection site table section) BringsNone last.events last.each) reached1 reached2 ready1 ready2)
        reached3 ready3 confirms
