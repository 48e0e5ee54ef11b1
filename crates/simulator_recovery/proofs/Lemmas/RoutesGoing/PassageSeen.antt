-- What a route saw of its sections since its authority was given agrees with what is known of them: a section that is clear was last seen so,
-- and one that is occupied was seen so.
use Rattle.simulator_recovery.proofs.Words.Basics.{◌≡◌, ◌≢◌, ◌⊎◌, inl, inr, ℕ, suc, ◌<◌, ◌≤◌, ◌==◌, not, ◌||◌, Bool, true, false, if◌then◌else◌, List, [], ◌++◌, length, map, Option, Some, None, slice_get, refl, sym, ap, subst, ◌∙◌, arith, contains, contains-empty, nat_cmp, cases_lt, false≢true, get_or_from_slice_get, same_Some, slice_get_within}
use Rattle.simulator_recovery.proofs.Words.Links.{reading_of, reading, Key}
use Rattle.simulator_recovery.proofs.Words.Controllers.{Side}
use Rattle.simulator_recovery.proofs.Words.Interlockings.{passage_after, IsReportedIn, IsTableOf, as_route, as_section, ClientState, is_outside, is_ready, begun, clocked, hearing, Indication, commanded_by, obeyed, refusal, AllClear, ReportedBy, authorised, come_to, count, freed, freed_by_cancel, is_move_due, is_proceed_due, is_proceeding, is_withdrawn, moved, moving, moving_one, one_freed, proceeding, ruled, IxlState, KnownDetectorState, RouteState, changed, Commands, Datagram, Input, Tick, addressed, all_clocked, clocked_detector, detector_hearing, given, known_point_hearing, known_signal_hearing, looking, looks, node_hearing, occupied_heard, stepped, ticked, told_before, told_now, watching, Detector, Node, Point, Signal, StepSoFar, along, begun_with, detector_after, empty_outbox, giving_aspect, noted, over, with_detector, with_one, with_route, Row, Table, was_authorised, Command, Refusal, Phase, giving_move}
use Rattle.simulator_recovery.proofs.Words.Stations.{Places, AreSections, DetectorEntry, Site, Distinct, IsStation, SectionId, Beginning, new_ixl, new_route_of, interlocking_stepped, key_of, WorldState, IsReached}
use Rattle.simulator_recovery.proofs.Lemmas.Ground.AtLink.{mapped}
use Rattle.simulator_recovery.proofs.Lemmas.Lamps.Cancelled.{clocked_routes}
use Rattle.simulator_recovery.proofs.Lemmas.RoutesComing.DueAccepted.{until_freed}
use Rattle.simulator_recovery.proofs.Lemmas.Ground.DueShapes.{along_keeps, one_keeps, over_keeps, route_keeps, where_keeps}
use Rattle.simulator_recovery.proofs.Lemmas.Ground.DueTests.{clear_then}
use Rattle.simulator_recovery.proofs.Lemmas.RoutesComing.DueKnown.{BringsNothing, reported_before, ticks_bring_nothing}
use Rattle.simulator_recovery.proofs.Lemmas.Ground.IxlAlways.{always_whole}
use Rattle.simulator_recovery.proofs.Lemmas.Ground.IxlClients.{mapped_at}
use Rattle.simulator_recovery.proofs.Lemmas.RoutesComing.NothingDueMoves.{move_leaves}
use Rattle.simulator_recovery.proofs.Lemmas.RoutesComing.NothingDueProceeds.{aspect_leaves}
use Rattle.simulator_recovery.proofs.Lemmas.RoutesGoing.PassageFits.{ChangesKeep, EachRoute, commanded_held, moved_held, turned, watching_held}
use Rattle.simulator_recovery.proofs.Lemmas.RoutesGoing.PassageLooks.{SeesWhere, WasSeen, along_both, before_sees, far_before, far_now, looks_leave, now_sees}
use Rattle.simulator_recovery.proofs.Lemmas.Sections.SectionReports.{own_once}
use Rattle.simulator_recovery.proofs.Lemmas.Sections.SectionsClient.{after_client, after_inside}
use Rattle.simulator_recovery.proofs.Lemmas.Sections.SectionsSensed.{one_detector}
use Rattle.simulator_recovery.proofs.Lemmas.Lamps.StopsGiven.{changed_elsewhere, changed_here, clocked_stage, differs, is_equal}
use Rattle.simulator_recovery.proofs.Lemmas.Windows.WaitingItems.{ready_inside}
use Rattle.simulator_recovery.proofs.Lemmas.Ground.MovedAtOnce.{moved_keeps}

-- a section is known so: its detector is ready, and last told it as occupied, or as clear
abbrev pub IsKnownSo : Bool → Table → IxlState → ℕ → Type 0
IsKnownSo busy table ixl section = ReportedBy table ixl section (λ detector place. (is_ready detector.client.stage ≡ true) × (contains detector.occupied place ≡ busy))

-- The route, if it was given authority, saw each of its sections so for which this holds.
abbrev pub SawWhere : Bool → (ℕ → Type 0) → Row → RouteState → Type 0
SawWhere busy holds row route = was_authorised route.phase ≡ true → (place section : ℕ) → slice_get row.sections place ≡ Some section → holds section → WasSeen busy route.passage place

weaker : (busy : Bool) (table : Table) (holds later : ℕ → Type 0) (routes : List RouteState) → ((section : ℕ) → later section → holds section) → EachRoute (SawWhere busy holds) table routes → EachRoute (SawWhere busy later) table routes
weaker busy table holds later routes so all number row route there here authorised place section stands is = all number row route there here authorised place section stands (so section is)

-- ---- the rules

proceeding_authorised : (p : Phase) → is_proceeding p ≡ true → was_authorised p ≡ true
proceeding_authorised Phase.Free e = absurd (false≢true e)
proceeding_authorised Phase.Waiting e = absurd (false≢true e)
proceeding_authorised Phase.Proceeding e = refl
proceeding_authorised Phase.Withdrawn e = refl
proceeding_authorised (Phase.Ended clock done) e = refl

withdrawn_authorised : (p : Phase) → is_withdrawn p ≡ true → was_authorised p ≡ true
withdrawn_authorised Phase.Free e = absurd (false≢true e)
withdrawn_authorised Phase.Waiting e = absurd (false≢true e)
withdrawn_authorised Phase.Proceeding e = refl
withdrawn_authorised Phase.Withdrawn e = refl
withdrawn_authorised (Phase.Ended clock done) e = refl

one_freed_saw : (busy : Bool) (holds : ℕ → Type 0) (row : Row) (route : RouteState) (p : Phase) → route.phase ≡ p → SawWhere busy holds row route → SawWhere busy holds row (one_freed row p route)
one_freed_saw busy holds row route (Phase.Ended clock done) e saw = choose (suc done == length row.sections)
  where
    choose : (b : Bool) → SawWhere busy holds row (if b then freed route else come_to (Phase.Ended clock (suc done)) route)
    choose true = λ authorised. absurd (false≢true authorised)
    choose false = λ authorised. saw (ap was_authorised e)
one_freed_saw busy holds row route Phase.Free e saw = saw
one_freed_saw busy holds row route Phase.Waiting e saw = saw
one_freed_saw busy holds row route Phase.Proceeding e saw = saw
one_freed_saw busy holds row route Phase.Withdrawn e saw = saw

saw_keeps : (busy : Bool) (holds : ℕ → Type 0) → ChangesKeep (SawWhere busy holds)
saw_keeps busy holds = record {
  approaches = λ approached row route saw. saw;
  sets = λ row route saw authorised. absurd (false≢true authorised);
  cancels = λ row route saw. saw;
  releases = λ now row route saw. saw;
  withdraws = λ row route goes saw authorised. saw (proceeding_authorised route.phase goes);
  ends = λ now row route withdrawn saw authorised. saw (withdrawn_authorised route.phase withdrawn);
  frees_one = λ row route saw. one_freed_saw busy holds row route route.phase refl saw;
  frees = λ row route saw authorised. absurd (false≢true authorised);
}

-- ---- what is known

-- a section is known by its detector alone
known_same : (busy : Bool) (table : Table) (old new : IxlState) → new.detectors ≡ old.detectors → (section : ℕ) → IsKnownSo busy table new section → IsKnownSo busy table old section
known_same busy table old new same section is = subst (λ (ds : List KnownDetectorState). IsKnownSo busy table (record new { detectors = ds }) section) same is

-- none is known as clear and as occupied
not_both : (table : Table) (ixl : IxlState) (section : ℕ) → IsKnownSo false table ixl section → IsKnownSo true table ixl section → ⊥
not_both table ixl section (one, reports, (detector, there, (ready, clear))) (other, also, (another, at, (ready_too, busy))) =
    let same : one ≡ other = same_Some one other (sym reports ∙ also)
    in let same_detector : detector ≡ another = same_Some detector another (sym there ∙ (ap (λ (r : ℕ × ℕ). slice_get ixl.detectors r.0) same ∙ at))
    in false≢true (sym clear ∙ (ap (λ (r : ℕ × ℕ). contains detector.occupied r.1) same ∙ (ap (λ (d : KnownDetectorState). contains d.occupied other.1) same_detector ∙ busy)))

-- a route that is given authority saw nothing, and its sections are clear
unseen : (busy : Bool) (table : Table) (ixl : IxlState) (row : Row) (route : RouteState) → AllClear table ixl row.sections → (place section : ℕ) → slice_get row.sections place ≡ Some section → IsKnownSo busy table ixl section
    → WasSeen busy (authorised table ixl row route).passage place
unfolding passage_after
unseen false table ixl row route all place section stands known = contains-empty nat_cmp place
unseen true table ixl row route all place section stands known =
    absurd (not_both table ixl section (subst (IsKnownSo false table ixl) (get_or_from_slice_get row.sections place section section stands) (all place section (slice_get_within row.sections place section stands))) known)

known_clocked : (busy : Bool) (now : ℕ) (table : Table) (ixl : IxlState) (section : ℕ) → IsKnownSo busy table (all_clocked now ixl) section → IsKnownSo busy table ixl section
unfolding all_clocked
known_clocked busy now table ixl section (reporter, reports, (known, there, (ready, told))) = (
  reporter,
  reports,
  (
    was,
    found.1,
    (
      ap is_ready (sym (clocked_stage now was.client inside)) ∙ ready_then,
      sym (ap (λ (o : Places). contains o reporter.1) (ap (λ (k : KnownDetectorState). k.occupied) found.2 ∙ after_inside was.occupied (clocked now was.client) inside)) ∙ told,
    ),
  ),
)
  where
    found : (one : KnownDetectorState) × (slice_get ixl.detectors reporter.0 ≡ Some one) × (known ≡ clocked_detector now one)
    found = mapped_at (clocked_detector now) ixl.detectors reporter.0 known there

    was : KnownDetectorState
    was = found.0

    ready_then : is_ready (clocked now was.client).stage ≡ true
    ready_then = ap (λ (c : ClientState). is_ready c.stage) (sym (after_client was.occupied (clocked now was.client))) ∙ (ap (λ (k : KnownDetectorState). is_ready k.client.stage) (sym found.2) ∙ ready)

    inside : is_outside (clocked now was.client).stage ≡ false
    inside = ready_inside (clocked now was.client).stage ready_then

-- ---- where sections stand in a table

-- A section stands at one place of a path, and of the list of one detector.
record StandOnce (table : Table) : Type 0 where
  in_row : (number : ℕ) (row : Row) → slice_get table.rows number ≡ Some row → (place other section : ℕ) → slice_get row.sections place ≡ Some section → slice_get row.sections other ≡ Some section → other ≡ place
  reported : (section : ℕ) (reporter : ℕ × ℕ) → slice_get table.reporters section ≡ Some reporter → (sections : List ℕ) × (slice_get table.detectors reporter.0 ≡ Some sections) × (slice_get sections reporter.1 ≡ Some section)
  once : (d e i j section : ℕ) (some other : List ℕ) → slice_get table.detectors d ≡ Some some → slice_get table.detectors e ≡ Some other → slice_get some i ≡ Some section → slice_get other j ≡ Some section → (d ≡ e) × (i ≡ j)

at_one_place : {A : Type 0} (list : List A) → Distinct list → (i j : ℕ) (one : A) → slice_get list i ≡ Some one → slice_get list j ≡ Some one → i ≡ j
at_one_place list apart i j one at also = by_order (cases_lt i j) (cases_lt j i)
  where
    by_order : (i < j) ⊎ (j ≤ i) → (j < i) ⊎ (i ≤ j) → i ≡ j
    by_order (inl before) behind = absurd (apart i j one before (slice_get_within list j one also) (get_or_from_slice_get list i one one at ∙ sym (get_or_from_slice_get list j one one also)))
    by_order (inr more) (inl behind) = absurd (apart j i one behind (slice_get_within list i one at) (get_or_from_slice_get list j one one also ∙ sym (get_or_from_slice_get list i one one at)))
    by_order (inr more) (inr less) = omega (arith, more, less)

module _ (site : Site) (table : Table) (station : IsStation site) (is_table : IsTableOf site table) where
  path_once : (number : ℕ) (row : Row) → AreSections site (as_route number) (map as_section row.sections) → Distinct (map as_section row.sections)
  path_once number row (written, path, is_route, is_path, same) = subst Distinct (sym same) is_path.once.sections

  -- the detector of a list of the table
  record IsListOf (d : ℕ) (sections : List ℕ) : Type 0 where
    entry : DetectorEntry
    there : slice_get site.detectors d ≡ Some entry
    are : map as_section sections ≡ entry.sections

  list_of : (d : ℕ) (sections : List ℕ) → slice_get table.detectors d ≡ Some sections → IsListOf d sections
  list_of d sections at =
      let found = mapped_at (λ (x : DetectorEntry). x.sections) site.detectors d (map as_section sections)
      (ap (λ (lists : List (List SectionId)). slice_get lists d) (sym is_table.detectors) ∙ mapped (λ (list : List ℕ). map as_section list) table.detectors d sections at)
      in record { entry = found.0; there = found.1; are = found.2 }

  stands_in : (d : ℕ) (sections : List ℕ) (of : IsListOf d sections) (i section : ℕ) → slice_get sections i ≡ Some section → slice_get of.entry.sections i ≡ Some (as_section section)
  stands_in d sections of i section at = ap (λ (list : List SectionId). slice_get list i) (sym of.are) ∙ mapped as_section sections i section at

  stand_once : StandOnce table
  stand_once = record {
    in_row = λ number row there place other section at also. at_one_place (map as_section row.sections) (path_once number row (is_table.rows.their number row there).sections) other place (as_section section)
        (mapped as_section row.sections other section also) (mapped as_section row.sections place section at);
    reported = λ section reporter reports. reported_there section reporter (is_table.reporters.their section reporter reports);
    once = λ d e i j section some other at also one two. once_there d e i j section some other (list_of d some at) (list_of e other also) one two;
  }
    where
      reported_there : (section : ℕ) (reporter : ℕ × ℕ) → IsReportedIn site.detectors section reporter → (sections : List ℕ) × (slice_get table.detectors reporter.0 ≡ Some sections) × (slice_get sections reporter.1 ≡ Some section)
      reported_there section reporter (entry, there, at) =
          let list = mapped_at (λ (one : List ℕ). map as_section one) table.detectors reporter.0 entry.sections
          (ap (λ (lists : List (List SectionId)). slice_get lists reporter.0) is_table.detectors ∙ mapped (λ (x : DetectorEntry). x.sections) site.detectors reporter.0 entry there)
          in let own = mapped_at as_section list.0 reporter.1 (as_section section) (ap (λ (ss : List SectionId). slice_get ss reporter.1) (sym list.2) ∙ at)
          in (list.0, list.1, own.1 ∙ ap (λ (s : SectionId). Some s.0) (sym own.2))

      once_there : (d e i j section : ℕ) (some other : List ℕ) → IsListOf d some → IsListOf e other → slice_get some i ≡ Some section → slice_get other j ≡ Some section → (d ≡ e) × (i ≡ j)
      once_there d e i j section some other one two at also = (same, places)
        where
          same : d ≡ e
          same = one_detector site.detectors d e i j one.entry two.entry (as_section section) station.reported.once one.there two.there (stands_in d some one i section at) (stands_in e other two j section also)

          same_entry : two.entry ≡ one.entry
          same_entry = same_Some two.entry one.entry (sym two.there ∙ (ap (slice_get site.detectors) (sym same) ∙ one.there))

          places : i ≡ j
          places = own_once site.detectors d i j one.entry (as_section section) station.reported.once one.there (stands_in d some one i section at)
              (subst (λ (x : DetectorEntry). slice_get x.sections j ≡ Some (as_section section)) same_entry (stands_in e other two j section also))

-- ---- what a detector tells

module _ (busy : Bool) (now : ℕ) (table : Table) (stand : StandOnce table) where
  abbrev Saw : StepSoFar → Type 0
  Saw part = EachRoute (SawWhere busy (IsKnownSo busy table part.ixl)) table part.ixl.routes

  module _ (d : ℕ) (sections : List ℕ) (listed : slice_get table.detectors d ≡ Some sections) (part : StepSoFar) (known : KnownDetectorState) (known_there : slice_get part.ixl.detectors d ≡ Some known)
      (heard : List Indication) (client : ClientState) (mid : StepSoFar) (routes : mid.ixl.routes ≡ part.ixl.routes)
      (detectors : mid.ixl.detectors ≡ changed (λ old. detector_after (occupied_heard heard known.occupied) client) d part.ixl.detectors) where
    abbrev new : KnownDetectorState
    new = detector_after (occupied_heard heard known.occupied) client

    module _ (saw : Saw part) (k : ℕ) (row : Row) (there : slice_get table.rows k ≡ Some row) (place section : ℕ) (stands : slice_get row.sections place ≡ Some section) (reporter : ℕ × ℕ) (reports : slice_get table.reporters section ≡ Some reporter) where
      alone : (other : ℕ) → slice_get row.sections other ≡ Some section → other ≡ place
      alone other also = stand.in_row k row there place other section stands also

      abbrev Sees : Type 0 → StepSoFar → Type 0
      Sees holds q = SeesWhere busy table k row there place section stands alone holds q

      at_first : Sees (IsKnownSo busy table part.ixl section) mid
      at_first route here authorised clear = saw k row route there (ap (λ (rs : List RouteState). slice_get rs k) (sym routes) ∙ here) authorised place section stands clear

      own : (list : List ℕ) × (slice_get table.detectors reporter.0 ≡ Some list) × (slice_get list reporter.1 ≡ Some section)
      own = stand.reported section reporter reports

      -- another detector tells nothing of the section
      elsewhere : d ≢ reporter.0 → Sees (IsKnownSo busy table part.ixl section) (along (looking table) (looks sections known heard client) mid)
      elsewhere differ = by_ready (is_ready client.stage) (is_ready known.client.stage)
        where
          none : (m : ℕ) → slice_get sections m ≡ Some section → ⊥
          none m at = differ (stand.once d reporter.0 m reporter.1 section sections own.0 listed own.1 at own.2).0

          C : Type 0
          C = IsKnownSo busy table part.ixl section

          by_ready : (a b : Bool) → Sees C (along (looking table) (if not a then [] else if b then told_now sections heard else told_before known.occupied 0 sections ++ told_now sections heard) mid)
          by_ready false b = at_first
          by_ready true true = far_now busy table k row there place section stands alone sections none heard C mid at_first
          by_ready true false = subst (Sees C) (sym (along_both (looking table) (told_before known.occupied 0 sections) (told_now sections heard) mid))
              (far_now busy table k row there place section stands alone sections none heard C (along (looking table) (told_before known.occupied 0 sections) mid)
              (far_before busy table k row there place section stands alone known.occupied sections 0 none C mid at_first))

      -- the one that reports it tells of it
      here : d ≡ reporter.0 → is_ready client.stage ≡ true → Sees (contains (occupied_heard heard known.occupied) reporter.1 ≡ busy) (along (looking table) (looks sections known heard client) mid)
      here same ready = subst (λ (b : Bool). Sees told (along (looking table) (if not b then [] else if is_ready known.client.stage then told_now sections heard else told_before known.occupied 0 sections ++ told_now sections heard) mid)) (sym ready)
          (by_ready (is_ready known.client.stage) refl)
        where
          told : Type 0
          told = contains (occupied_heard heard known.occupied) reporter.1 ≡ busy

          list_there : slice_get table.detectors reporter.0 ≡ Some sections
          list_there = ap (slice_get table.detectors) (sym same) ∙ listed

          in_list : slice_get sections reporter.1 ≡ Some section
          in_list = subst (λ (list : List ℕ). slice_get list reporter.1 ≡ Some section) (same_Some own.0 sections (sym own.1 ∙ list_there)) own.2

          once : (m : ℕ) → slice_get sections m ≡ Some section → m ≡ reporter.1
          once m at = (stand.once reporter.0 reporter.0 m reporter.1 section sections sections list_there list_there at in_list).1

          by_ready : (b : Bool) → is_ready known.client.stage ≡ b → Sees told (along (looking table) (if b then told_now sections heard else told_before known.occupied 0 sections ++ told_now sections heard) mid)
          by_ready true was = now_sees busy table k row there place section stands alone reporter.1 sections in_list once heard known.occupied mid
              (λ route at authorised clear. at_first route at authorised (reporter, reports, (known, ap (slice_get part.ixl.detectors) (sym same) ∙ known_there, (was, clear))))
          by_ready false was = subst (Sees told) (sym (along_both (looking table) (told_before known.occupied 0 sections) (told_now sections heard) mid))
              (now_sees busy table k row there place section stands alone reporter.1 sections in_list once heard known.occupied (along (looking table) (told_before known.occupied 0 sections) mid)
              (before_sees busy table k row there place section stands alone reporter.1 known.occupied sections 0 reporter.1 (λ m at. let one = once m at in omega (arith, one)) in_list mid))

      told_so : Sees (IsKnownSo busy table mid.ixl section) (along (looking table) (looks sections known heard client) mid)
      told_so route at authorised (other, other_reports, (detector, detector_there, (ready, clear))) = decide (d == reporter.0) refl
        where
          same_reporter : other ≡ reporter
          same_reporter = same_Some other reporter (sym other_reports ∙ reports)

          stands_there : slice_get (changed (λ old. new) d part.ixl.detectors) reporter.0 ≡ Some detector
          stands_there = ap (λ (ds : List KnownDetectorState). slice_get ds reporter.0) (sym detectors) ∙ (ap (λ (r : ℕ × ℕ). slice_get mid.ixl.detectors r.0) (sym same_reporter) ∙ detector_there)

          told_there : contains detector.occupied reporter.1 ≡ busy
          told_there = ap (λ (r : ℕ × ℕ). contains detector.occupied r.1) (sym same_reporter) ∙ clear

          decide : (b : Bool) → (d == reporter.0) ≡ b → WasSeen busy route.passage place
          decide false e =
              let differ : d ≢ reporter.0 = differs d reporter.0 e
              in elsewhere differ route at authorised (reporter, reports, (detector, sym (changed_elsewhere (λ old. new) d reporter.0 part.ixl.detectors (λ same. differ (sym same))) ∙ stands_there, (ready, told_there)))
          decide true e = here same ready_then route at authorised (sym (ap (λ (o : Places). contains o reporter.1) (ap (λ (k : KnownDetectorState). k.occupied) is_new ∙ after_inside (occupied_heard heard known.occupied) client inside)) ∙ told_there)
            where
              same : d ≡ reporter.0
              same = is_equal d reporter.0 e

              is_new : detector ≡ new
              is_new = same_Some detector new (sym stands_there ∙ (ap (slice_get (changed (λ old. new) d part.ixl.detectors)) (sym same) ∙ changed_here (λ old. new) d part.ixl.detectors known known_there))

              ready_then : is_ready client.stage ≡ true
              ready_then = ap (λ (c : ClientState). is_ready c.stage) (sym (after_client (occupied_heard heard known.occupied) client)) ∙ (ap (λ (k : KnownDetectorState). is_ready k.client.stage) (sym is_new) ∙ ready)

              inside : is_outside client.stage ≡ false
              inside = ready_inside client.stage ready_then

    tells : Saw part → Saw (along (looking table) (looks sections known heard client) mid)
    tells saw k row route there at authorised place section stands clear =
        let left = looks_leave table (looks sections known heard client) mid
        in let known_mid = known_same busy table mid.ixl (along (looking table) (looks sections known heard client) mid).ixl left section clear
        in told_so saw k row there place section stands known_mid.0 known_mid.1 route at authorised known_mid

  -- ---- the input

  hearing_saw : (bytes : List ℕ) (node : Node) (part : StepSoFar) → Saw part → Saw (node_hearing now table bytes node part)
  unfolding node_hearing known_signal_hearing known_point_hearing detector_hearing
  hearing_saw bytes (Signal place) part saw = one_keeps Saw (slice_get part.ixl.known_signals place) _ part (λ known e. saw) saw
  hearing_saw bytes (Point place) part saw = one_keeps Saw (slice_get part.ixl.known_points place) _ part (λ known e. saw) saw
  hearing_saw bytes (Detector place) part saw = one_keeps Saw (slice_get table.detectors place) _ part (λ sections f. one_keeps Saw (slice_get part.ixl.detectors place) _ part (λ known e.
      let done = hearing now bytes (begun known.client part.outbox)
      in tells place sections f part known e done.heard done.client (with_detector place (detector_after (occupied_heard done.heard known.occupied) done.client) (noted (Detector place) done part)) refl refl saw) saw) saw

  heard_at : (bytes : List ℕ) (found : Option Node) (part : StepSoFar) → Saw part → Saw (with_one found (node_hearing now table bytes) part)
  heard_at bytes None part saw = saw
  heard_at bytes (Some node) part saw = hearing_saw bytes node part saw

  commanded_leaves : (cause : Option Refusal) (command : Command) (ixl : IxlState) → (commanded_by now cause command ixl).detectors ≡ ixl.detectors
  unfolding obeyed
  commanded_leaves (Some cause) command ixl = refl
  commanded_leaves None (Command.Request route) ixl = refl
  commanded_leaves None (Command.Cancel route) ixl = refl
  commanded_leaves None Command.Resume ixl = refl
  commanded_leaves None (Command.Release route) ixl = refl
  commanded_leaves None (Command.Move point side) ixl = refl
  commanded_leaves None (Command.Close named) ixl = refl
  commanded_leaves None (Command.Open named) ixl = refl

  moves_saw : (point : ℕ) (side : Side) (part : StepSoFar) → Saw part → Saw (giving_move now point side part)
  unfolding giving_move
  moves_saw point side part saw = one_keeps Saw (slice_get part.ixl.known_points point) _ part
      (λ known e. saw) saw

  given_saw : (key : Key) (input : Input) (part : StepSoFar) → Saw part → Saw (given now table key input part)
  unfolding given
  given_saw key Tick part saw = saw
  given_saw key (Datagram bytes) part saw = heard_at bytes (addressed (reading key bytes) part.ixl) part saw
  given_saw key (Commands command) part saw =
      let cause = refusal now table command part.ixl
      in moved_keeps Saw now table (λ point side q available. moves_saw point side q) cause command part refl (weaker busy table (IsKnownSo busy table part.ixl) (IsKnownSo busy table (commanded_by now cause command part.ixl)) (commanded_by now cause command part.ixl).routes (known_same busy table part.ixl (commanded_by now cause command part.ixl) (commanded_leaves cause command part.ixl))
      (commanded_held now table (SawWhere busy (IsKnownSo busy table part.ixl)) (saw_keeps busy (IsKnownSo busy table part.ixl)) cause command part saw))

  clocked_saw : (part : StepSoFar) → Saw part → Saw (record part { ixl = all_clocked now part.ixl })
  clocked_saw part saw = weaker busy table (IsKnownSo busy table part.ixl) (IsKnownSo busy table (all_clocked now part.ixl)) (all_clocked now part.ixl).routes (known_clocked busy now table part.ixl)
      (subst (λ (routes : List RouteState). EachRoute (SawWhere busy (IsKnownSo busy table part.ixl)) table routes) (sym (clocked_routes now part.ixl)) saw)

  -- ---- the rules and the ticks

  watched_leaves : (heard : StepSoFar) → (over (watching table) (count table) heard).ixl.detectors ≡ heard.ixl.detectors
  unfolding watching
  watched_leaves heard = over_keeps Q (watching table) (λ number q same. route_keeps Q table number _ q (λ row one there here. where_keeps Q (is_proceeding one.phase || is_withdrawn one.phase) q _ (λ due. same) same) same) (count table) heard refl
    where
      Q : StepSoFar → Type 0
      Q q = q.ixl.detectors ≡ heard.ixl.detectors

  moved_leaves : (part : StepSoFar) → (moved now table part).ixl.detectors ≡ part.ixl.detectors
  unfolding moving moving_one
  moved_leaves part = over_keeps Q (moving now table) (λ number q same. route_keeps Q table number _ q (λ row one there here. along_keeps Q (moving_one now table number)
      (λ need p still. route_keeps Q table number _ p (λ other route other_there route_here. where_keeps Q (is_move_due table p.ixl number route need) p _ (λ due. (move_leaves now need.point need.side p).detectors ∙ still) still) still) row.needs q same) same)
      (count table) (freed_by_cancel now table part) (until_freed now table part.ixl part (refl, refl, refl)).1
    where
      Q : StepSoFar → Type 0
      Q q = q.ixl.detectors ≡ part.ixl.detectors

  module _ (heard : StepSoFar) (saw : Saw heard) where
    abbrev Known : ℕ → Type 0
    Known = IsKnownSo busy table heard.ixl

    -- what was seen agrees with what was heard, and the rules leave the detectors
    abbrev Agrees : StepSoFar → Type 0
    Agrees part = EachRoute (SawWhere busy Known) table part.ixl.routes × (part.ixl.detectors ≡ heard.ixl.detectors)

    proceeding_saw : (number : ℕ) (part : StepSoFar) → Agrees part → Agrees (proceeding now table number part)
    unfolding proceeding
    proceeding_saw number part is = route_keeps Agrees table number _ part (λ row one there at. where_keeps Agrees (is_proceed_due now table part.ixl row one) part _ (λ due. given_so row one there at due) is) is
      where
        given_so : (row : Row) (one : RouteState) → slice_get table.rows number ≡ Some row → slice_get part.ixl.routes number ≡ Some one → is_proceed_due now table part.ixl row one ≡ true
            → Agrees (giving_aspect now row.entry row.aspect (with_route number (authorised table part.ixl row) part))
        given_so row one there at due =
            let leaves = aspect_leaves now row.entry row.aspect (with_route number (authorised table part.ixl row) part)
            in (
              subst (λ (routes : List RouteState). EachRoute (SawWhere busy Known) table routes) (sym leaves.routes)
                  (turned now table (SawWhere busy Known) (saw_keeps busy Known) number (authorised table part.ixl row) part row one there at
                  (λ was authorised_then place section stands known. unseen busy table part.ixl row one (clear_then now table part.ixl row one due) place section stands (known_same busy table part.ixl heard.ixl (sym is.1) section known)) is.0),
              leaves.detectors ∙ is.1,
            )

    abbrev seen : StepSoFar
    seen = over (watching table) (count table) heard

    moved_saw : Agrees (moved now table seen)
    moved_saw = (
      moved_held now table (SawWhere busy Known) (saw_keeps busy Known) seen
          (over_keeps (λ (q : StepSoFar). EachRoute (SawWhere busy Known) table q.ixl.routes) (watching table) (watching_held now table (SawWhere busy Known) (saw_keeps busy Known)) (count table) heard saw),
      moved_leaves seen ∙ watched_leaves heard,
    )

    rules_saw : Saw (ruled now table (over (watching table) (count table) heard))
    rules_saw =
        let ruled_so = over_keeps Agrees (proceeding now table) proceeding_saw (count table) (moved now table seen) moved_saw
        in weaker busy table Known (IsKnownSo busy table (ruled now table seen).ixl) (ruled now table seen).ixl.routes (known_same busy table heard.ixl (ruled now table seen).ixl ruled_so.1) ruled_so.0

  ticked_saw : (input : Input) (part : StepSoFar) → Saw part → Saw (ticked now input part)
  ticked_saw input part saw = weaker busy table (IsKnownSo busy table part.ixl) (IsKnownSo busy table (ticked now input part).ixl) (ticked now input part).ixl.routes (reported_before table part.ixl (ticked now input part).ixl brings busy)
      (subst (λ (routes : List RouteState). EachRoute (SawWhere busy (IsKnownSo busy table part.ixl)) table routes) (sym brings.routes) saw)
    where
      brings : BringsNothing part.ixl (ticked now input part).ixl
      brings = ticks_bring_nothing now input part

  step_saw : (key : Key) (input : Input) (part : StepSoFar) → Saw part → Saw (stepped now table key input part)
  unfolding stepped
  step_saw key input part saw = ticked_saw input _ (rules_saw (given now table key input (record part { ixl = all_clocked now part.ixl })) (given_saw key input (record part { ixl = all_clocked now part.ixl }) (clocked_saw part saw)))

-- ---- every list of events

module _ (busy : Bool) (site : Site) (table : Table) where
  abbrev Agree : IxlState → Type 0
  Agree ixl = EachRoute (SawWhere busy (IsKnownSo busy table ixl)) table ixl.routes

  new_saw : (begins : Beginning) → Agree (new_ixl site table begins)
  unfolding new_ixl
  new_saw begins number row route there here authorised place section stands known =
      let found = mapped_at new_route_of table.rows number route here in absurd (false≢true (ap (λ (r : RouteState). was_authorised r.phase) (sym found.2) ∙ authorised))

  stepped_saw : StandOnce table → (input : Input) (world : WorldState) → Agree world.interlocking.ixl → Agree (interlocking_stepped site table input world).interlocking.ixl
  unfolding interlocking_stepped
  stepped_saw stand input world saw = step_saw busy (reading_of world.interlocking.clock) table stand (key_of site) input (begun_with world.interlocking.ixl empty_outbox) saw

  pub saw_so : (world : WorldState) → IsStation site → IsTableOf site table → IsReached site table world → EachRoute (SawWhere busy (IsKnownSo busy table world.interlocking.ixl)) table world.interlocking.ixl.routes
  saw_so world station is_table reached = always_whole site table Agree new_saw (stepped_saw (stand_once site table station is_table)) world reached
