-- While no contact comes a detector tells of its sections at most what it owes, after its initialisation.
use Rattle.simulator_recovery.proofs.Words.Basics.{◌≡◌, inl, inr, ℕ, zero, suc, ◌+◌, ◌≤◌, ◌∙◌, Bool, true, false, List, [], ◌∷◌, ◌++◌, length, map, Option, Some, None, slice_get, if◌then◌else◌, refl, sym, ap, subst, arith, option_map, All, false≢true, length-append, none-some, same_Some}
use Rattle.simulator_recovery.proofs.Words.Links.{settled, Each, kept, reading_of, Ends, LinkState, is_open}
use Rattle.simulator_recovery.proofs.Words.Controllers.{called_all, entering, reading, Match, NoMatch, InitialisationCompleted, VersionAnswer, HostSoFar, HostState, fallen, is_completed, said, items_given, Keeps, Loses, ObjectCall, Pays, Senses, Takes, Ticks, contacts_in, object_after_all, one_of, reports_paid, beginning, host_step, initial_status, most_objects, report_then, AreComing, ArePayments, AreSomeOf, IsToldIn, IsVersionAnswer, contacts_of, has_lost, initialisation, Input, Report, Stage, detection_behaviour, losing, owing, status_of, Section}
use Rattle.simulator_recovery.proofs.Words.Interlockings.{told_by, told_by_all, Table}
use Rattle.simulator_recovery.proofs.Words.Stations.{DetectorEntry, Site, Once, IsStation, step_of, ClockedControllerState}
use Rattle.simulator_recovery.proofs.Words.Recovery.{section_names, HasNames, OwedFit, SaidAll, SaidBy, LawsBelow}
use Rattle.simulator_spec.specs.tds_ctl.Sections.{paying}
use Rattle.simulator_recovery.proofs.Lemmas.Talk.ControllerTells.{given_is, stays_out}
use Rattle.simulator_recovery.proofs.Lemmas.Ground.ControllersOnLinks.{Lists, lists_of}
use Rattle.simulator_recovery.proofs.Lemmas.Ground.HostKeeps.{Kept}
use Rattle.simulator_recovery.proofs.Lemmas.Ground.LinkCounts.{settled_open}
use Rattle.simulator_recovery.proofs.Lemmas.Ground.MatchedEnds.{detectors_keep, spoken}
use Rattle.simulator_recovery.proofs.Lemmas.Sections.SectionsCalls.{DetectorSays, Owed, answers_none, item, none_owed, one_owed, owed_first, told, told_both}
use Rattle.simulator_recovery.proofs.Lemmas.Sections.SectionsController.{begun_stage}
use Rattle.simulator_recovery.proofs.Lemmas.Sections.SectionsHost.{answers_so, at_first, begun_kept, come, come_named, items, items_are, object_open, paid}
use Rattle.simulator_recovery.proofs.Lemmas.Sections.SectionsInitial.{length_is, statuses, whole_of, whole_told}
use Rattle.simulator_recovery.proofs.Lemmas.Sections.SectionsKept.{AllowsAll, StepKept}
use Rattle.simulator_recovery.proofs.Lemmas.Sections.SectionsNames.{says}
use Rattle.simulator_recovery.proofs.Lemmas.Sections.SectionsClient.{all_both}
use Rattle.simulator_recovery.proofs.Lemmas.Sections.SectionsWindow.{IsIdle, few_come, idle_step, losing_none, many_few, owed_many, paid_many}
use Rattle.simulator_recovery.proofs.Lemmas.Talk.AlwaysTold.{TellsDetector, keeps as tells_keep}
use Rattle.simulator_recovery.proofs.Lemmas.Talk.Standing.{detectors_tell, sections_told}

-- ---- what is owed

-- where no contact comes the sections are as before
come_same : (now : ℕ) (calls : List ObjectCall) → AreComing now calls → contacts_in calls ≡ [] → (list : List Section) → object_after_all detection_behaviour calls list ≡ list
unfolding object_after_all contacts_in
come_same now [] coming none list = refl
come_same now (Takes at telegram ∷ others) coming none list = come_same now others coming.1 none list
come_same now (Senses at contact ∷ others) coming none list = absurd (let long = ap length none in omega (arith, long))
come_same now (Ticks at ∷ others) coming none list = absurd coming
come_same now (Keeps at ∷ others) coming none list = absurd coming
come_same now (Pays ∷ others) coming none list = absurd coming
come_same now (Loses ∷ others) coming none list = absurd coming

-- ---- how often sections are told of

module _ (d : DetectorSays) where
  -- so often are sections told of by these items
  abbrev pub tellings : List (List ℕ) → ℕ
  tellings given = length (told_by_all d.peer given)

  pub none_told : tellings [] ≡ 0
  unfolding told_by_all
  none_told = refl

  tellings_both : (one other : List (List ℕ)) → tellings (one ++ other) ≡ tellings one + tellings other
  tellings_both one other = ap length (all_both d.peer one other) ∙ length-append (told_by_all d.peer one) (told_by_all d.peer other)

  -- and by these reports
  abbrev reported : List Report → ℕ
  reported reports = length (told d reports)

  abbrev by_one : Report → ℕ
  by_one report = length (told_by d.peer (reading (item d report)))

  none_reported : reported [] ≡ 0
  none_reported = none_told

  first_reported : (report : Report) (others : List Report) → reported (report ∷ others) ≡ by_one report + reported others
  unfolding told_by_all
  first_reported report others = length-append (told_by d.peer (reading (item d report))) (told d others)

  both_reported : (one other : List Report) → reported (one ++ other) ≡ reported one + reported other
  both_reported one other = ap length (told_both d one other) ∙ length-append (told d one) (told d other)

  -- the status of a section tells of it once
  status_once : (list : List Section) → HasNames d.names list → (k : ℕ) (s : Section) → slice_get list k ≡ Some s → by_one (status_of s) ≡ 1
  status_once list named k s there = ap length (d.tell.status list named k s there)

  abbrev AreOnce : List Report → Type 0
  AreOnce reports = reported reports ≡ length reports

  first_once : (report : Report) (others : List Report) → by_one report ≡ 1 → AreOnce others → AreOnce (report ∷ others)
  first_once report others one later = let both = first_reported report others in omega (arith, one, later, both)

  statuses_once : (more start : ℕ) (list : List Section) → HasNames d.names list → AreOnce (initial_status detection_behaviour more start list)
  unfolding initial_status
  statuses_once zero start list named = none_reported
  statuses_once (suc more) start list named = choose (slice_get list start) refl (statuses_once more (start + 1) list named)
    where
      choose : (found : Option Section) → slice_get list start ≡ found → AreOnce (initial_status detection_behaviour more (start + 1) list)
          → AreOnce (report_then (option_map status_of found) (initial_status detection_behaviour more (start + 1) list))
      choose None e later = none_reported
      choose (Some s) e later = first_once (status_of s) (initial_status detection_behaviour more (start + 1) list) (status_once list named start s e) later

  -- so does each report that such sections owe
  owed_once : (report : Report) → OwedFit detection_behaviour (HasNames d.names) report → by_one report ≡ 1
  owed_once report o = by_first (owed_first o.object)
    where
      by_first : Owed o.object → by_one report ≡ 1
      by_first (none_owed none same) = absurd (none-some report (sym (ap (option_map status_of) none) ∙ o.owes))
      by_first (one_owed k s is) = subst (λ (r : Report). by_one r ≡ 1) (same_Some (status_of s) report (sym (ap (option_map status_of) is.found) ∙ o.owes)) (status_once o.object o.fits k s is.there)

  each_once : (reports : List Report) → Each (OwedFit detection_behaviour (HasNames d.names)) reports → AreOnce reports
  each_once [] each = none_reported
  each_once (first ∷ others) each = first_once first others (owed_once first each.0) (each_once others each.1)

  -- some of a list tell at most as often as all of it
  some_few : (some all : List Report) → AreSomeOf some all → reported some ≤ reported all
  some_few [] all are = let none = none_reported in omega (arith, none)
  some_few (one ∷ more) [] are = absurd are
  some_few (one ∷ more) (first ∷ others) (inl (same, rest)) =
      let later = some_few more others rest
      in let a = first_reported one more
      in let b = first_reported first others
      in let c = ap by_one same
      in omega (arith, later, a, b, c)
  some_few (one ∷ more) (first ∷ others) (inr rest) =
      let later = some_few (one ∷ more) others rest
      in let b = first_reported first others
      in omega (arith, later, b)

  -- ---- the initialisation

  abbrev answer : Report
  answer = said detection_behaviour (VersionAnswer Match d.version)

  statuses_long : (list : List Section) → HasNames d.names list → length (statuses d list) ≡ length d.names
  statuses_long list named =
      let long = length_is d list named
      in let few = d.few
      in let all = sections_told list (omega (arith, long, few))
      in omega (arith, long, all)

  whole_often : (list : List Section) → HasNames d.names list → tellings (whole_of d list) ≡ length d.names
  whole_often list named = ap length (whole_told d list) ∙ (statuses_once most_objects 0 list named ∙ statuses_long list named)

  initial_few : (list : List Section) → HasNames d.names list → reported (initialisation detection_behaviour list) ≤ length d.names
  initial_few list named =
      let whole = whole_often list named
      in let first = first_reported answer (initialisation detection_behaviour list)
      in omega (arith, whole, first)

  -- what a host says itself tells of each section once, at most
  own_few : (list : List Section) (answers begins : List Report) → HasNames d.names list → All (IsVersionAnswer detection_behaviour d.version) answers
      → AreSomeOf begins (initialisation detection_behaviour list)
      → reported (answers ++ begins) ≤ length d.names
  own_few list answers begins named are some =
      let both = both_reported answers begins
      in let none = ap length (answers_none d answers are)
      in let few = some_few begins (initialisation detection_behaviour list) some
      in let all = initial_few list named
      in omega (arith, both, none, few, all)

  -- A detector that has said all has given three items more than it has told of sections, and told of each.
  pub record ToldOf (given : List (List ℕ)) : Type 0 where
    pub many : length given ≡ 3 + tellings given
    pub each : length d.names ≤ tellings given

  pub said_all : (given : List (List ℕ)) → SaidAll detection_behaviour (HasNames d.names) (item d) d.version given → ToldOf given
  said_all given all = record {
    many = let a = given_long in let b = initial_long in let c = told_long in let n = named_long in let o = owed_told in omega (arith, a, b, c, n, o);
    each = let c = told_long in omega (arith, c);
  }
    where
      start : List (List ℕ)
      start = map (item d) (initialisation detection_behaviour all.object)

      rest : List (List ℕ)
      rest = map (item d) all.reports

      given_long : length given ≡ suc (length (initialisation detection_behaviour all.object) + length all.reports)
      given_long = ap length all.are ∙ ap suc (length-append start rest ∙ two (map_long (initialisation detection_behaviour all.object)) (map_long all.reports))
        where
          map_long : (reports : List Report) → length (map (item d) reports) ≡ length reports
          map_long [] = refl
          map_long (first ∷ others) = ap suc (map_long others)

          two : {a b c e : ℕ} → a ≡ b → c ≡ e → a + c ≡ b + e
          two f g = cc (f, g)

      initial_long : length (initialisation detection_behaviour all.object) ≡ suc (length (statuses d all.object) + 1)
      initial_long = ap suc (length-append (statuses d all.object) (said detection_behaviour InitialisationCompleted ∷ []))

      named_long : length (statuses d all.object) ≡ length d.names
      named_long = statuses_long all.object all.fits

      owed_told : tellings rest ≡ length all.reports
      owed_told = each_once all.reports all.owed

      told_long : tellings given ≡ length d.names + tellings rest
      told_long = ap tellings all.are ∙ (tellings_both (whole_of d all.object) rest ∙ ap (λ (n : ℕ). n + tellings rest) (whole_often all.object all.fits))

  -- before, it has told of none
  pub unsaid : (Wrong : Type 0) (how_far : Stage) (given : List (List ℕ)) → is_completed how_far ≡ false → SaidBy detection_behaviour (HasNames d.names) Wrong (item d) d.version how_far given
      → tellings given ≡ 0
  unsaid Wrong Stage.Outside given early none = ap tellings none ∙ none_told
  unsaid Wrong Stage.AwaitsCheck given early none = ap tellings none ∙ none_told
  unsaid Wrong Stage.AwaitsRequest given early answered = ap tellings answered
      ∙ (first_reported answer [] ∙ (let a = ap length (d.tell.answer answer (Match, refl)) in let b = none_reported in omega (arith, a, b)))
  unsaid Wrong Stage.Completed given early all = absurd (false≢true (sym early))
  unsaid Wrong Stage.Refused given early refused = ap tellings refused.1
      ∙ (first_reported (said detection_behaviour (VersionAnswer NoMatch d.version)) []
      ∙ (let a = ap length (d.tell.answer (said detection_behaviour (VersionAnswer NoMatch d.version)) (NoMatch, refl)) in let b = none_reported in omega (arith, a, b)))

  -- ---- reports that are paid

  abbrev PaidFew : List ObjectCall → Type 0
  PaidFew pays = (list : List Section) → HasNames d.names list → reported (reports_paid detection_behaviour pays list) + owed_many (object_after_all detection_behaviour pays list) ≤ owed_many list

  paid_few : (pays : List ObjectCall) → ArePayments pays → PaidFew pays
  unfolding object_after_all reports_paid
  paid_few [] are list named = let none = none_reported in omega (arith, none)
  paid_few (Pays ∷ others) are list named = choose (paid_few others are) (owed_first list)
    where
      After : List Report → Type 0
      After first = reported (first ++ reports_paid detection_behaviour others (paying list)) + owed_many (object_after_all detection_behaviour others (paying list)) ≤ owed_many list

      choose : PaidFew others → Owed list → After (one_of (owing list))
      choose later (none_owed none same) = subst (λ (found : Option Section). After (one_of (option_map status_of found))) (sym none)
          (subst (λ (l : List Section). reported (reports_paid detection_behaviour others l) + owed_many (object_after_all detection_behaviour others l) ≤ owed_many list) (sym same)
          (later list named))
      choose later (one_owed k s is) = subst (λ (found : Option Section). After (one_of (option_map status_of found))) (sym is.found) (
          let rest = later (paying list) (d.keep.pays list named)
          in let one = status_once list named k s is.there
          in let both = first_reported (status_of s) (reports_paid detection_behaviour others (paying list))
          in let less = paid_many list s is.found
          in omega (arith, rest, one, both, less))
  paid_few (Takes at telegram ∷ others) are list named = absurd are
  paid_few (Ticks at ∷ others) are list named = absurd are
  paid_few (Senses at contact ∷ others) are list named = absurd are
  paid_few (Keeps at ∷ others) are list named = absurd are
  paid_few (Loses ∷ others) are list named = absurd are

  -- ---- a step in which no contact comes

  module _ (now : ℕ) (input : Input) (host : HostState (List Section)) (kept_so : Kept detection_behaviour (HasNames d.names) d.version d.own_name d.peer_name d.keep host)
      (t : IsToldIn detection_behaviour now input host (host_step detection_behaviour now input host)) (quiet : contacts_of input ≡ []) where
    abbrev part : HostSoFar (List Section)
    part = host_step detection_behaviour now input host

    abbrev begun : HostState (List Section)
    begun = beginning detection_behaviour now host

    begun_few : owed_many begun.object ≤ owed_many host.object
    begun_few = subst (λ (l : List Section). owed_many l ≤ owed_many host.object) (sym (t.begun_is ∙ at_first (has_lost (record host { link = settled now host.link })) now host.object))
        (by_loss (has_lost (record host { link = settled now host.link })))
      where
        by_loss : (b : Bool) → owed_many (if b then losing host.object else host.object) ≤ owed_many host.object
        by_loss true = let none = losing_none host.object in omega (arith, none)
        by_loss false = omega arith

    -- nothing, where the initialisation isn't completed as the step begins
    stage_begun : begun.stage ≡ (if has_lost (record host { link = settled now host.link }) then Stage.Outside else host.stage)
    unfolding beginning fallen
    stage_begun = choose (has_lost (record host { link = settled now host.link }))
      where
        choose : (b : Bool) → (if b then record host { link = settled now host.link; stage = Stage.Outside; object = losing host.object } else record host { link = settled now host.link }).stage
            ≡ (if b then Stage.Outside else host.stage)
        choose true = refl
        choose false = refl

    begun_none : IsIdle host → is_completed begun.stage ≡ false → owed_many begun.object ≡ 0
    begun_none idle early = subst (λ (l : List Section). owed_many l ≡ 0) (sym (t.begun_is ∙ at_first (has_lost (record host { link = settled now host.link })) now host.object))
        (by_loss (has_lost (record host { link = settled now host.link })) (ap is_completed (sym stage_begun) ∙ early))
      where
        by_loss : (b : Bool) → is_completed (if b then Stage.Outside else host.stage) ≡ false → owed_many (if b then losing host.object else host.object) ≡ 0
        by_loss true e = losing_none host.object
        by_loss false e = idle e

    come_is : come d now input host kept_so t ≡ begun.object
    come_is = come_same now t.comes t.are_coming (t.senses ∙ quiet) begun.object

    -- what was told before, and what is told in it, of what the step owed
    pub step_tells : (start : List (List ℕ)) (bound : ℕ) → is_open part.host.link.phase ≡ true → is_completed part.host.stage ≡ true → length d.names ≤ bound → IsIdle host
        → (is_completed begun.stage ≡ true → tellings start + owed_many host.object ≤ bound) → (is_completed begun.stage ≡ false → tellings start ≡ 0)
        → tellings (start ++ items d now input host kept_so t) + owed_many part.host.object ≤ bound
    step_tells start bound opened completed enough idle late early = by_stage (is_completed begun.stage) refl
      where
        whole : tellings (start ++ items d now input host kept_so t) ≡ tellings start + (reported t.own + reported t.reports)
        whole = tellings_both start (items d now input host kept_so t)
            ∙ ap (λ (n : ℕ). tellings start + n) (ap tellings (items_are d now input host kept_so t) ∙ both_reported t.own t.reports)

        reports_few : reported t.reports + owed_many (paid d now input host kept_so t) ≤ owed_many (come d now input host kept_so t)
        reports_few = subst (λ (reports : List Report). reported reports + owed_many (paid d now input host kept_so t) ≤ owed_many (come d now input host kept_so t))
            (sym (t.paid (ap is_completed (sym (t.stage_is opened)) ∙ completed)))
            (paid_few t.pays t.are_payments (come d now input host kept_so t) (come_named d now input host kept_so t))

        after : owed_many part.host.object ≡ owed_many (paid d now input host kept_so t)
        after = ap owed_many (object_open d now input host kept_so t opened)

        came : owed_many (come d now input host kept_so t) ≡ owed_many begun.object
        came = ap owed_many come_is

        by_stage : (b : Bool) → is_completed begun.stage ≡ b → tellings (start ++ items d now input host kept_so t) + owed_many part.host.object ≤ bound
        by_stage true e =
            let none = ap reported (t.says.late e) ∙ none_reported
            in let before = late e
            in let few = begun_few
            in omega (arith, whole, reports_few, after, came, none, before, few)
        by_stage false e =
            let own = subst (λ (reports : List Report). reported reports ≤ length d.names) (sym t.says.own_is)
            (own_few begun.object t.says.answers t.says.begins (begun_kept d now input host kept_so t).object (answers_so d now input host kept_so t) t.says.are_some)
            in let before = early e
            in let none = begun_none idle e
            in omega (arith, whole, reports_few, after, came, own, before, none, enough)

-- no contact
abbrev pub Quiet : Input → Type 0
Quiet input = contacts_of input ≡ []

pub quiet_allows : AllowsAll Quiet
quiet_allows = record { ticks = refl; comes = λ bytes. refl }

-- ---- a detector of a station

module _ (laws : LawsBelow) (site : Site) (table : Table) (station : IsStation site) (once : Once site) (at : ℕ) (entry : DetectorEntry) (there : slice_get site.detectors at ≡ Some entry)
    (bound : ℕ) (enough : length (section_names site entry) ≤ bound) where
  abbrev d : DetectorSays
  d = says laws laws.written_telegram_is_read site table station once at entry there

  -- Once its initialisation is completed, so often it has told of its sections, or owes to.
  abbrev pub IsFew : HostState (List Section) → Lists → Type 0
  IsFew host lists = is_open host.link.phase ≡ true → is_completed host.stage ≡ true → tellings d lists.given + owed_many host.object ≤ bound

  -- before, it owes nothing
  pub record Counted (host : HostState (List Section)) (lists : Lists) : Type 0 where
    pub tells : TellsDetector site entry host lists
    pub idle : IsIdle host
    pub few : IsFew host lists

  module _ (input : Input) (connection : ℕ) (c : ClockedControllerState (List Section)) (ends : Ends) (quiet : Quiet input) (link_is : ends.server.link ≡ settled (reading_of c.clock) c.host.link)
      (clock_is : ends.server.clock ≡ c.clock)
      (tells : TellsDetector site entry c.host (lists_of ends.server)) (idle : IsIdle c.host) where
    abbrev now : ℕ
    now = reading_of c.clock

    abbrev done : HostSoFar (List Section)
    done = step_of detection_behaviour input c

    abbrev after : Lists
    after = lists_of (called_all connection done.calls ends).server

    abbrev given_now : List (List ℕ)
    given_now = items_given now done.calls (settled now c.host.link)

    given_so : after.given ≡ kept (entering input connection ends) ends.server.given ++ given_now
    given_so = given_is detection_behaviour (HasNames (section_names site entry)) (spoken site) entry.name site.station.name
        (detectors_keep site (section_names site entry)) detectors_tell laws.detectors input connection c ends link_is clock_is tells

    owed_all : owed_many c.host.object ≤ length d.names
    owed_all = let few = many_few c.host.object in let long = length_is d c.host.object tells.kept_so.object in omega (arith, few, long)

    pub then_tells : TellsDetector site entry done.host after
    then_tells = (tells_keep site laws).detectors input connection at c ends link_is clock_is
        (λ x f. subst (λ (y : DetectorEntry). TellsDetector site y c.host (lists_of ends.server)) (same_Some entry x (sym there ∙ f)) tells) entry there

    pub then_idle : IsIdle done.host
    then_idle = idle_step now input c.host (few_come site station laws.detector_step_is_told_to_the_object now input at entry there c.host tells.kept_so)

    -- where it was so in the connection that it was in, if it was in one by the clock
    pub step_few : (is_open ends.server.link.phase ≡ true → IsFew c.host (lists_of ends.server)) → IsFew done.host after
    step_few was opened completed = subst (λ (given : List (List ℕ)). tellings d given + owed_many done.host.object ≤ bound) (sym given_so)
        (by_cases (is_open ends.server.link.phase) refl (entering input connection ends) refl)
      where
        from : (start : List (List ℕ)) → (is_completed (beginning detection_behaviour now c.host).stage ≡ true → tellings d start + owed_many c.host.object ≤ bound)
            → (is_completed (beginning detection_behaviour now c.host).stage ≡ false → tellings d start ≡ 0)
            → tellings d (start ++ given_now) + owed_many done.host.object ≤ bound
        from start late early = step_tells d now input c.host tells.kept_so (laws.detector_step_is_told_to_the_object now input c.host) quiet start bound opened completed enough idle late early

        -- in the connection that it was in
        inside : is_open ends.server.link.phase ≡ true → tellings d (ends.server.given ++ given_now) + owed_many done.host.object ≤ bound
        inside f = from ends.server.given (λ late. was f was_open (sym (ap is_completed still) ∙ late)) (λ early. unsaid d _ c.host.stage ends.server.given (sym (ap is_completed still)
            ∙ early) (tells.said was_open))
          where
            opened_then : is_open (settled now c.host.link).phase ≡ true
            opened_then = ap (λ (l : LinkState). is_open l.phase) (sym link_is) ∙ f

            was_open : is_open c.host.link.phase ≡ true
            was_open = (settled_open now c.host.link opened_then).1

            still : (beginning detection_behaviour now c.host).stage ≡ c.host.stage
            still = begun_stage now c.host opened_then

        by_cases : (b : Bool) → is_open ends.server.link.phase ≡ b → (entered : Option ℕ) → entering input connection ends ≡ entered
            → tellings d (kept entered ends.server.given ++ given_now) + owed_many done.host.object ≤ bound
        by_cases b f (Some other) g = let none = none_told d in let all = owed_all in from [] (λ late. omega (arith, none, all, enough)) (λ early. none)
        by_cases true f None g = inside f
        by_cases false f None g = absurd (false≢true
            (sym (stays_out detection_behaviour (HasNames (section_names site entry)) (spoken site) entry.name site.station.name
            (detectors_keep site (section_names site entry)) detectors_tell laws.detectors input connection c ends link_is clock_is tells f g) ∙ opened))

  pub keeps : StepKept Quiet (λ last. Counted)
  keeps input connection c ends quiet link_is clock_is q = record {
    tells = then_tells input connection c ends quiet link_is clock_is q.tells q.idle;
    idle = then_idle input connection c ends quiet link_is clock_is q.tells q.idle;
    few = step_few input connection c ends quiet link_is clock_is q.tells q.idle (λ f. q.few);
  }
