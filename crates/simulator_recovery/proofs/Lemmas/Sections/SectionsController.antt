-- What the detectors of a station have given tells of their sections as they are, event by event.
use Rattle.simulator_recovery.proofs.Words.Basics.{◌≡◌, inl, ℕ, ◌∙◌, Bool, true, false, not, ◌&&◌, List, [], ◌++◌, Option, Some, None, slice_get, if◌then◌else◌, refl, sym, ap, subst, false≢true}
use Rattle.simulator_recovery.proofs.Words.Links.{settled, kept, reading_of, Links, begun, run_links, Ends, is_open}
use Rattle.simulator_recovery.proofs.Words.Controllers.{called_all, entering, HostSoFar, HostState, fallen, is_completed, is_outside, items_given, beginning, host_step, IsToldIn, Input, Stage, losing, PointState, SignalState, detection_behaviour, Section}
use Rattle.simulator_recovery.proofs.Words.Interlockings.{told_by_all, Table}
use Rattle.simulator_recovery.proofs.Words.Stations.{DetectorEntry, Site, Once, IsStation, Event, step_of, Outset, at_zero, first_controller, new_detector, world_at, happens, AreLinksOf, names_at, starts_at_zero, ClockedControllerState, WorldState, events_of, IsWhole}
use Rattle.simulator_recovery.proofs.Words.Recovery.{LawsBelow, IsToldAlways, WrittenIsRead, section_names, HasNames}
use Rattle.simulator_recovery.proofs.Lemmas.Talk.ControllerSaid.{world}
use Rattle.simulator_recovery.proofs.Lemmas.Talk.ControllerTells.{given_is, stays_out}
use Rattle.simulator_recovery.proofs.Lemmas.Ground.ControllersOnLinks.{ControllersKeep, Lists, On, held_after, lists_of}
use Rattle.simulator_recovery.proofs.Lemmas.Ground.IxlClients.{mapped_at}
use Rattle.simulator_recovery.proofs.Lemmas.Ground.LinkCounts.{settled_open}
use Rattle.simulator_recovery.proofs.Lemmas.Ground.MatchedEnds.{detectors_keep, spoken}
use Rattle.simulator_recovery.proofs.Lemmas.Sections.SectionsCalls.{DetectorSays}
use Rattle.simulator_recovery.proofs.Lemmas.Sections.SectionsHost.{Reports, items, step_reports}
use Rattle.simulator_recovery.proofs.Lemmas.Sections.SectionsNames.{says}
use Rattle.simulator_recovery.proofs.Lemmas.Talk.AlwaysSaid.{new_closed}
use Rattle.simulator_recovery.proofs.Lemmas.Talk.AlwaysTold as tells_first
use Rattle.simulator_recovery.proofs.Lemmas.Talk.AlwaysTold.{TellsDetector, keeps as tells_keep}
use Rattle.simulator_recovery.proofs.Lemmas.Talk.Standing.{detectors_tell}

-- ---- how a step begins

-- a host that is inside by the clock begins as it was
module _ (now : ℕ) (host : HostState (List Section)) (inside : is_open (settled now host.link).phase ≡ true) where
  abbrev clocked : HostState (List Section)
  clocked = record host { link = settled now host.link }

  stands : fallen detection_behaviour clocked ≡ clocked
  unfolding fallen
  stands = choose (is_outside host.stage) (is_open (settled now host.link).phase) inside
    where
      choose : (a b : Bool) → b ≡ true → (if not a && not b then record clocked { stage = Stage.Outside; object = losing host.object } else clocked) ≡ clocked
      choose true true e = refl
      choose false true e = refl
      choose a false e = absurd (false≢true e)

  pub begun_stage : (beginning detection_behaviour now host).stage ≡ host.stage
  unfolding beginning
  begun_stage = ap (λ (h : HostState (List Section)). h.stage) stands

  pub begun_object : (beginning detection_behaviour now host).object ≡ host.object
  unfolding beginning
  begun_object = ap (λ (h : HostState (List Section)). h.object) stands

module _ (links : LawsBelow) (written : WrittenIsRead) (told : IsToldAlways) (laws : LawsBelow) (site : Site) (table : Table) (station : IsStation site) (once : Once site) where
  -- what a detector said, and that it tells of its sections
  pub record TellsSections (place : ℕ) (entry : DetectorEntry) (there : slice_get site.detectors place ≡ Some entry) (host : HostState (List Section)) (lists : Lists) : Type 0 where
    pub tells : TellsDetector site entry host lists
    pub reports : Reports (says links written site table station once place entry there) host lists.given

  module _ (input : Input) (connection place : ℕ) (entry : DetectorEntry) (there : slice_get site.detectors place ≡ Some entry) (c : ClockedControllerState (List Section)) (ends : Ends)
      (link_is : ends.server.link ≡ settled (reading_of c.clock) c.host.link) (clock_is : ends.server.clock ≡ c.clock) (before : TellsSections place entry there c.host (lists_of ends.server)) where
    abbrev now : ℕ
    now = reading_of c.clock

    abbrev d : DetectorSays
    d = says links written site table station once place entry there

    abbrev done : HostSoFar (List Section)
    done = step_of detection_behaviour input c

    abbrev after : Lists
    after = lists_of (called_all connection done.calls ends).server

    abbrev t : IsToldIn detection_behaviour now input c.host (host_step detection_behaviour now input c.host)
    t = told now input c.host

    abbrev given_now : List (List ℕ)
    given_now = items_given now done.calls (settled now c.host.link)

    given_so : after.given ≡ kept (entering input connection ends) ends.server.given ++ given_now
    given_so = given_is detection_behaviour (HasNames (section_names site entry)) (spoken site) entry.name site.station.name (detectors_keep site (section_names site entry)) detectors_tell laws.detectors input connection c ends link_is clock_is before.tells

    -- in the connection that it was in
    inside_reports : is_open ends.server.link.phase ≡ true → entering input connection ends ≡ None → Reports d done.host after.given
    inside_reports f g = subst (Reports d done.host) (sym (given_so ∙ ap (λ (o : Option ℕ). kept o ends.server.given ++ given_now) g))
        (step_reports d now input c.host before.tells.kept_so t ends.server.given (record {
          none = λ early place. before.reports.none was (ap is_completed (sym (begun_stage now c.host inside)) ∙ early) place;
          fits = λ place x e free. before.reports.fits was place x (ap (λ (l : List Section). slice_get l place) (sym (begun_object now c.host inside)) ∙ e) free;
        }))
      where
        inside : is_open (settled now c.host.link).phase ≡ true
        inside = ap (λ l. is_open l.phase) (sym link_is) ∙ f

        was : is_open c.host.link.phase ≡ true
        was = (settled_open now c.host.link inside).1

    -- in one that it enters
    entering_reports : (entered : ℕ) → entering input connection ends ≡ Some entered → Reports d done.host after.given
    unfolding told_by_all
    entering_reports entered g = subst (Reports d done.host) (sym (given_so ∙ ap (λ (o : Option ℕ). kept o ends.server.given ++ given_now) g))
        (step_reports d now input c.host before.tells.kept_so t [] (record { none = λ early place. refl; fits = λ place x e free. inl refl }))

    -- outside, and in none after the step
    outside_reports : is_open done.host.link.phase ≡ false → Reports d done.host after.given
    outside_reports shut = record { none = λ opened. absurd (false≢true (sym shut ∙ opened)); fits = λ opened. absurd (false≢true (sym shut ∙ opened)) }

    pub controller_reports : Reports d done.host after.given
    controller_reports = by_cases (is_open ends.server.link.phase) refl (entering input connection ends) refl
      where
        by_cases : (b : Bool) → is_open ends.server.link.phase ≡ b → (entered : Option ℕ) → entering input connection ends ≡ entered → Reports d done.host after.given
        by_cases b f (Some other) g = entering_reports other g
        by_cases true f None g = inside_reports f g
        by_cases false f None g = outside_reports (stays_out detection_behaviour (HasNames (section_names site entry)) (spoken site) entry.name site.station.name (detectors_keep site (section_names site entry)) detectors_tell laws.detectors input connection c ends link_is clock_is before.tells f g)

  -- ---- a station

  abbrev pub NoSignal : ℕ → HostState SignalState → Lists → Type 0
  NoSignal place host lists = Unit {0}

  abbrev pub NoPoint : ℕ → HostState PointState → Lists → Type 0
  NoPoint place host lists = Unit {0}

  abbrev pub OfDetector : ℕ → HostState (List Section) → Lists → Type 0
  OfDetector place host items = (entry : DetectorEntry) (there : slice_get site.detectors place ≡ Some entry) → TellsSections place entry there host items

  -- a detector that was just made is in no connection
  closed_reports : (d : DetectorSays) (host : HostState (List Section)) (given : List (List ℕ)) → is_open host.link.phase ≡ false → Reports d host given
  closed_reports d host given shut = record { none = λ opened. absurd (false≢true (sym shut ∙ opened)); fits = λ opened. absurd (false≢true (sym shut ∙ opened)) }

  pub keeps : ControllersKeep site NoSignal NoPoint OfDetector
  keeps = record {
    signals = λ input connection place c two link_is clock_is before. tt;
    points = λ input connection place c two link_is clock_is before. tt;
    detectors = λ input connection place c two link_is clock_is before entry e. record {
      tells = (tells_keep site laws).detectors input connection place c two link_is clock_is (λ x f. (before x f).tells) entry e;
      reports = controller_reports input connection place entry e c two link_is clock_is (before entry e);
    };
    new_signals = λ begins place entry old items e before. tt;
    new_points = λ begins position place entry old items e before. tt;
    new_detectors = λ begins occupied place entry old items e before other f. record {
      tells = (tells_keep site laws).new_detectors begins occupied place entry old items e (λ x g. (before x g).tells) other f;
      reports = closed_reports (says links written site table station once place other f) (new_detector site begins occupied entry) items.given (new_closed detection_behaviour _ _ _ _ _ _ _);
    };
  }

  abbrev pub Telling : WorldState → Links → Type 0
  Telling world network = On laws site table NoSignal NoPoint OfDetector keeps world network

  pub telling_first : (outset : Outset) → Telling (world_at site table outset) (begun (names_at site) starts_at_zero)
  unfolding world_at
  telling_first outset = record {
    of_signals = λ place c e. tt;
    of_points = λ place c e. tt;
    of_detectors = λ place c e entry f.
        let found = mapped_at (λ detector. first_controller (new_detector site at_zero outset.occupancies detector)) site.detectors place c e
        in record {
          tells = (tells_first.telling_first site laws table outset).of_detectors place c e entry f;
          reports = closed_reports (says links written site table station once place entry f) c.host _ (ap (λ (x : ClockedControllerState (List Section)). is_open x.host.link.phase) found.2 ∙ new_closed detection_behaviour _ _ _ _ _ _ _);
        };
  }

  pub telling_on : (happening : Event) (world : WorldState) (network : Links) → IsWhole site world → AreLinksOf site world network → Telling world network
      → Telling (happens site table happening world) (run_links (events_of site table happening world) network)
  telling_on happening world network whole are before = held_after laws site table NoSignal NoPoint OfDetector keeps happening world network whole are before
