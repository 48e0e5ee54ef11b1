-- What the controllers of a station have given in their last connections, after every list of events.
use Rattle.simulator_recovery.proofs.Words.Basics.{◌≡◌, ℕ, ◌∙◌, List, [], Some, slice_get, refl, sym, subst, false≢true, same_Some, zip}
use Rattle.simulator_recovery.proofs.Words.Links.{Links, run_links, begun}
use Rattle.simulator_recovery.proofs.Words.Controllers.{Occupancy, Position, Behaviour, HostState, Report, Stage, SignalState, signal_behaviour, point_behaviour, PointState, detection_behaviour, Section}
use Rattle.simulator_recovery.proofs.Words.Interlockings.{Table}
use Rattle.simulator_recovery.proofs.Words.Stations.{DetectorEntry, Site, Point as PointEntry, Signal as SignalEntry, Event, Beginning, Outset, at_zero, new_detector, new_point, new_signal, point_standing, world_at, happens, AreLinksOf, names_at, starts_at_zero, ClockedControllerState, WorldState, events_of, IsWhole, Once, IsStation, IsReached}
use Rattle.simulator_recovery.proofs.Words.Recovery.{objects_told, section_names, Any, HasNames, IndicatesSpoken, SaidSome, SomeAsks, item_for, LawsBelow, AllHostsTalk}
use Rattle.simulator_recovery.specs.Told.{HaveTold}
use Rattle.simulator_recovery.proofs.Lemmas.Talk.ControllerTells.{Tells, controller_tells}
use Rattle.simulator_recovery.proofs.Lemmas.Ground.ControllersOnLinks.{ControllersKeep, Lists, On, held_after}
use Rattle.simulator_recovery.proofs.Lemmas.Talk.HostLinks.{new_stands}
use Rattle.simulator_recovery.proofs.Lemmas.Ground.IxlClients.{mapped_at}
use Rattle.simulator_recovery.proofs.Lemmas.Ground.MatchedEnds.{KeptDetector, KeptPoint, KeptSignal, detectors_keep, points_keep, signals_keep, spoken}
use Rattle.simulator_recovery.proofs.Lemmas.Ground.MatchedEnds as ends
use Rattle.simulator_recovery.proofs.Lemmas.Ground.StationKeeps.{first_of}
use Rattle.simulator_recovery.proofs.Lemmas.Talk.AlwaysSaid.{new_closed}
use Rattle.simulator_recovery.proofs.Lemmas.Talk.Standing.{detectors_tell, points_tell, signals_tell}
use Rattle.simulator_recovery.proofs.Lemmas.Ground.SectionsEvents.{HasHeld, always_held}

-- ---- what the controllers of a station have given in their last connections is a beginning of their conversations, event by event

-- nothing was given or taken
abbrev pub no_lists : Lists
no_lists = record { given = []; taken = [] }

nothing_said : {Object : Type 0} (does : Behaviour Object) (Fits : Object → Type 0) (Wrong : Type 0) (item : Report → List ℕ) (version : ℕ) → SaidSome does Fits Wrong item version []
nothing_said does Fits Wrong item version = record { by = Stage.Outside; whole = []; said = refl; begins = record { rest = []; are = refl } }

module _ (site : Site) where
  abbrev pub TellsSignal : SignalEntry → HostState SignalState → Lists → Type 0
  TellsSignal entry = Tells signal_behaviour (IndicatesSpoken site) (spoken site) entry.name site.station.name (signals_keep site)

  abbrev pub TellsPoint : PointEntry → HostState PointState → Lists → Type 0
  TellsPoint entry = Tells point_behaviour Any (spoken site) entry.name site.station.name (points_keep site)

  abbrev pub TellsDetector : DetectorEntry → HostState (List Section) → Lists → Type 0
  TellsDetector entry = Tells detection_behaviour (HasNames (section_names site entry)) (spoken site) entry.name site.station.name (detectors_keep site (section_names site entry))

  abbrev pub OfSignal : ℕ → HostState SignalState → Lists → Type 0
  OfSignal place host items = (entry : SignalEntry) → slice_get site.signals place ≡ Some entry → TellsSignal entry host items

  abbrev pub OfPoint : ℕ → HostState PointState → Lists → Type 0
  OfPoint place host items = (entry : PointEntry) → slice_get site.points place ≡ Some entry → TellsPoint entry host items

  abbrev pub OfDetector : ℕ → HostState (List Section) → Lists → Type 0
  OfDetector place host items = (entry : DetectorEntry) → slice_get site.detectors place ≡ Some entry → TellsDetector entry host items

  -- a controller that was just made is in no connection; what it gave in its last one stays
  signal_made : (begins : Beginning) (entry : SignalEntry) (items : Lists) → KeptSignal site entry (new_signal site begins entry) → SaidSome signal_behaviour (IndicatesSpoken site) (SomeAsks (spoken site) items.taken) (item_for entry.name site.station.name) (spoken site) items.given
      → TellsSignal entry (new_signal site begins entry) items
  signal_made begins entry items kept_so ever = record {
    objects = objects_told signal_behaviour _;
    counts = new_stands signal_behaviour signals_tell _ _ _ _ _ _ _ _ refl;
    kept_so = kept_so;
    said = λ e. absurd (false≢true (sym (new_closed signal_behaviour _ _ _ _ _ _ _) ∙ e));
    ever = ever;
  }

  point_made : (begins : Beginning) (position : Position) (entry : PointEntry) (items : Lists) → KeptPoint site entry (new_point site begins position entry) → SaidSome point_behaviour Any (SomeAsks (spoken site) items.taken) (item_for entry.name site.station.name) (spoken site) items.given
      → TellsPoint entry (new_point site begins position entry) items
  point_made begins position entry items kept_so ever = record {
    objects = objects_told point_behaviour _;
    counts = new_stands point_behaviour points_tell _ _ _ _ _ _ _ _ refl;
    kept_so = kept_so;
    said = λ e. absurd (false≢true (sym (new_closed point_behaviour _ _ _ _ _ _ _) ∙ e));
    ever = ever;
  }

  detector_made : (begins : Beginning) (occupied : List Occupancy) (entry : DetectorEntry) (items : Lists) → KeptDetector site entry (new_detector site begins occupied entry)
      → SaidSome detection_behaviour (HasNames (section_names site entry)) (SomeAsks (spoken site) items.taken) (item_for entry.name site.station.name) (spoken site) items.given → TellsDetector entry (new_detector site begins occupied entry) items
  detector_made begins occupied entry items kept_so ever = record {
    objects = objects_told detection_behaviour _;
    counts = new_stands detection_behaviour detectors_tell _ _ _ _ _ _ _ _ refl;
    kept_so = kept_so;
    said = λ e. absurd (false≢true (sym (new_closed detection_behaviour _ _ _ _ _ _ _) ∙ e));
    ever = ever;
  }

  module _ (laws : LawsBelow) where
    pub keeps : ControllersKeep site OfSignal OfPoint OfDetector
    keeps = record {
      signals = λ input connection place c two link_is clock_is tells entry e. controller_tells signal_behaviour (IndicatesSpoken site) (spoken site) entry.name site.station.name (signals_keep site) signals_tell laws.signals input connection c two link_is clock_is (tells entry e);
      points = λ input connection place c two link_is clock_is tells entry e. controller_tells point_behaviour Any (spoken site) entry.name site.station.name (points_keep site) points_tell laws.points input connection c two link_is clock_is (tells entry e);
      detectors = λ input connection place c two link_is clock_is tells entry e. controller_tells detection_behaviour (HasNames (section_names site entry)) (spoken site) entry.name site.station.name (detectors_keep site (section_names site entry)) detectors_tell laws.detectors
          input connection c two link_is clock_is (tells entry e);
      new_signals = λ begins place entry old items e tells other f. subst (λ (x : SignalEntry). TellsSignal x (new_signal site begins entry) items) (same_Some entry other (sym e ∙ f)) (signal_made begins entry items (ends.new_signal_kept site begins entry) (tells entry e).ever);
      new_points = λ begins position place entry old items e tells other f. subst (λ (x : PointEntry). TellsPoint x (new_point site begins position entry) items) (same_Some entry other (sym e ∙ f)) (point_made begins position entry items (ends.new_point_kept site begins position entry) (tells entry e).ever);
      new_detectors = λ begins occupied place entry old items e tells other f. subst (λ (x : DetectorEntry). TellsDetector x (new_detector site begins occupied entry) items) (same_Some entry other (sym e ∙ f))
          (detector_made begins occupied entry items (ends.new_detector_kept site begins occupied entry) (tells entry e).ever);
    }

    module _ (table : Table) where
      -- all controllers of a station
      abbrev pub Telling : WorldState → Links → Type 0
      Telling = On laws site table OfSignal OfPoint OfDetector keeps

      pub telling_on : (happening : Event) (world : WorldState) (network : Links) → IsWhole site world → AreLinksOf site world network → Telling world network → Telling (happens site table happening world) (run_links (events_of site table happening world) network)
      telling_on = held_after laws site table OfSignal OfPoint OfDetector keeps

      pub telling_first : (outset : Outset) → Telling (world_at site table outset) (begun (names_at site) starts_at_zero)
      unfolding world_at
      telling_first outset = record {
        of_signals = λ place c e entry f. let made = mapped_at _ site.signals place c e in subst (λ (x : ClockedControllerState SignalState). TellsSignal entry x.host no_lists) (sym made.2)
            (subst (λ (x : SignalEntry). TellsSignal entry (new_signal site at_zero x) no_lists) (same_Some entry made.0 (sym f ∙ made.1)) (signal_made at_zero entry no_lists (ends.new_signal_kept site at_zero entry) (nothing_said signal_behaviour _ _ _ _)));
        of_points = λ place c e entry f. let made = mapped_at (point_standing site) (zip site.points outset.positions) place c e in subst (λ (x : ClockedControllerState PointState). TellsPoint entry x.host no_lists) (sym made.2)
            (subst (λ (x : PointEntry). TellsPoint entry (new_point site at_zero made.0.1 x) no_lists) (same_Some entry made.0.0 (sym f ∙ first_of site.points outset.positions place made.0 made.1))
            (point_made at_zero made.0.1 entry no_lists (ends.new_point_kept site at_zero made.0.1 entry) (nothing_said point_behaviour _ _ _ _)));
        of_detectors = λ place c e entry f. let made = mapped_at _ site.detectors place c e in subst (λ (x : ClockedControllerState (List Section)). TellsDetector entry x.host no_lists) (sym made.2)
            (subst (λ (x : DetectorEntry). TellsDetector entry (new_detector site at_zero outset.occupancies x) no_lists) (same_Some entry made.0 (sym f ∙ made.1))
            (detector_made at_zero outset.occupancies entry no_lists (ends.new_detector_kept site at_zero outset.occupancies entry) (nothing_said detection_behaviour _ _ _ _)));
      }

-- ---- what the controllers of a station have given in their last connections, after every list of events

module _ (laws : LawsBelow) (site : Site) (table : Table) (station : IsStation site) (once : Once site) where
  all_talk : (world : WorldState) (network : Links) → Telling site laws table world network → AllHostsTalk site world network
  all_talk world network t = record {
    signals = λ place c entry e f. let one = t.of_signals place c e entry f in record { said = one.said; ever = one.ever };
    points = λ place c entry e f. let one = t.of_points place c e entry f in record { said = one.said; ever = one.ever };
    detectors = λ place c entry e f. let one = t.of_detectors place c e entry f in record { said = one.said; ever = one.ever };
  }

  pub have_told : (world : WorldState) → IsReached site table world → HaveTold site world
  have_told world reached = record { has = held.has; told = all_talk world _ held.holds }
    where
      held : HasHeld laws site table station once (Telling site laws table)
          (λ outset lies. telling_first site laws table outset) (λ happening w network can. telling_on site laws table happening w network can.whole can.are) world
      held = always_held laws site table station once (Telling site laws table)
          (λ outset lies. telling_first site laws table outset) (λ happening w network can. telling_on site laws table happening w network can.whole can.are) world reached
