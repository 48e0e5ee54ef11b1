-- The client and the controller of each link of a station belong together, after every list of events.
use Rattle.simulator_recovery.proofs.Words.Basics.{◌≡◌, ℕ, zero, suc, ◌∙◌, Bool, true, false, List, [], ◌∷◌, map, Some, slice_get, refl, sym, ap, subst, if◌then◌else◌, slice_index_or, same_Some}
use Rattle.simulator_recovery.proofs.Words.Controllers.{Aspect, Message, Occupancy, Position, IndicateAspect, IndicatedAspect, HostState, is_in_version, Sense, SignalState, indicates, signal_behaviour, told, point_behaviour, PointState, detection_behaviour, changed, is_same, losing, settled, with_section, Section}
use Rattle.simulator_recovery.proofs.Words.Interlockings.{PeerState, new_client, clocked, commanding, hearing, ticking, KnownDetectorState, KnownPointState, KnownSignalState, Node, Table}
use Rattle.simulator_recovery.proofs.Words.Stations.{telegram_version, DetectorEntry, Site, Point as PointEntry, Signal as SignalEntry, Beginning, Outset, named_section, new_detector, new_detector_of, new_ixl, new_known_point_of, new_known_signal_of, new_point, new_signal, world_at, happens, WorldState, Event, IsReached}
use Rattle.simulator_recovery.proofs.Words.Recovery.{EachClient, AreMatchedAll, IsPeerAt, SpeaksAt, name_of, section_names, Any, HasNames, IndicatesSpoken}
use Rattle.simulator_spec.specs.tds_ctl.Sections as sections
use Rattle.simulator_spec.specs.tds_ctl.Sections.{paying, sensing}
use Rattle.simulator_recovery.proofs.Lemmas.Talk.ClientLinks.{clocked_peer, commanding_peer, hearing_peer, ticking_peer}
use Rattle.simulator_recovery.proofs.Lemmas.Ground.HostKeeps.{Kept, ObjectKeeps, new_kept, step_keeps}
use Rattle.simulator_recovery.proofs.Lemmas.Ground.IxlClients.{ClientsKeep, mapped_at}
use Rattle.simulator_recovery.proofs.Lemmas.Ground.StationKeeps.{StationKeeps, always_kept, kept_first, kept_on}
use Rattle.simulator_recovery.proofs.Lemmas.Ground.StationKeeps as stations

module _ (site : Site) where
  abbrev pub spoken : ℕ
  spoken = telegram_version site

  -- ---- the clients

  same_peer : (node : Node) (old new : PeerState) → new ≡ old → IsPeerAt site node old → IsPeerAt site node new
  same_peer node old new e is = subst (IsPeerAt site node) (sym e) is

  speaking : (now : ℕ) → ClientsKeep now (SpeaksAt site) (SpeaksAt site)
  speaking now = record {
    clock = λ node client is. same_peer node client.peer (clocked now client).peer (clocked_peer now client) is;
    weaker = λ node client is. is;
    hears = λ node bytes part is. same_peer node part.client.peer (hearing now bytes part).client.peer (hearing_peer now bytes part) is;
    commands = λ node command part is. same_peer node part.client.peer (commanding now command part).client.peer (commanding_peer now command part) is;
    ticks = λ node part is. same_peer node part.client.peer (ticking now part).client.peer (ticking_peer now part) is;
  }

  pub new_peers : (table : Table) (begins : Beginning) → EachClient (SpeaksAt site) (new_ixl site table begins)
  unfolding new_ixl new_client
  new_peers table begins = record {
    signals = λ place known e entry f. let found = mapped_at (new_known_signal_of site begins) site.signals place known e in
        ap (λ (k : KnownSignalState). k.client.peer) found.2 ∙ ap (λ (x : SignalEntry). (new_known_signal_of site begins x).client.peer) (same_Some found.0 entry (sym found.1 ∙ f));
    points = λ place known e entry f. let found = mapped_at (new_known_point_of site begins) site.points place known e in
        ap (λ (k : KnownPointState). k.client.peer) found.2 ∙ ap (λ (x : PointEntry). (new_known_point_of site begins x).client.peer) (same_Some found.0 entry (sym found.1 ∙ f));
    detectors = λ place known e entry f. let found = mapped_at (new_detector_of site begins) site.detectors place known e in
        ap (λ (k : KnownDetectorState). k.client.peer) found.2 ∙ ap (λ (x : DetectorEntry). (new_detector_of site begins x).client.peer) (same_Some found.0 entry (sym found.1 ∙ f));
  }

  -- ---- the controllers

  take_spoken : (what : Message) (signal : SignalState) → is_in_version spoken what ≡ true → IndicatesSpoken site signal → IndicatesSpoken site (told (indicates what) signal)
  take_spoken (Message.Signal (IndicateAspect Aspect.Slow)) signal e is = e
  take_spoken (Message.Signal (IndicateAspect Aspect.Stop)) signal e is = refl
  take_spoken (Message.Signal (IndicateAspect Aspect.Proceed)) signal e is = refl
  take_spoken (Message.Signal (IndicatedAspect aspect)) signal e is = is
  take_spoken (Message.Initialisation protocol what) signal e is = is
  take_spoken (Message.Point what) signal e is = is
  take_spoken (Message.Detection what) signal e is = is

  pub signals_keep : ObjectKeeps signal_behaviour (IndicatesSpoken site) spoken
  signals_keep = record {
    takes = λ now telegram signal e is. take_spoken telegram.message signal e is;
    ticks = λ now signal is. is;
    senses = λ now contact signal is. is;
    keeps = λ moment signal is. is;
    pays = λ signal is. is;
    loses = λ signal is. refl;
  }

  pub points_keep : ObjectKeeps point_behaviour Any spoken
  points_keep = record { takes = λ now telegram point e is. tt; ticks = λ now point is. tt; senses = λ now contact point is. tt; keeps = λ moment point is. tt; pays = λ point is. tt; loses = λ point is. tt }

  names_sensed : (contact : Sense) (list : List Section) → map name_of (sensing contact list) ≡ map name_of list
  names_sensed (Sense.Position position) list = refl
  names_sensed (Sense.Section place occupancy) list = with_names place list
    where
      same : (section : Section) → (changed occupancy section).name ≡ section.name
      same section = choose (is_same occupancy section.occupancy)
        where
          choose : (b : Bool) → (if b then section else record section { occupancy = occupancy; owes = true }).name ≡ section.name
          choose true = refl
          choose false = refl

      with_names : (place : ℕ) (list : List Section) → map name_of (with_section place (changed occupancy) list) ≡ map name_of list
      with_names place [] = refl
      with_names zero (first ∷ others) = ap (λ (n : List ℕ). n ∷ map name_of others) (same first)
      with_names (suc place) (first ∷ others) = ap (λ (rest : List (List ℕ)). first.name ∷ rest) (with_names place others)

  names_paid : (list : List Section) → map name_of (paying list) ≡ map name_of list
  names_paid [] = refl
  names_paid (first ∷ others) = choose first.owes (names_paid others)
    where
      choose : (b : Bool) → map name_of (paying others) ≡ map name_of others → map name_of (if b then settled first ∷ others else first ∷ paying others) ≡ first.name ∷ map name_of others
      choose true e = refl
      choose false e = ap (λ (rest : List (List ℕ)). first.name ∷ rest) e

  names_lost : (list : List Section) → map name_of (losing list) ≡ map name_of list
  names_lost [] = refl
  names_lost (first ∷ others) = ap (λ (rest : List (List ℕ)). first.name ∷ rest) (names_lost others)

  module _ (names : List (List ℕ)) where
    pub detectors_keep : ObjectKeeps detection_behaviour (HasNames names) spoken
    detectors_keep = record {
      takes = λ now telegram list e is. is;
      ticks = λ now list is. is;
      senses = λ now contact list is. names_sensed contact list ∙ is;
      keeps = λ moment list is. is;
      pays = λ list is. names_paid list ∙ is;
      loses = λ list is. names_lost list ∙ is;
    }

  abbrev pub KeptSignal : SignalEntry → HostState SignalState → Type 0
  KeptSignal entry = Kept signal_behaviour (IndicatesSpoken site) spoken entry.name site.station.name signals_keep

  abbrev pub KeptPoint : PointEntry → HostState PointState → Type 0
  KeptPoint entry = Kept point_behaviour Any spoken entry.name site.station.name points_keep

  abbrev pub KeptDetector : DetectorEntry → HostState (List Section) → Type 0
  KeptDetector entry = Kept detection_behaviour (HasNames (section_names site entry)) spoken entry.name site.station.name (detectors_keep (section_names site entry))

  abbrev pub OfSignal : ℕ → HostState SignalState → Type 0
  OfSignal place host = (entry : SignalEntry) → slice_get site.signals place ≡ Some entry → KeptSignal entry host

  abbrev pub OfPoint : ℕ → HostState PointState → Type 0
  OfPoint place host = (entry : PointEntry) → slice_get site.points place ≡ Some entry → KeptPoint entry host

  abbrev OfDetector : ℕ → HostState (List Section) → Type 0
  OfDetector place host = (entry : DetectorEntry) → slice_get site.detectors place ≡ Some entry → KeptDetector entry host

  made_names : (occupied : List Occupancy) (list : List _) → map name_of (map (λ section. sections.made (named_section site occupied section)) list) ≡ map (λ section. slice_index_or site.sections section.0 []) list
  made_names occupied [] = refl
  made_names occupied (first ∷ others) = ap (λ (rest : List (List ℕ)). slice_index_or site.sections first.0 [] ∷ rest) (made_names occupied others)

  pub new_signal_kept : (begins : Beginning) (entry : SignalEntry) → KeptSignal entry (new_signal site begins entry)
  new_signal_kept begins entry = new_kept signal_behaviour (IndicatesSpoken site) spoken entry.name site.station.name signals_keep _ begins.first begins.clock _ refl

  pub new_point_kept : (begins : Beginning) (position : Position) (entry : PointEntry) → KeptPoint entry (new_point site begins position entry)
  new_point_kept begins position entry = new_kept point_behaviour Any spoken entry.name site.station.name points_keep _ begins.first begins.clock _ tt

  pub new_detector_kept : (begins : Beginning) (occupied : List Occupancy) (entry : DetectorEntry) → KeptDetector entry (new_detector site begins occupied entry)
  new_detector_kept begins occupied entry =
      new_kept detection_behaviour (HasNames (section_names site entry)) spoken entry.name site.station.name (detectors_keep (section_names site entry)) _ begins.first begins.clock _ (made_names occupied entry.sections)

  pub keeps : StationKeeps site (SpeaksAt site) (λ now. SpeaksAt site) OfSignal OfPoint OfDetector
  keeps = record {
    clients_keep = speaking;
    new_clients = new_peers;
    signal_steps = λ now input place host is entry e. step_keeps signal_behaviour (IndicatesSpoken site) spoken entry.name site.station.name signals_keep now input host (is entry e);
    new_signal_is = λ begins entry place e other f. subst (λ (x : SignalEntry). KeptSignal x (new_signal site begins entry)) (same_Some entry other (sym e ∙ f)) (new_signal_kept begins entry);
    point_steps = λ now input place host is entry e. step_keeps point_behaviour Any spoken entry.name site.station.name points_keep now input host (is entry e);
    new_point_is = λ begins position entry place e other f. subst (λ (x : PointEntry). KeptPoint x (new_point site begins position entry)) (same_Some entry other (sym e ∙ f)) (new_point_kept begins position entry);
    detector_steps = λ now input place host is entry e. step_keeps detection_behaviour (HasNames (section_names site entry)) spoken entry.name site.station.name (detectors_keep (section_names site entry)) now input host (is entry e);
    new_detector_is = λ begins occupied entry place e other f. subst (λ (x : DetectorEntry). KeptDetector x (new_detector site begins occupied entry)) (same_Some entry other (sym e ∙ f)) (new_detector_kept begins occupied entry);
  }

  pub all_matched : (table : Table) (world : WorldState) → IsReached site table world → AreMatchedAll site world
  all_matched table world reached = record {
    clients = all.clients;
    signals = λ place c entry e f. let k = all.of_signals place c e entry f in (record { own_name = k.own_is; peer_name = k.peer_is; version = k.version_is }, k.object);
    points = λ place c entry e f. let k = all.of_points place c e entry f in record { own_name = k.own_is; peer_name = k.peer_is; version = k.version_is };
    detectors = λ place c entry e f. let k = all.of_detectors place c e entry f in (record { own_name = k.own_is; peer_name = k.peer_is; version = k.version_is }, k.object);
  }
    where
      all : stations.Kept site table (SpeaksAt site) (λ now. SpeaksAt site) OfSignal OfPoint OfDetector keeps world
      all = always_kept site table (SpeaksAt site) (λ now. SpeaksAt site) OfSignal OfPoint OfDetector keeps world reached

  -- event by event
  abbrev pub Matching : Table → WorldState → Type 0
  Matching table world = stations.Kept site table (SpeaksAt site) (λ now. SpeaksAt site) OfSignal OfPoint OfDetector keeps world

  pub matching_first : (table : Table) (outset : Outset) → Matching table (world_at site table outset)
  matching_first table outset = kept_first site table (SpeaksAt site) (λ now. SpeaksAt site) OfSignal OfPoint OfDetector keeps outset

  pub matching_on : (table : Table) (happening : Event) (world : WorldState) → Matching table world → Matching table (happens site table happening world)
  matching_on table happening world all = kept_on site table (SpeaksAt site) (λ now. SpeaksAt site) OfSignal OfPoint OfDetector keeps happening world all
