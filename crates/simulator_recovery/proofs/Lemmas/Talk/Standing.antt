-- All ends of the links of a station stand by their counts, event by event.
use Rattle.simulator_recovery.proofs.Words.Basics.{◌≡◌, ℕ, zero, suc, ◌+◌, ◌≤◌, Bool, true, false, List, [], ◌∷◌, length, Option, Some, None, slice_get, if◌then◌else◌, nat_le, ◌<◌, refl, sym, ap, ◌∙◌, arith, leb-true, leb-false, option_map, none-some, slice_get_within, map, subst, slice_index_or, same_Some}
use Rattle.simulator_recovery.proofs.Words.Controllers.{Keeps, Loses, ObjectCall, Pays, Senses, Takes, Ticks, object_after, initial_status, report_then, Sense, SignalState, signal_behaviour, point_behaviour, PointState, detection_behaviour, changed, settled, status_of, with_section, Section, Occupancy, HostState}
use Rattle.simulator_recovery.proofs.Words.Recovery.{TellsAsMany, objects_told, AllStandByCounts, ClientStandsAt, EachClient, HostStandsByCounts, IsToldAt}
use Rattle.simulator_recovery.proofs.Words.Interlockings.{ClientState, PeerState, new_client, clocked, commanding, hearing, ticking, KnownDetectorState, KnownPointState, KnownSignalState, Detector, Node, Point, Signal, Table}
use Rattle.simulator_recovery.proofs.Words.Stations.{DetectorEntry, Site, IsDetectorOf, IsStation, Event, Beginning, Outset, named_section, new_detector, new_detector_of, new_ixl, new_known_point_of, new_known_signal_of, world_at, happens, WorldState, IsReached}
use Rattle.simulator_spec.specs.tds_ctl.Sections.{paying, sensing}
use Rattle.simulator_spec.specs.tds_ctl.Sections as sections
use Rattle.simulator_recovery.proofs.Lemmas.Ground.EndCalls.{at_place, map_length}
use Rattle.simulator_recovery.proofs.Lemmas.Talk.ClientLinks.{ClockedStands, clocked_peer, clocked_stands, commanding_peer, commanding_stands, hearing_peer, hearing_stands, new_client_stands, ticking_peer, ticking_stands}
use Rattle.simulator_recovery.proofs.Lemmas.Talk.HostLinks.{new_stands, step_stands}
use Rattle.simulator_recovery.proofs.Lemmas.Ground.IxlClients.{ClientsKeep, mapped_at}
use Rattle.simulator_recovery.proofs.Lemmas.Ground.StationKeeps.{Kept, StationKeeps, all_at, always_kept, kept_first, kept_on}

-- ---- of how many objects the controllers of a station tell

pub signal_tells : (signal : SignalState) → objects_told signal_behaviour signal ≡ 1
unfolding initial_status
signal_tells signal = refl

pub signals_tell : TellsAsMany signal_behaviour
signals_tell = record { same = λ call signal. signal_tells (object_after signal_behaviour call signal) ∙ sym (signal_tells signal) }

pub point_tells : (point : PointState) → objects_told point_behaviour point ≡ 1
unfolding initial_status
point_tells point = refl

pub points_tell : TellsAsMany point_behaviour
points_tell = record { same = λ call point. point_tells (object_after point_behaviour call point) ∙ sym (point_tells point) }

-- a detector tells of each of its sections, in as many places as there are
sections_from : (more place : ℕ) (sections : List Section) → length sections ≤ more + place → place ≤ length sections → length (initial_status detection_behaviour more place sections) + place ≡ length sections
unfolding initial_status
sections_from zero place sections few within = omega (arith, few, within)
sections_from (suc more) place sections few within = choose (slice_get sections place) refl (λ inside. sections_from more (place + 1) sections (omega (arith, few)) (omega (arith, inside)))
  where
    past : (n : ℕ) (list : List Section) → slice_get list n ≡ None → length list ≤ n
    past n list e = by_test (nat_le (length list) n) refl
      where
        by_test : (b : Bool) → nat_le (length list) n ≡ b → length list ≤ n
        by_test true f = leb-true _ _ f
        by_test false f = absurd (none-some (at_place list n (leb-false _ _ f)).0 (sym e ∙ (at_place list n (leb-false _ _ f)).1))

    choose : (found : Option Section) → slice_get sections place ≡ found → (place < length sections → length (initial_status detection_behaviour more (place + 1) sections) + (place + 1) ≡ length sections)
        → length (report_then (option_map status_of found) (initial_status detection_behaviour more (place + 1) sections)) + place ≡ length sections
    choose (Some section) e rest = let all = rest (slice_get_within sections place section e) in omega (arith, all)
    choose None e rest = let all = past place sections e in omega (arith, all, within)

pub sections_told : (sections : List Section) → length sections ≤ 16 → objects_told detection_behaviour sections ≡ length sections
sections_told sections few = let all = sections_from 16 0 sections (omega (arith, few)) (omega arith) in omega (arith, all)

-- whatever it is told, it has as many sections
as_many_from : (more place : ℕ) (one other : List Section) → length one ≡ length other → length (initial_status detection_behaviour more place one) ≡ length (initial_status detection_behaviour more place other)
unfolding initial_status
as_many_from zero place one other same = refl
as_many_from (suc more) place one other same = choose (slice_get one place) (slice_get other place) refl refl (as_many_from more (place + 1) one other same)
  where
    apart : (list longer : List Section) (x : Section) → length list ≡ length longer → slice_get longer place ≡ Some x → slice_get list place ≡ None → ⊥
    apart list longer x e f g = let inside = slice_get_within longer place x f in let here = at_place list place (omega (arith, e, inside)) in none-some here.0 (sym g ∙ here.1)

    choose : (a b : Option Section) → slice_get one place ≡ a → slice_get other place ≡ b → length (initial_status detection_behaviour more (place + 1) one) ≡ length (initial_status detection_behaviour more (place + 1) other)
        → length (report_then (option_map status_of a) (initial_status detection_behaviour more (place + 1) one)) ≡ length (report_then (option_map status_of b) (initial_status detection_behaviour more (place + 1) other))
    choose None None e f rest = refl
    choose (Some x) (Some y) e f rest = ap suc rest
    choose None (Some y) e f rest = absurd (apart one other y same f e)
    choose (Some x) None e f rest = absurd (apart other one x (sym same) e f)

sensed_length : (contact : Sense) (sections : List Section) → length (sensing contact sections) ≡ length sections
sensed_length (Sense.Section place occupancy) sections = with_length place (changed occupancy) sections
  where
    with_length : (place : ℕ) (change : Section → Section) (list : List Section) → length (with_section place change list) ≡ length list
    with_length place change [] = refl
    with_length zero change (first ∷ others) = refl
    with_length (suc place) change (first ∷ others) = ap suc (with_length place change others)
sensed_length (Sense.Position position) sections = refl

paid_length : (sections : List Section) → length (paying sections) ≡ length sections
paid_length [] = refl
paid_length (first ∷ others) = choose first.owes (paid_length others)
  where
    choose : (b : Bool) → length (paying others) ≡ length others → length (if b then settled first ∷ others else first ∷ paying others) ≡ suc (length others)
    choose true e = refl
    choose false e = ap suc e

pub detectors_tell : TellsAsMany detection_behaviour
detectors_tell = record { same = λ call sections. as_many_from 16 0 (object_after detection_behaviour call sections) sections (told_length call sections) }
  where
    told_length : (call : ObjectCall) (sections : List Section) → length (object_after detection_behaviour call sections) ≡ length sections
    told_length (Takes now telegram) sections = refl
    told_length (Ticks now) sections = refl
    told_length (Senses now contact) sections = sensed_length contact sections
    told_length (Keeps moment) sections = refl
    told_length Pays sections = paid_length sections
    told_length Loses sections = map_length settled sections

-- ---- all ends of the links of a station stand by their counts, event by event

-- ---- the clients

module _ (site : Site) where
  -- a client whose link is settled
  pub record ClockedAt (now : ℕ) (node : Node) (client : ClientState) : Type 0 where
    pub stands : ClockedStands now client
    pub objects : IsToldAt site node (length client.peer.objects)

  with_peer : (node : Node) (old new : PeerState) → new ≡ old → IsToldAt site node (length old.objects) → IsToldAt site node (length new.objects)
  with_peer node old new e has = subst (λ (peer : PeerState). IsToldAt site node (length peer.objects)) (sym e) has

  pub clients_keep : (now : ℕ) → ClientsKeep now (ClientStandsAt site) (ClockedAt now)
  clients_keep now = record {
    clock = λ node client is. record { stands = clocked_stands now client is.stands; objects = with_peer node client.peer (clocked now client).peer (clocked_peer now client) is.objects };
    weaker = λ node client is. record { stands = is.stands.stands; objects = is.objects };
    hears = λ node bytes part is. record { stands = hearing_stands now bytes part is.stands; objects = with_peer node part.client.peer (hearing now bytes part).client.peer (hearing_peer now bytes part) is.objects };
    commands = λ node command part is. record { stands = commanding_stands now command part is.stands; objects = with_peer node part.client.peer (commanding now command part).client.peer (commanding_peer now command part) is.objects };
    ticks = λ node part is. record { stands = ticking_stands now part is.stands; objects = with_peer node part.client.peer (ticking now part).client.peer (ticking_peer now part) is.objects };
  }

  section_names : DetectorEntry → List (List ℕ)
  section_names entry = map (λ section. slice_index_or site.sections section.0 []) entry.sections

  pub new_clients : (table : Table) (begins : Beginning) → EachClient (ClientStandsAt site) (new_ixl site table begins)
  unfolding new_ixl new_client
  new_clients table begins = record {
    signals = λ place known e. let found = mapped_at (new_known_signal_of site begins) site.signals place known e in
        subst (λ (k : KnownSignalState). ClientStandsAt site (Signal place) k.client) (sym found.2) (record { stands = new_client_stands _ _ _ _; objects = refl });
    points = λ place known e. let found = mapped_at (new_known_point_of site begins) site.points place known e in
        subst (λ (k : KnownPointState). ClientStandsAt site (Point place) k.client) (sym found.2) (record { stands = new_client_stands _ _ _ _; objects = refl });
    detectors = λ place known e. let found = mapped_at (new_detector_of site begins) site.detectors place known e in
        subst (λ (k : KnownDetectorState). ClientStandsAt site (Detector place) k.client) (sym found.2) (record { stands = new_client_stands _ _ _ _; objects = λ entry f. as_many found.0 entry (same_Some found.0 entry (sym found.1 ∙ f)) });
  }
    where
      as_many : (one entry : DetectorEntry) → one ≡ entry → length (map (λ section. slice_index_or site.sections section.0 []) one.sections) ≡ length entry.sections
      as_many one entry same = map_length _ one.sections ∙ ap (λ (d : DetectorEntry). length d.sections) same

-- ---- an event

module _ (site : Site) (table : Table) (station : IsStation site) where
  abbrev OfSignal : ℕ → HostState SignalState → Type 0
  OfSignal place host = HostStandsByCounts signal_behaviour 1 host

  abbrev OfPoint : ℕ → HostState PointState → Type 0
  OfPoint place host = HostStandsByCounts point_behaviour 1 host

  abbrev OfDetector : ℕ → HostState (List Section) → Type 0
  OfDetector place host = (entry : DetectorEntry) → slice_get site.detectors place ≡ Some entry → HostStandsByCounts detection_behaviour (length entry.sections) host

  new_detector_is : (begins : Beginning) (occupied : List Occupancy) (entry : DetectorEntry) (place : ℕ) → slice_get site.detectors place ≡ Some entry → OfDetector place (new_detector site begins occupied entry)
  new_detector_is begins occupied entry place there other e = new_stands detection_behaviour detectors_tell (length other.sections) _ _ _ _ _ _ _
      (sections_told _ (subst (λ (n : ℕ). n ≤ 16) (sym many) (all_at (IsDetectorOf site) site.detectors station.detectors place entry there).few) ∙ many ∙ ap (λ (d : DetectorEntry). length d.sections) (same_Some entry other (sym there ∙ e)))
    where
      many : length (map (λ section. sections.made (named_section site occupied section)) entry.sections) ≡ length entry.sections
      many = map_length _ entry.sections

  keeps : StationKeeps site (ClientStandsAt site) (ClockedAt site) OfSignal OfPoint OfDetector
  keeps = record {
    clients_keep = clients_keep site;
    new_clients = new_clients site;
    signal_steps = λ now input place host is. step_stands signal_behaviour signals_tell 1 now input host is;
    new_signal_is = λ begins entry place e. new_stands signal_behaviour signals_tell 1 _ _ _ _ _ _ _ (signal_tells _);
    point_steps = λ now input place host is. step_stands point_behaviour points_tell 1 now input host is;
    new_point_is = λ begins position entry place e. new_stands point_behaviour points_tell 1 _ _ _ _ _ _ _ (point_tells _);
    detector_steps = λ now input place host is entry e. step_stands detection_behaviour detectors_tell (length entry.sections) now input host (is entry e);
    new_detector_is = new_detector_is;
  }

  abbrev All : WorldState → Type 0
  All = Kept site table (ClientStandsAt site) (ClockedAt site) OfSignal OfPoint OfDetector keeps

  told : {w : WorldState} → All w → AllStandByCounts site w
  told all = record { clients = all.clients; signals = all.of_signals; points = all.of_points; detectors = λ place controller entry e f. all.of_detectors place controller e entry f }

  pub stand_after : (happening : Event) (world : WorldState) → AllStandByCounts site world → AllStandByCounts site (happens site table happening world)
  stand_after happening world all = told (kept_on site table (ClientStandsAt site) (ClockedAt site) OfSignal OfPoint OfDetector keeps happening world
      (record { clients = all.clients; of_signals = all.signals; of_points = all.points; of_detectors = λ place controller e entry f. all.detectors place controller entry e f }))

  pub stand_first : (outset : Outset) → AllStandByCounts site (world_at site table outset)
  stand_first outset = told (kept_first site table (ClientStandsAt site) (ClockedAt site) OfSignal OfPoint OfDetector keeps outset)

  pub all_stand : (world : WorldState) → IsReached site table world → AllStandByCounts site world
  all_stand world reached = told (always_kept site table (ClientStandsAt site) (ClockedAt site) OfSignal OfPoint OfDetector keeps world reached)

-- so it is of each station
pub stand_by_counts : (site : Site) (table : Table) (world : WorldState) → IsStation site → IsReached site table world → AllStandByCounts site world
stand_by_counts site table world station reached = all_stand site table station world reached
