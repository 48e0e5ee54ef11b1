-- Each detector of a layout by what it says to its client.
use Rattle.simulator_recovery.proofs.Words.Basics.{◌≡◌, ℕ, ◌≤◌, ◌∙◌, arith, List, [], ◌∷◌, length, Option, Some, None, slice_get, slice_index_or, refl, sym, ap, subst, option_map}
use Rattle.simulator_recovery.proofs.Words.Controllers.{IsName, reading, IsMessage, Initialisation, InitialisationCompleted, StartInitialisation, VersionAnswer, Message, Protocol, HostState, said, telegram_of, IsVersionAnswer, item_of, Report, detection_behaviour, status_of, Section}
use Rattle.simulator_recovery.proofs.Words.Interlockings.{PeerState, new_client, told_by, told_of, place_of, ObjectState, KnownDetectorState, KnownPointState, KnownSignalState, Table}
use Rattle.simulator_recovery.proofs.Words.Stations.{DetectorEntry, Site, Once, IsDetectorOf, IsStation, SectionId, IsOutsetOf, at_rest, at_zero, first_controller, new_detector, new_detector_of, new_ixl, world_at, detector_link, IsPeer, IsWhole}
use Rattle.simulator_recovery.proofs.Words.Recovery.{AreMatched, ReportsState, name_of, peer_for, section_names, HasNames, item_for, LawsBelow, WrittenIsRead}
use Rattle.simulator_recovery.proofs.Lemmas.Ground.AtLink.{mapped, of_third}
use Rattle.simulator_recovery.proofs.Lemmas.Talk.ControllerTells.{item_is}
use Rattle.simulator_recovery.proofs.Lemmas.Ground.IxlClients.{mapped_at}
use Rattle.simulator_recovery.proofs.Lemmas.Ground.EndCalls.{map_length}
use Rattle.simulator_recovery.proofs.Lemmas.Ground.MatchedEnds.{KeptDetector, detectors_keep, new_detector_kept, spoken}
use Rattle.simulator_recovery.proofs.Lemmas.Sections.SectionReports.{detector_kind}
use Rattle.simulator_recovery.proofs.Lemmas.Ground.StationKeeps.{all_at}
use Rattle.simulator_recovery.proofs.Lemmas.Sections.SectionsCalls.{DetectorSays, ItemsTell}

module _ (links : LawsBelow) (written : WrittenIsRead) (site : Site) (table : Table) (station : IsStation site) (once : Once site) (place : ℕ) (entry : DetectorEntry) (there : slice_get site.detectors place ≡ Some entry) where
  -- a station that is started has these nodes
  lies : IsOutsetOf site (at_rest site)
  lies = record { positions = map_length _ site.points; occupancies = map_length _ site.sections }

  whole : IsWhole site (world_at site table (at_rest site))
  whole = (links.stations_have_links_first site table (at_rest site) station lies).whole

  abbrev pub peer_there : PeerState
  peer_there = peer_for Protocol.TrainDetection site entry.name (section_names site entry)

  pub is_peer : IsPeer peer_there
  unfolding world_at new_ixl new_client
  is_peer = whole.clients.peers (detector_link site place) (new_detector_of site at_zero entry).client
      (of_third _ _ _ (length site.signals) (length site.points) place (new_detector_of site at_zero entry).client
      (map_length (λ (k : KnownSignalState). k.client) _ ∙ whole.clients.known_signals) (map_length (λ (k : KnownPointState). k.client) _ ∙ whole.clients.known_points)
      (mapped (λ (k : KnownDetectorState). k.client) _ place (new_detector_of site at_zero entry) (mapped (new_detector_of site at_zero) site.detectors place entry there)))

  abbrev host : HostState (List Section)
  host = new_detector site at_zero (at_rest site).occupancies entry

  kept_so : KeptDetector site entry host
  kept_so = new_detector_kept site at_zero (at_rest site).occupancies entry

  named : (k : ℕ) (name : List ℕ) → slice_get (section_names site entry) k ≡ Some name → IsName name
  unfolding world_at
  named k name e =
      let found = mapped_at name_of host.object k name (ap (λ (names : List (List ℕ)). slice_get names k) kept_so.object ∙ e)
      in subst IsName (sym found.2) (whole.sections_named place (first_controller host) (mapped (λ detector. first_controller (new_detector site at_zero (at_rest site).occupancies detector)) site.detectors place entry there) k found.0 found.1)

  matched : AreMatched detection_behaviour peer_there host
  matched = record { own_name = kept_so.peer_is; name = kept_so.own_is; version = kept_so.version_is; protocol = refl }

  item_there : item_of host ≡ item_for entry.name site.station.name
  item_there = item_is detection_behaviour (HasNames (section_names site entry)) (spoken site) entry.name site.station.name (detectors_keep site (section_names site entry)) host kept_so

  -- what belongs to the initialisation tells of no section
  none_of : (found : Option ℕ) → told_of found None ≡ []
  none_of None = refl
  none_of (Some at) = refl

  own_name_is : IsName host.own_name
  own_name_is = subst IsName (sym matched.name) is_peer.name

  peer_name_is : IsName host.peer_name
  peer_name_is = subst IsName (sym matched.own_name) is_peer.own_name

  said_none : (what : Initialisation) → IsMessage (Message.Initialisation Protocol.TrainDetection what) → told_by peer_there (reading (item_for entry.name site.station.name (said detection_behaviour what))) ≡ []
  said_none what is = ap (λ (item : Report → List ℕ). told_by peer_there (reading (item (said detection_behaviour what)))) (sym item_there)
      ∙ (ap (told_by peer_there) (written (telegram_of (said detection_behaviour what) host) (record { sender = own_name_is; receiver = peer_name_is; message = is })) ∙ none_of (place_of peer_there host.own_name))

  answer_none : (report : Report) → IsVersionAnswer detection_behaviour (spoken site) report → told_by peer_there (reading (item_for entry.name site.station.name report)) ≡ []
  answer_none report (agreement, is) = ap (λ (r : Report). told_by peer_there (reading (item_for entry.name site.station.name r))) is ∙ said_none (VersionAnswer agreement (spoken site)) is_peer.version

  status_told : (list : List Section) → HasNames (section_names site entry) list → (k : ℕ) (s : Section) → slice_get list k ≡ Some s
      → told_by peer_there (reading (item_for entry.name site.station.name (status_of s))) ≡ record { place = k; state = ObjectState.Occupancy s.occupancy } ∷ []
  status_told list fits k s e = ap (λ (item : Report → List ℕ). told_by peer_there (reading (item (status_of s)))) (sym item_there)
      ∙ (ap (told_by peer_there) (written (telegram_of (status_of s) host) (record { sender = is.name; receiver = peer_name_is; message = tt }))
      ∙ ap (λ (found : Option ℕ). told_of found (Some (ObjectState.Occupancy s.occupancy))) is.of)
    where
      is : ReportsState peer_there host (status_of s) k
      is = ((detector_kind site station once place entry there written peer_there is_peer refl named host matched).status list fits k (status_of s) (ap (option_map status_of) e)).0

  pub few : length (section_names site entry) ≤ 16
  few =
      let at_most = (all_at (IsDetectorOf site) site.detectors station.detectors place entry there).few
      in let same = map_length (λ (section : SectionId). slice_index_or site.sections section.0 []) entry.sections
      in omega (arith, at_most, same)

  pub tell_there : ItemsTell peer_there (item_for entry.name site.station.name) (section_names site entry) (spoken site)
  tell_there = record { status = status_told; answer = answer_none; start = said_none StartInitialisation tt; completed = said_none InitialisationCompleted tt }

  abbrev pub says : DetectorSays
  says = record {
    peer = peer_there;
    own_name = entry.name;
    peer_name = site.station.name;
    names = section_names site entry;
    version = spoken site;
    few = few;
    tell = tell_there;
    keep = detectors_keep site (section_names site entry);
  }
