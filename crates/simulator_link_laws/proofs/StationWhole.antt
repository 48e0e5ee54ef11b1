-- A step of the interlocking, and a node that is made anew, keep the nodes of a world whole.
use Rattle.std.proofs.Common.{◌≡◌, ℕ, zero, suc, ◌<◌, List, [], ◌∷◌, ◌++◌, length, map, Option, Some, None, option_map, slice_get, slice_index_or, refl, sym, ap, subst, ◌∙◌, arith}
use Rattle.std.specs.List.{All, zip}
use Rattle.std.proofs.lemmas.Option.{get_or_from_slice_get, slice_get-map}
use Rattle.std.proofs.lemmas.Slice.Zip.{firsts-zip}
use Rattle.std.proofs.lemmas.Option.{same_Some}
use Rattle.simulator_spec.specs.layout.Entries.{DetectorEntry, Site}
use Rattle.simulator_spec.specs.layout.Station.{HasSection, IsStation}
use Rattle.simulator_spec.specs.layout.declared.entries.Point.{Point as PointEntry}
use Rattle.simulator_spec.specs.layout.declared.entries.Signal.{Signal as SignalEntry}
use Rattle.simulator_spec.specs.layout.declared.ids.SectionId.{SectionId}
use Rattle.simulator_spec.specs.control_table.Table.{telegram_version}
use Rattle.simulator_spec.specs.sci_telegram.Names.{IsName}
use Rattle.simulator_spec.specs.sci_telegram.declared.message.Occupancy.{Occupancy}
use Rattle.simulator_spec.specs.object_host.Behaviour.{Behaviour}
use Rattle.simulator_spec.specs.object_host.Host.{HostState, keeping}
use Rattle.simulator_spec.specs.object_host.Hosted.{new_host}
use Rattle.simulator_spec.specs.sci_telegram.declared.message.Position.TheVariants as positions
use Rattle.simulator_spec.specs.sci_telegram.declared.message.Protocol.{Protocol}
use Rattle.simulator_spec.specs.signal_ctl.Signal.{signal_behaviour}
use Rattle.simulator_spec.specs.point_ctl.Controlled.{point_behaviour}
use Rattle.simulator_spec.specs.tds_ctl.Controlled.{detection_behaviour}
use Rattle.simulator_spec.specs.tds_ctl.Sections.{losing, made}
use Rattle.simulator_spec.specs.ixl_client.Client.{ClientState, new_client}
use Rattle.simulator_spec.specs.ixl_spec.State.{KnownDetectorState, KnownSignalState, KnownPointState, changed}
use Rattle.simulator_spec.specs.ixl_spec.Table.{Table}
use Rattle.simulator_spec.specs.First.{Beginning, IsOutsetOf, Outset, at_zero, client_of, host_of, named_section, new_detector, new_detector_of, new_ixl, new_known_signal_of, new_point, new_signal, new_known_point_of, no_connection, world_at}
use Rattle.simulator_spec.specs.Happens.{detector_anew, made_anew, point_anew, signal_anew}
use Rattle.simulator_spec.specs.Nodes.{Node, Interlocking, Signal, Point, Detector, partners}
use Rattle.simulator_spec.specs.Controllers.{controller_anew}
use Rattle.simulator_spec.specs.State.{ClockedControllerState, WorldState}
use Rattle.simulator_link_laws.proofs.KeptWhole.{AllAt, sections_at}
use Rattle.simulator_link_laws.proofs.Lists.{by_test, length_map, some_within, within_some}
use Rattle.simulator_link_laws.proofs.Partners.{partners_count}
use Rattle.simulator_link_laws.proofs.ToldOfThemselves.{AreSectionsNamed, losing_named}
use Rattle.simulator_link_laws.proofs.Names.{HasNames}
use Rattle.simulator_link_laws.specs.Whole.{HasClients, HasSections, IsNamed, IsPeer, IsWhole}

-- ---- lists

none_there : {A B : Type 0} (one : A) → None ≡ Some one → B
none_there one e = absurd (cc (e))

all_changed : {A : Type 0} (P : A → Type 0) (change : A → A) → ((one : A) → P (change one)) → (place : ℕ) (list : List A) → AllAt P list → AllAt P (changed change place list)
all_changed P change makes place [] all n one at = none_there one at
all_changed P change makes zero (first ∷ others) all zero one at = subst P (same_Some (change first) one at) (makes first)
all_changed P change makes zero (first ∷ others) all (suc n) one at = all (suc n) one at
all_changed P change makes (suc place) (first ∷ others) all zero one at = all zero one at
all_changed P change makes (suc place) (first ∷ others) all (suc n) one at = all_changed P change makes place others (λ m a is. all (suc m) a is) n one at

length_of_changed : {A : Type 0} (change : A → A) (place : ℕ) (list : List A) → length (changed change place list) ≡ length list
length_of_changed change place [] = refl
length_of_changed change zero (first ∷ others) = refl
length_of_changed change (suc place) (first ∷ others) = ap suc (length_of_changed change place others)

all_map : {A B : Type 0} (P : B → Type 0) (f : A → B) (list : List A) → AllAt (λ a. P (f a)) list → AllAt P (map f list)
all_map P f [] all place one at = none_there one at
all_map P f (first ∷ others) all zero one at = subst P (same_Some (f first) one at) (all zero first refl)
all_map P f (first ∷ others) all (suc place) one at = all_map P f others (λ n a is. all (suc n) a is) place one at

-- pairs of lists of one length
module _ {A B : Type 0} (xs : List A) (ys : List B) (same : length ys ≡ length xs) where
  length_zipped : length (zip xs ys) ≡ length xs
  length_zipped = sym (length_map (λ (p : A × B). p.0) (zip xs ys)) ∙ ap length (firsts-zip xs ys same)

  first_of_pair : (place : ℕ) (both : A × B) → slice_get (zip xs ys) place ≡ Some both → slice_get xs place ≡ Some both.0
  first_of_pair place both at = ap (λ l. slice_get l place) (sym (firsts-zip xs ys same)) ∙ (slice_get-map (λ (p : A × B). p.0) (zip xs ys) place ∙ ap (option_map (λ (p : A × B). p.0)) at)

all_joined : {A : Type 0} (P : A → Type 0) (first rest : List A) → AllAt P first → AllAt P rest → AllAt P (first ++ rest)
all_joined P [] rest all more place one at = more place one at
all_joined P (head ∷ others) rest all more zero one at = subst P (same_Some head one at) (all zero head refl)
all_joined P (head ∷ others) rest all more (suc place) one at = all_joined P others rest (λ n a is. all (suc n) a is) more place one at

-- ---- nodes that were just made

is_version : (site : Site) → telegram_version site < 256
is_version site = by_test (λ n. n < 256) _ 2 1 (λ e. omega arith) (λ e. omega arith)

module _ (site : Site) (names : HasNames site) where
  host_named : {Object : Type 0} (does : Behaviour Object) (begins : Beginning) (name : List ℕ) (id : ℕ) (object : Object) → IsName name → IsNamed (host_of does site begins name id object)
  unfolding new_host keeping
  host_named does begins name id object is = record { own_name = is; peer_name = names.station; version = is_version site }

  section_named : (occupied : List Occupancy) (sections : List SectionId) → All (HasSection site) sections → AreSectionsNamed (map (λ section. made (named_section site occupied section)) sections)
  section_named occupied [] there = tt
  section_named occupied (first ∷ others) there =
      let found = some_within site.sections first.0 (there 0 first (omega arith))
      in (subst IsName (sym (get_or_from_slice_get site.sections first.0 found.0 [] found.1)) (names.sections first.0 found.0 found.1), section_named occupied others (λ k d below. there (suc k) d (omega arith)))

  detector_sections : (station : IsStation site) (begins : Beginning) (occupied : List Occupancy) (place : ℕ) (entry : DetectorEntry) → slice_get site.detectors place ≡ Some entry → HasSections (new_detector site begins occupied entry)
  unfolding new_host keeping
  detector_sections station begins occupied place entry at = sections_at (losing (map (λ section. made (named_section site occupied section)) entry.sections))
      (losing_named _ (section_named occupied entry.sections is_there))
    where
      is_there : All (HasSection site) entry.sections
      is_there = subst (λ (d : DetectorEntry). All (HasSection site) d.sections) (get_or_from_slice_get site.detectors place entry entry at) (station.detectors place entry (within_some site.detectors place entry at)).sections

  client_peered : (protocol : Protocol) (begins : Beginning) (name : List ℕ) (id : ℕ) (objects : List (List ℕ)) → IsName name → IsPeer (client_of protocol site begins name id objects).peer
  unfolding new_client
  client_peered protocol begins name id objects is = record { own_name = names.station; name = is; version = is_version site }

  abbrev Peered : ClientState → Type 0
  Peered client = IsPeer client.peer

  pub clients_made : (table : Table) (begins : Beginning) → HasClients site (new_ixl site table begins)
  unfolding new_ixl
  clients_made table begins = record {
    known_signals = length_map (new_known_signal_of site begins) site.signals;
    known_points = length_map (new_known_point_of site begins) site.points;
    detectors = length_map (new_detector_of site begins) site.detectors;
    peers = all_joined Peered _ _ (all_map Peered (λ (known_signal : KnownSignalState). known_signal.client) _ (all_map (λ (known_signal : KnownSignalState). Peered known_signal.client) (new_known_signal_of site begins) site.signals (λ place entry at. client_peered _ begins entry.name entry.id _ (names.signals place entry at))))
        (all_joined Peered _ _ (all_map Peered (λ (known_point : KnownPointState). known_point.client) _ (all_map (λ (known_point : KnownPointState). Peered known_point.client) (new_known_point_of site begins) site.points (λ place entry at. client_peered _ begins entry.name entry.id _ (names.points place entry at))))
        (all_map Peered (λ (detector : KnownDetectorState). detector.client) _ (all_map (λ (detector : KnownDetectorState). Peered detector.client) (new_detector_of site begins) site.detectors (λ place entry at. client_peered _ begins entry.name entry.id _ (names.detectors place entry at)))));
  }

  -- ---- a station as it lies

  pub outset_is_whole : (station : IsStation site) (table : Table) (outset : Outset) → IsOutsetOf site outset → IsWhole site (world_at site table outset)
  unfolding world_at
  outset_is_whole station table outset is = record {
    clients = clients_made table at_zero;
    connections = length_map no_connection (partners site) ∙ partners_count site;
    signals = length_map _ site.signals;
    points = length_map _ (zip site.points outset.positions) ∙ length_zipped site.points outset.positions is.positions;
    detectors = length_map _ site.detectors;
    signals_named = all_map (λ server. IsNamed server.host) _ site.signals (λ place entry at. host_named signal_behaviour at_zero entry.name entry.id _ (names.signals place entry at));
    points_named = all_map (λ server. IsNamed server.host) _ (zip site.points outset.positions) (λ place both at.
        host_named point_behaviour at_zero both.0.name both.0.id _ (names.points place both.0 (first_of_pair site.points outset.positions is.positions place both at)));
    detectors_named = all_map (λ server. IsNamed server.host) _ site.detectors (λ place entry at. host_named detection_behaviour at_zero entry.name entry.id _ (names.detectors place entry at));
    sections_named = all_map (λ server. HasSections server.host) _ site.detectors (λ place entry at. detector_sections station at_zero _ place entry at);
  }

  -- ---- restarts

  module _ (station : IsStation site) (table : Table) (begins : Beginning) (world : WorldState) (whole : IsWhole site world) where
    anew_host : {Object : Type 0} (host : HostState Object) (clock moment : ℕ) (server : ClockedControllerState Object) → (controller_anew host clock moment server).host ≡ host
    unfolding controller_anew
    anew_host host clock moment server = refl

    signal_anew_whole : (place : ℕ) (entry : Option SignalEntry) → slice_get site.signals place ≡ entry → IsWhole site (signal_anew site begins place entry world)
    signal_anew_whole place None at = whole
    signal_anew_whole place (Some entry) at = record {
      clients = whole.clients;
      connections = whole.connections;
      signals = length_of_changed _ place world.signals ∙ whole.signals;
      points = whole.points;
      detectors = whole.detectors;
      signals_named = all_changed (λ server. IsNamed server.host) (controller_anew (new_signal site begins entry) begins.clock (length world.sent)) (λ server. subst IsNamed (sym (anew_host (new_signal site begins entry) begins.clock (length world.sent) server))
          (host_named signal_behaviour begins entry.name entry.id _ (names.signals place entry at))) place world.signals whole.signals_named;
      points_named = whole.points_named;
      detectors_named = whole.detectors_named;
      sections_named = whole.sections_named;
    }

    point_anew_whole : (place : ℕ) (entry : Option PointEntry) → slice_get site.points place ≡ entry → IsWhole site (point_anew site begins place entry world)
    point_anew_whole place None at = whole
    point_anew_whole place (Some entry) at =
        let host = new_point site begins (slice_index_or world.positions place positions.NoEndPosition) entry
        in record {
          clients = whole.clients;
          connections = whole.connections;
          signals = whole.signals;
          points = length_of_changed _ place world.points ∙ whole.points;
          detectors = whole.detectors;
          signals_named = whole.signals_named;
          points_named = all_changed (λ server. IsNamed server.host) (controller_anew host begins.clock (length world.sent)) (λ server. subst IsNamed (sym (anew_host host begins.clock (length world.sent) server))
              (host_named point_behaviour begins entry.name entry.id _ (names.points place entry at))) place world.points whole.points_named;
          detectors_named = whole.detectors_named;
          sections_named = whole.sections_named;
        }

    detector_anew_whole : (place : ℕ) (entry : Option DetectorEntry) → slice_get site.detectors place ≡ entry → IsWhole site (detector_anew site begins place entry world)
    detector_anew_whole place None at = whole
    detector_anew_whole place (Some entry) at =
        let host = new_detector site begins world.occupancies entry
        in record {
          clients = whole.clients;
          connections = whole.connections;
          signals = whole.signals;
          points = whole.points;
          detectors = length_of_changed _ place world.detectors ∙ whole.detectors;
          signals_named = whole.signals_named;
          points_named = whole.points_named;
          detectors_named = all_changed (λ server. IsNamed server.host) (controller_anew host begins.clock (length world.sent)) (λ server. subst IsNamed (sym (anew_host host begins.clock (length world.sent) server))
              (host_named detection_behaviour begins entry.name entry.id _ (names.detectors place entry at))) place world.detectors whole.detectors_named;
          sections_named = all_changed (λ server. HasSections server.host) (controller_anew host begins.clock (length world.sent)) (λ server. subst HasSections (sym (anew_host host begins.clock (length world.sent) server))
              (detector_sections station begins world.occupancies place entry at)) place world.detectors whole.sections_named;
        }

    pub restart_keeps : (at : Option Node) → IsWhole site (made_anew site table begins at world)
    restart_keeps None = whole
    restart_keeps (Some Interlocking) = record {
      clients = clients_made table begins;
      connections = whole.connections;
      signals = whole.signals;
      points = whole.points;
      detectors = whole.detectors;
      signals_named = whole.signals_named;
      points_named = whole.points_named;
      detectors_named = whole.detectors_named;
      sections_named = whole.sections_named;
    }
    restart_keeps (Some (Signal place)) = signal_anew_whole place (slice_get site.signals place) refl
    restart_keeps (Some (Point place)) = point_anew_whole place (slice_get site.points place) refl
    restart_keeps (Some (Detector place)) = detector_anew_whole place (slice_get site.detectors place) refl
