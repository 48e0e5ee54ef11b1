-- A controller of a station and its client, at the ends of their link.
use Rattle.simulator_recovery.proofs.Words.Basics.{◌≡◌, ℕ, ◌<◌, ◌∙◌, List, [], ◌∷◌, length, map, Some, slice_get, refl, sym, ap, subst, arith, same_Some, slice_get_within}
use Rattle.simulator_recovery.proofs.Words.Links.{settled, reading_of, Links, seen, Names, Ordered, Ends}
use Rattle.simulator_recovery.proofs.Words.Controllers.{Protocol, Behaviour, SignalState, signal_behaviour, point_behaviour, PointState, detection_behaviour, Section}
use Rattle.simulator_recovery.proofs.Words.Interlockings.{IsTableOf, ClientState, PeerState, KnownDetectorState, KnownPointState, KnownSignalState, Detector, Node, Point, Signal, Table}
use Rattle.simulator_recovery.proofs.Words.Stations.{DetectorEntry, Site, Point as PointEntry, Signal as SignalEntry, Once, IsStation, AreLinksOf, ServerEnd, end_of_server, names_at, server_ends, detector_link, links, partners, point_link, ClockedControllerState, WorldState, IsPeer}
use Rattle.simulator_recovery.proofs.Words.Recovery.{ClientTalks, AreMatched, peer_for, section_names, Any, HasNames, IndicatesSpoken, LawsBelow}
use Rattle.simulator_recovery.proofs.Lemmas.Ground.ClientItem.{at_front, partners_length}
use Rattle.simulator_recovery.proofs.Lemmas.Talk.AlwaysExpected.{Stands, same_length}
use Rattle.simulator_recovery.proofs.Lemmas.Ground.AtLink.{mapped, of_second, of_third}
use Rattle.simulator_recovery.proofs.Lemmas.Talk.ControllerTells.{Tells}
use Rattle.simulator_recovery.proofs.Lemmas.Ground.ControllersOnLinks.{lists_of}
use Rattle.simulator_recovery.proofs.Lemmas.Ground.HostKeeps.{ObjectKeeps}
use Rattle.simulator_recovery.proofs.Lemmas.Ground.EndCalls.{at_place, map_length}
use Rattle.simulator_recovery.proofs.Lemmas.Ground.MatchedEnds.{detectors_keep, points_keep, signals_keep, spoken}

-- The ends of a link are those of this controller and this client: they belong together, and each says what its stage tells.
pub record Joined {Object : Type 0} (site : Site) (node : Node) (does : Behaviour Object) (Fits : Object → Type 0) (own_name : List ℕ) (keep : ObjectKeeps does Fits (spoken site)) (c : ClockedControllerState Object) (client : ClientState) (names : Names) (ends : Ends) : Type 0 where
  pub is_peer : IsPeer client.peer
  pub talks : ClientTalks site node client ends.client.given ends.client.taken
  pub ordered : Ordered names ends
  pub matched : AreMatched does client.peer c.host
  pub tells : Tells does Fits (spoken site) own_name site.station.name keep c.host (lists_of ends.server)
  pub link_is : ends.server.link ≡ settled (reading_of c.clock) c.host.link
  pub clock_is : ends.server.clock ≡ c.clock

-- the end of a controller
record IsEndAt {Object : Type 0} (network : Links) (link : ℕ) (c : ClockedControllerState Object) : Type 0 where
  link_is : (network.ends link).server.link ≡ settled (reading_of c.clock) c.host.link
  clock_is : (network.ends link).server.clock ≡ c.clock

end_is : {Object : Type 0} (site : Site) (world : WorldState) (network : Links) (link : ℕ) (c : ClockedControllerState Object) → AreLinksOf site world network → link < links site → slice_get (server_ends world) link ≡ Some (end_of_server c)
    → IsEndAt network link c
end_is site world network link c are below there =
    let id = at_place (partners site) link (subst (λ (n : ℕ). link < n) (sym (partners_length site)) below)
    in let s = are.servers link id.0 id.1
    in let kept : s.kept ≡ end_of_server c = same_Some s.kept (end_of_server c) (sym s.there ∙ there)
    in record { link_is = s.link_is ∙ ap (λ (k : ServerEnd). settled (reading_of k.clock) k.link) kept; clock_is = s.clock_is ∙ ap (λ (k : ServerEnd). k.clock) kept }

module _ (laws : LawsBelow) (site : Site) (table : Table) (station : IsStation site) (once : Once site) (is_table : IsTableOf site table) (world : WorldState) (network : Links) (are : AreLinksOf site world network)
    (s : Stands laws site table station once is_table world network) where
  -- a signal
  pub record SignalJoined (place : ℕ) (c : ClockedControllerState SignalState) : Type 0 where
    pub entry : SignalEntry
    pub known : KnownSignalState
    pub joined : Joined site (Signal place) signal_behaviour (IndicatesSpoken site) entry.name (signals_keep site) c known.client (names_at site place) (seen place network)
    pub below : place < links site

  pub signal_joined : (place : ℕ) (c : ClockedControllerState SignalState) → slice_get world.signals place ≡ Some c → SignalJoined place c
  signal_joined place c g =
      let entry = same_length laws site table station once is_table world.signals site.signals s.whole.signals place c g
      in let known = same_length laws site table station once is_table site.signals world.interlocking.ixl.known_signals (sym s.whole.clients.known_signals) place entry.0 entry.1
      in record { entry = entry.0; known = known.0; joined = with_entry entry.0 entry.1 known.0 known.1; below = below }
    where
      below : place < links site
      below = let a = slice_get_within world.signals place c g in let b = s.whole.signals in omega (arith, a, b)

      with_entry : (entry : SignalEntry) → slice_get site.signals place ≡ Some entry → (known : KnownSignalState) → slice_get world.interlocking.ixl.known_signals place ≡ Some known
          → Joined site (Signal place) signal_behaviour (IndicatesSpoken site) entry.name (signals_keep site) c known.client (names_at site place) (seen place network)
      with_entry entry f known e = record {
        is_peer = s.whole.clients.peers place known.client (at_front _ _ place known.client (mapped (λ (k : KnownSignalState). k.client) world.interlocking.ixl.known_signals place known e));
        talks = s.talking.talk.signals place known e;
        ordered = s.ordered place below;
        matched = subst (λ (p : PeerState). AreMatched signal_behaviour p c.host) (sym peer_is) (record { own_name = tells.kept_so.peer_is; name = tells.kept_so.own_is; version = tells.kept_so.version_is; protocol = refl });
        tells = tells;
        link_is = end.link_is;
        clock_is = end.clock_is;
      }
        where
          peer_is : known.client.peer ≡ peer_for Protocol.LightSignal site entry.name (entry.name ∷ [])
          peer_is = s.talking.matching.clients.signals place known e entry f

          tells : Tells signal_behaviour (IndicatesSpoken site) (spoken site) entry.name site.station.name (signals_keep site) c.host (lists_of (network.ends place).server)
          tells = s.telling.of_signals place c g entry f

          end : IsEndAt network place c
          end = end_is site world network place c are below (at_front (map end_of_server world.signals) _ place (end_of_server c) (mapped end_of_server world.signals place c g))

  -- a point
  pub record PointJoined (place : ℕ) (c : ClockedControllerState PointState) : Type 0 where
    pub entry : PointEntry
    pub known : KnownPointState
    pub joined : Joined site (Point place) point_behaviour Any entry.name (points_keep site) c known.client (names_at site (point_link site place)) (seen (point_link site place) network)
    pub below : point_link site place < links site
    -- its client hears of one object
    pub one : length known.client.peer.objects ≡ 1

  pub point_joined : (place : ℕ) (c : ClockedControllerState PointState) → slice_get world.points place ≡ Some c → PointJoined place c
  point_joined place c g =
      let entry = same_length laws site table station once is_table world.points site.points s.whole.points place c g
      in let known = same_length laws site table station once is_table site.points world.interlocking.ixl.known_points (sym s.whole.clients.known_points) place entry.0 entry.1
      in record {
        entry = entry.0;
        known = known.0;
        joined = with_entry entry.0 entry.1 known.0 known.1;
        below = below;
        one = ap (λ (p : PeerState). length p.objects) (s.talking.matching.clients.points place known.0 known.1 entry.0 entry.1);
      }
    where
      below : point_link site place < links site
      below = let a = slice_get_within world.points place c g in let b = s.whole.points in omega (arith, a, b)

      with_entry : (entry : PointEntry) → slice_get site.points place ≡ Some entry → (known : KnownPointState) → slice_get world.interlocking.ixl.known_points place ≡ Some known
          → Joined site (Point place) point_behaviour Any entry.name (points_keep site) c known.client (names_at site (point_link site place)) (seen (point_link site place) network)
      with_entry entry f known e = record {
        is_peer = s.whole.clients.peers (point_link site place) known.client (of_second _ _ _ (length site.signals) place known.client
            (map_length (λ (k : KnownSignalState). k.client) world.interlocking.ixl.known_signals ∙ s.whole.clients.known_signals) (mapped (λ (k : KnownPointState). k.client) world.interlocking.ixl.known_points place known e));
        talks = s.talking.talk.points place known e;
        ordered = s.ordered (point_link site place) below;
        matched = subst (λ (p : PeerState). AreMatched point_behaviour p c.host) (sym peer_is) (record { own_name = tells.kept_so.peer_is; name = tells.kept_so.own_is; version = tells.kept_so.version_is; protocol = refl });
        tells = tells;
        link_is = end.link_is;
        clock_is = end.clock_is;
      }
        where
          peer_is : known.client.peer ≡ peer_for Protocol.Point site entry.name (entry.name ∷ [])
          peer_is = s.talking.matching.clients.points place known e entry f

          tells : Tells point_behaviour Any (spoken site) entry.name site.station.name (points_keep site) c.host (lists_of (network.ends (point_link site place)).server)
          tells = s.telling.of_points place c g entry f

          end : IsEndAt network (point_link site place) c
          end = end_is site world network (point_link site place) c are below
              (of_second (map end_of_server world.signals) _ _ (length site.signals) place (end_of_server c) (map_length _ world.signals ∙ s.whole.signals) (mapped end_of_server world.points place c g))

  -- a detector
  pub record DetectorJoined (place : ℕ) (c : ClockedControllerState (List Section)) : Type 0 where
    pub entry : DetectorEntry
    pub known : KnownDetectorState
    pub joined : Joined site (Detector place) detection_behaviour (HasNames (section_names site entry)) entry.name (detectors_keep site (section_names site entry)) c known.client (names_at site (detector_link site place)) (seen (detector_link site place) network)
    pub below : detector_link site place < links site

  pub detector_joined : (place : ℕ) (c : ClockedControllerState (List Section)) → slice_get world.detectors place ≡ Some c → DetectorJoined place c
  detector_joined place c g =
      let entry = same_length laws site table station once is_table world.detectors site.detectors s.whole.detectors place c g
      in let known = same_length laws site table station once is_table site.detectors world.interlocking.ixl.detectors (sym s.whole.clients.detectors) place entry.0 entry.1
      in record { entry = entry.0; known = known.0; joined = with_entry entry.0 entry.1 known.0 known.1; below = below }
    where
      below : detector_link site place < links site
      below = let a = slice_get_within world.detectors place c g in let b = s.whole.detectors in omega (arith, a, b)

      with_entry : (entry : DetectorEntry) → slice_get site.detectors place ≡ Some entry → (known : KnownDetectorState) → slice_get world.interlocking.ixl.detectors place ≡ Some known
          → Joined site (Detector place) detection_behaviour (HasNames (section_names site entry)) entry.name (detectors_keep site (section_names site entry)) c known.client (names_at site (detector_link site place)) (seen (detector_link site place) network)
      with_entry entry f known e = record {
        is_peer = s.whole.clients.peers (detector_link site place) known.client (of_third _ _ _ (length site.signals) (length site.points) place known.client
            (map_length (λ (k : KnownSignalState). k.client) world.interlocking.ixl.known_signals ∙ s.whole.clients.known_signals)
            (map_length (λ (k : KnownPointState). k.client) world.interlocking.ixl.known_points ∙ s.whole.clients.known_points) (mapped (λ (k : KnownDetectorState). k.client) world.interlocking.ixl.detectors place known e));
        talks = s.talking.talk.detectors place known e;
        ordered = s.ordered (detector_link site place) below;
        matched = subst (λ (p : PeerState). AreMatched detection_behaviour p c.host) (sym peer_is) (record { own_name = tells.kept_so.peer_is; name = tells.kept_so.own_is; version = tells.kept_so.version_is; protocol = refl });
        tells = tells;
        link_is = end.link_is;
        clock_is = end.clock_is;
      }
        where
          peer_is : known.client.peer ≡ peer_for Protocol.TrainDetection site entry.name (section_names site entry)
          peer_is = s.talking.matching.clients.detectors place known e entry f

          tells : Tells detection_behaviour (HasNames (section_names site entry)) (spoken site) entry.name site.station.name (detectors_keep site (section_names site entry)) c.host (lists_of (network.ends (detector_link site place)).server)
          tells = s.telling.of_detectors place c g entry f

          end : IsEndAt network (detector_link site place) c
          end = end_is site world network (detector_link site place) c are below
              (of_third (map end_of_server world.signals) (map end_of_server world.points) _ (length site.signals) (length site.points) place (end_of_server c)
              (map_length _ world.signals ∙ s.whole.signals) (map_length _ world.points ∙ s.whole.points) (mapped end_of_server world.detectors place c g))
