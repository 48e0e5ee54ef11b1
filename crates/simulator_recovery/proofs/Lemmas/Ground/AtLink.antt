-- The client and the controller at the two ends of a link of a station, and what they count.
use Rattle.simulator_recovery.proofs.Words.Basics.{◌≡◌, ℕ, ◌+◌, ◌-◌, ◌<◌, ◌≤◌, nat_lt, Bool, true, false, not, List, ◌++◌, length, map, Option, Some, None, slice_get, refl, sym, ap, subst, ◌∙◌, arith, option_map, nat_tests, same_Some, slice_get-map}
use Rattle.simulator_recovery.proofs.Words.Links.{settled, reading_of, Links, seen, LinkState, is_open, is_up, AreUp}
use Rattle.simulator_recovery.proofs.Words.Controllers.{HostState, Stage}
use Rattle.simulator_recovery.proofs.Words.Interlockings.{ClientState, IxlState, KnownDetectorState, KnownPointState, KnownSignalState}
use Rattle.simulator_recovery.proofs.Words.Stations.{DetectorEntry, Site, IsDetectorOf, IsStation, AreLinksOf, ServerEnd, client_links, end_of_server, server_ends, Detector, Interlocking, Node, controller_at, detector_link, links, partners, point_link, WorldState, IsWhole, client_states}
use Rattle.simulator_recovery.proofs.Words.Recovery.{HostHasActedOn, AllStandByCounts, ClientStandsByCounts, HasCounted, HostCountsByStage, HostHasGiven, HostIsAt}
use Rattle.simulator_spec.specs.Nodes.{Point, Signal}
use Rattle.simulator_recovery.proofs.Lemmas.Ground.ClientItem.{at_behind, at_front, partners_length}
use Rattle.simulator_recovery.proofs.Lemmas.Talk.ClientLinks.{up_open}
use Rattle.simulator_recovery.proofs.Lemmas.Ground.LinkCounts.{settled_open}
use Rattle.simulator_recovery.proofs.Lemmas.Ground.EndCalls.{at_place, map_length}
use Rattle.simulator_recovery.proofs.Lemmas.Links.Moments.{Moment, said_one}
use Rattle.simulator_recovery.proofs.Lemmas.Ground.StationKeeps.{all_at}
use Rattle.simulator_recovery.proofs.Lemmas.Ground.DueTests.{is_less, is_not}

-- ---- three lists one after the other

pub mapped : {X Y : Type 0} (f : X → Y) (list : List X) (place : ℕ) (one : X) → slice_get list place ≡ Some one → slice_get (map f list) place ≡ Some (f one)
mapped f list place one e = slice_get-map f list place ∙ ap (option_map f) e

pub of_second : {X : Type 0} (a b c : List X) (before place : ℕ) (one : X) → length a ≡ before → slice_get b place ≡ Some one → slice_get (a ++ (b ++ c)) (before + place) ≡ Some one
of_second a b c before place one long e = at_behind a (b ++ c) before place long ∙ at_front b c place one e

pub of_third : {X : Type 0} (a b c : List X) (before between place : ℕ) (one : X) → length a ≡ before → length b ≡ between → slice_get c place ≡ Some one → slice_get (a ++ (b ++ c)) (before + between + place) ≡ Some one
of_third a b c before between place one long other e =
    ap (slice_get (a ++ (b ++ c))) apart ∙ at_behind a (b ++ c) before (between + place) long ∙ at_behind b c between place other ∙ e
  where
    apart : before + between + place ≡ before + (between + place)
    apart = omega arith

-- ---- one link

-- what a host counts by its stage, on this link
pub record HostPart (objects : ℕ) (how_far : Stage) (link : LinkState) : Type 0 where
  pub taken : ℕ
  pub given : ℕ
  pub counts : HasCounted taken given link
  pub acted : HostHasActedOn how_far taken
  pub gave : HostHasGiven objects how_far given

-- of how many objects a controller of a layout tells
abbrev pub ToldBy : Site → Option Node → ℕ → Type 0
ToldBy site None count = ⊥
ToldBy site (Some Interlocking) count = ⊥
ToldBy site (Some (Signal place)) count = count ≡ 1
ToldBy site (Some (Point place)) count = count ≡ 1
ToldBy site (Some (Detector place)) count = (entry : DetectorEntry) × (slice_get site.detectors place ≡ Some entry) × (count ≡ length entry.sections)

pub told_once : (site : Site) (node : Option Node) (n m : ℕ) → ToldBy site node n → ToldBy site node m → n ≡ m
told_once site None n m one other = absurd one
told_once site (Some Interlocking) n m one other = absurd one
told_once site (Some (Signal place)) n m one other = one ∙ sym other
told_once site (Some (Point place)) n m one other = one ∙ sym other
told_once site (Some (Detector place)) n m one other = one.2 ∙ ap (λ (d : DetectorEntry). length d.sections) (same_Some one.0 other.0 (sym one.1 ∙ other.1)) ∙ sym other.2

-- The client and the controller of a link.
pub record Found (site : Site) (world : WorldState) (link : ℕ) : Type 0 where
  pub objects : ℕ
  pub few : objects ≤ 16
  pub told : ToldBy site (controller_at site link) objects
  pub client : ClientState
  pub client_there : slice_get (client_states world.interlocking.ixl) link ≡ Some client
  pub client_link : slice_get (client_links world.interlocking.ixl) link ≡ Some client.link
  pub stands : ClientStandsByCounts client
  pub awaits : length client.peer.objects ≡ objects
  pub server : ServerEnd
  pub server_there : slice_get (server_ends world) link ≡ Some server
  pub how_far : Stage
  pub host_at : HostIsAt (controller_at site link) world how_far
  pub counts : is_open server.link.phase ≡ true → HostPart objects how_far server.link

host_part : {Object : Type 0} (objects : ℕ) (host : HostState Object) → HostCountsByStage objects host → HostPart objects host.stage host.link
host_part objects host c = record { taken = c.taken; given = c.given; counts = c.counts; acted = c.acted; gave = c.gave }

module _ (site : Site) (station : IsStation site) (world : WorldState) (whole : IsWhole site world) (all : AllStandByCounts site world) where
  abbrev known : IxlState
  known = world.interlocking.ixl

  abbrev signal_clients : List ClientState
  signal_clients = map (λ (k : KnownSignalState). k.client) known.known_signals

  signals_many : length known.known_signals ≡ length site.signals
  signals_many = whole.clients.known_signals

  points_many : length known.known_points ≡ length site.points
  points_many = whole.clients.known_points

  signal_found : (place : ℕ) → place < length site.signals → controller_at site place ≡ Some (Signal place) → Found site world place
  signal_found place few is =
      let a = at_place known.known_signals place (omega (arith, few, signals_many))
      in let controllers = whole.signals
      in let b = at_place world.signals place (omega (arith, few, controllers))
      in let client = all.clients.signals place a.0 a.1
      in let host = all.signals place b.0 b.1
      in record {
        objects = 1;
        few = omega arith;
        told = subst (λ (n : Option Node). ToldBy site n 1) (sym is) refl;
        client = a.0.client;
        client_there = at_front _ _ place a.0.client (mapped (λ (k : KnownSignalState). k.client) known.known_signals place a.0 a.1);
        client_link = at_front _ _ place a.0.client.link (mapped (λ (k : KnownSignalState). k.client.link) known.known_signals place a.0 a.1);
        stands = client.stands;
        awaits = client.objects;
        server = end_of_server b.0;
        server_there = at_front _ _ place (end_of_server b.0) (mapped end_of_server world.signals place b.0 b.1);
        how_far = b.0.host.stage;
        host_at = subst (λ (n : Option Node). HostIsAt n world b.0.host.stage) (sym is) (b.0, b.1, refl);
        counts = λ e. host_part 1 b.0.host (host.stands e);
      }

  point_found : (place : ℕ) → place < length site.points → controller_at site (point_link site place) ≡ Some (Point place) → Found site world (point_link site place)
  point_found place few is =
      let a = at_place known.known_points place (omega (arith, few, points_many))
      in let controllers = whole.points
      in let b = at_place world.points place (omega (arith, few, controllers))
      in let client = all.clients.points place a.0 a.1
      in let host = all.points place b.0 b.1
      in record {
        objects = 1;
        few = omega arith;
        told = subst (λ (n : Option Node). ToldBy site n 1) (sym is) refl;
        client = a.0.client;
        client_there = of_second (map (λ (k : KnownSignalState). k.client) known.known_signals) _ _ (length site.signals) place a.0.client (map_length _ known.known_signals ∙ signals_many) (mapped (λ (k : KnownPointState). k.client) known.known_points place a.0 a.1);
        client_link = of_second (map (λ (k : KnownSignalState). k.client.link) known.known_signals) _ _ (length site.signals) place a.0.client.link (map_length _ known.known_signals ∙ signals_many) (mapped (λ (k : KnownPointState). k.client.link) known.known_points place a.0 a.1);
        stands = client.stands;
        awaits = client.objects;
        server = end_of_server b.0;
        server_there = of_second (map end_of_server world.signals) _ _ (length site.signals) place (end_of_server b.0) (map_length _ world.signals ∙ whole.signals) (mapped end_of_server world.points place b.0 b.1);
        how_far = b.0.host.stage;
        host_at = subst (λ (n : Option Node). HostIsAt n world b.0.host.stage) (sym is) (b.0, b.1, refl);
        counts = λ e. host_part 1 b.0.host (host.stands e);
      }

  detector_found : (place : ℕ) → place < length site.detectors → controller_at site (detector_link site place) ≡ Some (Detector place) → Found site world (detector_link site place)
  detector_found place few is =
      let clients_many = whole.clients.detectors
      in let a = at_place known.detectors place (omega (arith, few, clients_many))
      in let controllers = whole.detectors
      in let b = at_place world.detectors place (omega (arith, few, controllers))
      in let entry = at_place site.detectors place few
      in let client = all.clients.detectors place a.0 a.1
      in let host = all.detectors place b.0 entry.0 b.1 entry.1
      in record {
        objects = length entry.0.sections;
        few = (all_at (IsDetectorOf site) site.detectors station.detectors place entry.0 entry.1).few;
        told = subst (λ (n : Option Node). ToldBy site n (length entry.0.sections)) (sym is) (entry.0, entry.1, refl);
        client = a.0.client;
        client_there = of_third (map (λ (k : KnownSignalState). k.client) known.known_signals) (map (λ (k : KnownPointState). k.client) known.known_points) _ (length site.signals) (length site.points) place a.0.client
            (map_length _ known.known_signals ∙ signals_many) (map_length _ known.known_points ∙ points_many) (mapped (λ (k : KnownDetectorState). k.client) known.detectors place a.0 a.1);
        client_link = of_third (map (λ (k : KnownSignalState). k.client.link) known.known_signals) (map (λ (k : KnownPointState). k.client.link) known.known_points) _ (length site.signals) (length site.points) place a.0.client.link
            (map_length _ known.known_signals ∙ signals_many) (map_length _ known.known_points ∙ points_many) (mapped (λ (k : KnownDetectorState). k.client.link) known.detectors place a.0 a.1);
        stands = client.stands;
        awaits = client.objects entry.0 entry.1;
        server = end_of_server b.0;
        server_there = of_third (map end_of_server world.signals) (map end_of_server world.points) _ (length site.signals) (length site.points) place (end_of_server b.0)
            (map_length _ world.signals ∙ whole.signals) (map_length _ world.points ∙ whole.points) (mapped end_of_server world.detectors place b.0 b.1);
        how_far = b.0.host.stage;
        host_at = subst (λ (n : Option Node). HostIsAt n world b.0.host.stage) (sym is) (b.0, b.1, refl);
        counts = λ e. host_part (length entry.0.sections) b.0.host (host.stands e);
      }

  lt_true : (a b : ℕ) → a < b → nat_lt a b ≡ true
  lt_true a b few = grind (arith, nat_tests, few)

  pub found : (link : ℕ) → link < links site → Found site world link
  found link below = choose (nat_lt link (length site.signals)) refl (nat_lt link (point_link site (length site.points))) refl
    where
      point_place : ℕ
      point_place = link - length site.signals

      detector_place : ℕ
      detector_place = link - detector_link site 0

      choose : (a : Bool) → nat_lt link (length site.signals) ≡ a → (b : Bool) → nat_lt link (point_link site (length site.points)) ≡ b → Found site world link
      choose true e b f = signal_found link (is_less link (length site.signals) e) (rw e refl)
      choose false e true f =
          let many = is_not link (length site.signals) e
          in let few = is_less link (point_link site (length site.points)) f
          in let here : point_link site point_place ≡ link = omega (arith, many)
          in subst (Found site world) here (point_found point_place (omega (arith, many, few)) (ap (controller_at site) here ∙ rw (e, f) refl))
      choose false e false f =
          let many = is_not link (point_link site (length site.points)) f
          in let last = below
          in let here : detector_link site detector_place ≡ link = omega (arith, many)
          in subst (Found site world) here (detector_found detector_place (omega (arith, many, last)) (ap (controller_at site) here ∙ rw (e, f, lt_true link (links site) below) refl))

  -- A client that is up has given an item, whether its controller is up or not.
  pub client_said : (link : ℕ) (after : Links) → link < links site → AreLinksOf site world after → is_up (after.ends link).client.link.phase ≡ true → 1 ≤ (after.ends link).client.link.given
  client_said link after below are up =
      let f = found link below
      in let id = at_place (partners site) link (subst (λ (n : ℕ). link < n) (sym (partners_length site)) below)
      in let c = are.clients link id.0 id.1
      in let kept : c.kept ≡ f.client.link = same_Some c.kept f.client.link (sym c.there ∙ f.client_link)
      in let cl : (after.ends link).client.link ≡ settled (reading_of world.interlocking.clock) f.client.link = c.link_is ∙ ap (settled (reading_of world.interlocking.clock)) kept
      in let c_open = settled_open (reading_of world.interlocking.clock) f.client.link (up_open _ (ap (λ (l : LinkState). is_up l.phase) (sym cl) ∙ up))
      in let c_is = cl ∙ c_open.0
      in let counts = f.stands.stands c_open.1
      in said_one (after.ends link).client.link f.client.stage counts.given (ap (λ (l : LinkState). l.given) c_is ∙ counts.counts.given_is) (f.stands.outside ∙ ap not (ap (λ (l : LinkState). is_up l.phase) (sym c_is) ∙ up)) counts.gave

  -- what both ends count at this moment, as the link sees them
  pub record AtLink (link : ℕ) (client server : LinkState) : Type 0 where
    pub objects : ℕ
    pub few : objects ≤ 16
    pub told : ToldBy site (controller_at site link) objects
    pub moment : Moment objects client server
    pub at : ClientState
    pub there : slice_get (client_states world.interlocking.ixl) link ≡ Some at
    pub stage_is : moment.how_far ≡ at.stage
    pub host_at : HostIsAt (controller_at site link) world moment.host_at

  pub at_link : (link : ℕ) (after : Links) → link < links site → AreLinksOf site world after → AreUp (seen link after) → AtLink link (after.ends link).client.link (after.ends link).server.link
  at_link link after below are up =
      let f = found link below
      in let id = at_place (partners site) link (subst (λ (n : ℕ). link < n) (sym (partners_length site)) below)
      in let c = are.clients link id.0 id.1
      in let s = are.servers link id.0 id.1
      in let kept : c.kept ≡ f.client.link = same_Some c.kept f.client.link (sym c.there ∙ f.client_link)
      in let kept_server : s.kept ≡ f.server = same_Some s.kept f.server (sym s.there ∙ f.server_there)
      in let cl : (after.ends link).client.link ≡ settled (reading_of world.interlocking.clock) f.client.link = c.link_is ∙ ap (settled (reading_of world.interlocking.clock)) kept
      in let sl : (after.ends link).server.link ≡ settled (reading_of f.server.clock) f.server.link = s.link_is ∙ ap (λ (e : ServerEnd). settled (reading_of e.clock) e.link) kept_server
      in let c_open = settled_open (reading_of world.interlocking.clock) f.client.link (up_open _ (ap (λ (l : LinkState). is_up l.phase) (sym cl) ∙ up.0))
      in let s_open = settled_open (reading_of f.server.clock) f.server.link (up_open _ (ap (λ (l : LinkState). is_up l.phase) (sym sl) ∙ up.1))
      in let c_is = cl ∙ c_open.0
      in let s_is = sl ∙ s_open.0
      in let counts = f.stands.stands c_open.1
      in let part = f.counts s_open.1
      in let client_up : is_up f.client.link.phase ≡ true = ap (λ (l : LinkState). is_up l.phase) (sym c_is) ∙ up.0
      in record {
        objects = f.objects;
        few = f.few;
        told = f.told;
        moment = record {
          peer = f.client.peer;
          awaits = f.awaits;
          how_far = f.client.stage;
          inside = f.stands.outside ∙ ap not client_up;
          client_taken = counts.taken;
          client_given = counts.given;
          client_takes = ap (λ (l : LinkState). l.taken) c_is ∙ counts.counts.taken_is;
          client_gives = ap (λ (l : LinkState). l.given) c_is ∙ counts.counts.given_is;
          client_acted = counts.acted;
          client_gave = counts.gave;
          host_at = f.how_far;
          host_taken = part.taken;
          host_given = part.given;
          host_takes = ap (λ (l : LinkState). l.taken) s_is ∙ part.counts.taken_is;
          host_gives = ap (λ (l : LinkState). l.given) s_is ∙ part.counts.given_is;
          host_acted = part.acted;
          host_gave = part.gave;
        };
        at = f.client;
        there = f.client_there;
        stage_is = refl;
        host_at = f.host_at;
      }
