-- A step of the interlocking, as events of the links of a world.
use Rattle.std.proofs.Common.{◌≡◌, ℕ, ◌+◌, ◌<◌, List, [], ◌∷◌, ◌++◌, length, map, Some, option_map, slice_get, refl, sym, ap, subst, ◌∙◌, arith}
use Rattle.std.proofs.lemmas.Option.{same_Some}
use Rattle.simulator_spec.specs.layout.Entries.{Site}
use Rattle.simulator_spec.specs.ixl_client.Client.{ClientState}
use Rattle.simulator_spec.specs.ixl_client.Step.{clocked, fallen}
use Rattle.simulator_spec.specs.ixl_spec.StepSoFar.{StepSoFar, begun_with, empty_outbox}
use Rattle.simulator_spec.specs.ixl_spec.State.{KnownDetectorState, IxlState, KnownSignalState, KnownPointState}
use Rattle.simulator_spec.specs.ixl_spec.Step as ixl
use Rattle.simulator_spec.specs.ixl_spec.Step.{all_clocked, clocked_detector, clocked_known_signal, clocked_known_point}
use Rattle.simulator_spec.specs.ixl_spec.Table.{Table}
use Rattle.simulator_spec.specs.rasta_core.Clock.{settled}
use Rattle.simulator_spec.specs.rasta_core.EachLink.{AreTimely}
use Rattle.simulator_spec.specs.rasta_core.Ends.{EndState, reading_of}
use Rattle.simulator_spec.specs.rasta_core.Links.{AreLinks, Links, run_links, seen}
use Rattle.simulator_spec.specs.rasta_core.Nodes.{NodeCall, calls_of}
use Rattle.simulator_spec.specs.rasta_core.Run.{end_of}
use Rattle.simulator_spec.specs.rasta_core.State.{LinkState}
use Rattle.simulator_spec.specs.rasta_core.identity.Role.{Role}
use Rattle.simulator_spec.specs.rasta_core.identity.Role.TheVariants as role
use Rattle.simulator_spec.specs.Happens.{interlocking_stepped}
use Rattle.simulator_spec.specs.Links.{AreLinksOf, IsClientAt, IsServerAt, client_links, names_at, server_ends}
use Rattle.simulator_spec.specs.Nodes.{key_of, links, partners}
use Rattle.simulator_spec.specs.Interlocking.{Sending, interlocking_step, sending_all}
use Rattle.simulator_spec.specs.State.{WorldState}
use Rattle.simulator_link_laws.proofs.InterlockingCalls.{Tells}
use Rattle.simulator_link_laws.proofs.Laws.{ClientLaws, LinkLaws}
use Rattle.simulator_link_laws.proofs.Lists.{by_test, get_map, length_joined, length_map, some_within}
use Rattle.simulator_link_laws.proofs.Partners.{below_links, partner_at}
use Rattle.simulator_link_laws.proofs.Parts.{MayComeIn, StepLaws, known_signal_client, known_point_client, detector_client, step_kept}
use Rattle.simulator_link_laws.proofs.Places.{server_same}
use Rattle.simulator_link_laws.proofs.Reached.{ClientIs, Reached, events_for}
use Rattle.simulator_link_laws.specs.Calls.{node_call}
use Rattle.simulator_link_laws.specs.Nodes.{MayComeWith}
use Rattle.simulator_link_laws.specs.Events.{FollowsBy, interlocking_events}
use Rattle.simulator_link_laws.specs.Whole.{IsPeer, IsWhole, client_states}

-- ---- the clients, and their links

map_then : {A B C : Type 0} (f : A → B) (g : B → C) (list : List A) → map g (map f list) ≡ map (λ one. g (f one)) list
map_then f g [] = refl
map_then f g (first ∷ others) = ap (λ l. g (f first) ∷ l) (map_then f g others)

map_joined : {A B : Type 0} (f : A → B) (one other : List A) → map f (one ++ other) ≡ map f one ++ map f other
map_joined f [] other = refl
map_joined f (first ∷ others) other = ap (λ l. f first ∷ l) (map_joined f others other)

map_same : {A B : Type 0} (f g : A → B) → ((one : A) → f one ≡ g one) → (list : List A) → map f list ≡ map g list
map_same f g same [] = refl
map_same f g same (first ∷ others) = ap (λ b. b ∷ map f others) (same first) ∙ ap (λ l. g first ∷ l) (map_same f g same others)

three_joined : {A B : Type 0} (f : A → B) (a b c : List A) → map f (a ++ (b ++ c)) ≡ map f a ++ (map f b ++ map f c)
three_joined f a b c = map_joined f a (b ++ c) ∙ ap (λ l. map f a ++ l) (map_joined f b c)

three_same : {A : Type 0} (a b c d e f : List A) → a ≡ d → b ≡ e → c ≡ f → a ++ (b ++ c) ≡ d ++ (e ++ f)
three_same a b c d e f p q r = ap (λ l. l ++ (b ++ c)) p ∙ ap (λ l. d ++ (l ++ c)) q ∙ ap (λ l. d ++ (e ++ l)) r

abbrev link_of_client : ClientState → LinkState
link_of_client client = client.link

links_are : (ixl : IxlState) → client_links ixl ≡ map link_of_client (client_states ixl)
links_are ixl = sym (
    three_joined link_of_client (map (λ (known_signal : KnownSignalState). known_signal.client) ixl.known_signals) (map (λ (known_point : KnownPointState). known_point.client) ixl.known_points) (map (λ (detector : KnownDetectorState). detector.client) ixl.detectors)
    ∙ three_same _ _ _ _ _ _ (map_then (λ (known_signal : KnownSignalState). known_signal.client) link_of_client ixl.known_signals) (map_then (λ (known_point : KnownPointState). known_point.client) link_of_client ixl.known_points)
    (map_then (λ (detector : KnownDetectorState). detector.client) link_of_client ixl.detectors))

pub link_there : (ixl : IxlState) (link : ℕ) (client : ClientState) → slice_get (client_states ixl) link ≡ Some client → slice_get (client_links ixl) link ≡ Some client.link
link_there ixl link client at = ap (λ l. slice_get l link) (links_are ixl) ∙ get_map link_of_client (client_states ixl) link ∙ ap (option_map link_of_client) at

-- ---- the clock

fallen_link : (client : ClientState) → (fallen client).link ≡ client.link
unfolding fallen
fallen_link client = by_test (λ (c : ClientState). c.link ≡ client.link) _ client _ (λ e. refl) (λ e. refl)

fallen_peer : (client : ClientState) → (fallen client).peer ≡ client.peer
unfolding fallen
fallen_peer client = by_test (λ (c : ClientState). c.peer ≡ client.peer) _ client _ (λ e. refl) (λ e. refl)

clocked_link : (now : ℕ) (client : ClientState) → (clocked now client).link ≡ settled now client.link
unfolding clocked
clocked_link now client = fallen_link (record client { link = settled now client.link })

clocked_peer : (now : ℕ) (client : ClientState) → (clocked now client).peer ≡ client.peer
unfolding clocked
clocked_peer now client = fallen_peer (record client { link = settled now client.link })

clients_clocked : (now : ℕ) (ixl : IxlState) → client_states (all_clocked now ixl) ≡ map (clocked now) (client_states ixl)
unfolding all_clocked
clients_clocked now ixl =
    three_same _ _ _ _ _ _
    (map_then (clocked_known_signal now) (λ (known_signal : KnownSignalState). known_signal.client) ixl.known_signals ∙ map_same _ _ (λ (known_signal : KnownSignalState). known_signal_client known_signal.aspect known_signal.number known_signal.indicated (clocked now known_signal.client)) ixl.known_signals ∙ sym (map_then (λ (known_signal : KnownSignalState). known_signal.client) (clocked now) ixl.known_signals))
    (map_then (clocked_known_point now) (λ (known_point : KnownPointState). known_point.client) ixl.known_points ∙ map_same _ _ (λ (known_point : KnownPointState). known_point_client known_point.side known_point.moved (clocked now known_point.client)) ixl.known_points ∙ sym (map_then (λ (known_point : KnownPointState). known_point.client) (clocked now) ixl.known_points))
    (map_then (clocked_detector now) (λ (detector : KnownDetectorState). detector.client) ixl.detectors ∙ map_same _ _ (λ (detector : KnownDetectorState). detector_client detector.occupied (clocked now detector.client)) ixl.detectors ∙ sym (map_then (λ (detector : KnownDetectorState). detector.client) (clocked now) ixl.detectors))
    ∙ sym (three_joined (clocked now) (map (λ (known_signal : KnownSignalState). known_signal.client) ixl.known_signals) (map (λ (known_point : KnownPointState). known_point.client) ixl.known_points) (map (λ (detector : KnownDetectorState). detector.client) ixl.detectors))

-- ---- the step

-- the laws of the client of many links
pub record NodeLaws : Type 0 where
  pub end : (who : Role) (calls : List NodeCall) (links : Links) (link : ℕ)
      → (end_of who (seen link (run_links (calls_of who calls) links))).clock ≡ (end_of who (seen link links)).clock
  pub partner : (calls : List NodeCall) (links : Links) (link : ℕ) → ((run_links (calls_of role.Client calls) links).ends link).server ≡ (links.ends link).server

module _ (laws : LinkLaws) (client_laws : ClientLaws) (node_laws : NodeLaws) (steps : StepLaws) (site : Site) (are_links : AreLinks (links site) (names_at site)) (table : Table) (connection : ℕ)
    (world : WorldState) (before : Links) (whole : IsWhole site world) (timely : AreTimely (links site) (names_at site) before) (are : AreLinksOf site world before) where
  abbrev now : ℕ
  now = reading_of world.interlocking.clock

  abbrev start : Sending
  start = record { connections = world.interlocking.connections; sent = world.sent }

  abbrev begun : StepSoFar
  begun = record (begun_with world.interlocking.ixl empty_outbox) { ixl = all_clocked now world.interlocking.ixl }

  client_at : (link : ℕ) → link < links site → IsClientAt world link (before.ends link).client
  client_at link below = let partner = partner_at site link below in are.clients link partner.0 partner.1

  clients_count : length (client_states world.interlocking.ixl) ≡ links site
  clients_count = length_joined known_signals (known_points ++ detectors) ∙ ap (λ n. length known_signals + n) (length_joined known_points detectors)
      ∙ sums (length known_signals) (length known_points) (length detectors) (length site.signals) (length site.points) (length site.detectors)
      (length_map (λ (known_signal : KnownSignalState). known_signal.client) world.interlocking.ixl.known_signals ∙ whole.clients.known_signals)
      (length_map (λ (known_point : KnownPointState). known_point.client) world.interlocking.ixl.known_points ∙ whole.clients.known_points)
      (length_map (λ (detector : KnownDetectorState). detector.client) world.interlocking.ixl.detectors ∙ whole.clients.detectors)
    where
      known_signals : List ClientState
      known_signals = map (λ (known_signal : KnownSignalState). known_signal.client) world.interlocking.ixl.known_signals

      known_points : List ClientState
      known_points = map (λ (known_point : KnownPointState). known_point.client) world.interlocking.ixl.known_points

      detectors : List ClientState
      detectors = map (λ (detector : KnownDetectorState). detector.client) world.interlocking.ixl.detectors

      sums : (a b c d e f : ℕ) → a ≡ d → b ≡ e → c ≡ f → a + (b + c) ≡ d + e + f
      sums a b c d e f p q r = omega arith

  begun_client : (link : ℕ) → link < links site → ClientIs before (all_clocked now world.interlocking.ixl) link
  begun_client link below =
      let found = some_within (client_states world.interlocking.ixl) link (subst (λ n. link < n) (sym clients_count) below)
      in let is = client_at link below
      in record {
        client = clocked now found.0;
        there = ap (λ l. slice_get l link) (clients_clocked now world.interlocking.ixl) ∙ get_map (clocked now) (client_states world.interlocking.ixl) link ∙ ap (option_map (clocked now)) found.1;
        link_is = clocked_link now found.0 ∙ ap (settled now) (same_Some found.0.link is.kept (sym (link_there world.interlocking.ixl link found.0 found.1) ∙ is.there)) ∙ sym is.link_is;
        peer = subst IsPeer (sym (clocked_peer now found.0)) (whole.clients.peers link found.0 found.1);
      }

  begun_tells : Tells laws client_laws site are_links world.time before start
  begun_tells = record {
    timely = timely;
    time_is = are.time_is;
    sent_is = sym are.sent_is;
    count = whole.connections;
    noted = λ link below. (client_at link below).connection_is;
  }

  begun_reached : Reached laws client_laws site are_links world.time connection now before start begun
  unfolding sending_all all_clocked
  begun_reached = record {
    nodes = tt;
    may = tt;
    tells = begun_tells;
    manned = record {
      known_signals = length_map (clocked_known_signal now) world.interlocking.ixl.known_signals ∙ whole.clients.known_signals;
      known_points = length_map (clocked_known_point now) world.interlocking.ixl.known_points ∙ whole.clients.known_points;
      detectors = length_map (clocked_detector now) world.interlocking.ixl.detectors ∙ whole.clients.detectors;
    };
    clients = begun_client;
    reads = λ link below. ap reading_of (client_at link below).clock_is;
  }

  abbrev done : ixl.Input → StepSoFar
  done input = interlocking_step site table input world.interlocking

  pub reached : (input : ixl.Input) → MayComeIn laws client_laws site are_links world.time connection now before start steps table input → Reached laws client_laws site are_links world.time connection now before start (done input)
  reached input may = step_kept laws client_laws site are_links world.time connection now before start steps table (key_of site) input (begun_with world.interlocking.ixl empty_outbox) may begun_reached

  -- what may come at the ends may come in the step
  pub may_come : (input : ixl.Input) → MayComeWith site input connection before → MayComeIn laws client_laws site are_links world.time connection now before start steps table input
  may_come ixl.Tick comes = tt
  may_come (ixl.Datagram bytes) comes = comes bytes refl
  may_come (ixl.Commands command) comes = tt

  abbrev last : ixl.Input → Links
  last input = run_links (events_for site connection (done input).calls) before

  -- the interlocking's end of a link after the step
  client_after : (input : ixl.Input) (new : WorldState) (link : ℕ) → link < links site → Reached laws client_laws site are_links world.time connection now before start (done input)
      → new.interlocking.ixl ≡ (done input).ixl → new.interlocking.clock ≡ world.interlocking.clock → new.interlocking.connections ≡ (sending_all site world.time (done input).outbox.datagrams start).connections
      → IsClientAt new link ((last input).ends link).client
  client_after input new link below on ixl_is clock_is connections_is =
      let is = on.clients link below
      in let end : EndState = ((last input).ends link).client
      in let same_clock : end.clock ≡ world.interlocking.clock
      = node_laws.end role.Client (map (node_call site connection) (done input).calls) before link ∙ (client_at link below).clock_is
      in record {
        kept = end.link;
        there = ap (λ i. slice_get (client_links i) link) ixl_is ∙ link_there (done input).ixl link is.client is.there ∙ ap (λ l. Some l) is.link_is;
        link_is = sym (laws.settles (names_at site link) (seen link (last input)) role.Client (on.tells.timely.each link below)) ∙ ap (λ c. settled (reading_of c) end.link) (same_clock ∙ sym clock_is);
        clock_is = same_clock ∙ sym clock_is;
        connection_is = ap (λ l. slice_get l link) connections_is ∙ on.tells.noted link below;
      }

  -- and the controller's end
  server_after : (input : ixl.Input) (new : WorldState) (link id : ℕ) → slice_get (partners site) link ≡ Some id → server_ends new ≡ server_ends world → IsServerAt new link ((last input).ends link).server
  server_after input new link id at same = server_same world new link (before.ends link).server ((last input).ends link).server (ap (λ l. slice_get l link) same) (node_laws.partner (map (node_call site connection) (done input).calls) before link) (are.servers link id at)

  -- what the interlocking does in a step is a list of calls at its ends
  pub station_follows : (input : ixl.Input) → MayComeIn laws client_laws site are_links world.time connection now before start steps table input → FollowsBy site (interlocking_events site table input connection world.interlocking) (interlocking_stepped site table input world) before
  unfolding interlocking_stepped
  station_follows input may =
      let on = reached input may
      in record {
        may = on.may;
        are = record {
          time_is = on.tells.time_is;
          sent_is = sym on.tells.sent_is;
          clients = λ link id at. client_after input (interlocking_stepped site table input world) link (below_links site link id at) on refl refl refl;
          servers = λ link id at. server_after input (interlocking_stepped site table input world) link id at refl;
        };
      }
