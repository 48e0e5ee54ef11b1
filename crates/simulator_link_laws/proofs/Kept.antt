-- The nodes of signals and points at the ends of their links.
use Rattle.std.proofs.Common.{◌≡◌, ℕ, ◌+◌, ◌<◌, List, ◌++◌, length, map, Some, option_map, slice_get, sym, ap, subst, ◌∙◌, arith}
use Rattle.std.proofs.lemmas.Option.{same_Some}
use Rattle.simulator_spec.specs.layout.Entries.{Site}
use Rattle.simulator_spec.specs.ixl_client.Client.{ClientState}
use Rattle.simulator_spec.specs.ixl_spec.State.{KnownDetectorState, KnownSignalState, KnownPointState}
use Rattle.simulator_spec.specs.rasta_core.Clock.{settled}
use Rattle.simulator_spec.specs.rasta_core.Ends.{reading_of}
use Rattle.simulator_spec.specs.rasta_core.Links.{Links}
use Rattle.simulator_spec.specs.signal_ctl.Signal.{SignalState}
use Rattle.simulator_spec.specs.point_ctl.Drive.{PointState}
use Rattle.simulator_spec.specs.Links.{AreLinksOf, IsClientAt, end_of_server, server_ends}
use Rattle.simulator_spec.specs.Nodes.{links, point_link}
use Rattle.simulator_spec.specs.State.{ClockedControllerState, WorldState}
use Rattle.simulator_link_laws.proofs.ByKind.{point_there, signal_there}
use Rattle.simulator_link_laws.proofs.Lists.{get_left, get_map, get_right, length_map, within_some}
use Rattle.simulator_link_laws.proofs.Partners.{partner_at}
use Rattle.simulator_link_laws.proofs.Places.{IsKept, kept_at}
use Rattle.simulator_link_laws.proofs.Station.{link_there}
use Rattle.simulator_link_laws.specs.Nodes.{IsEndOfClient, IsEndOfServer}
use Rattle.simulator_link_laws.specs.Whole.{IsWhole, client_states}

module _ (site : Site) (world : WorldState) (network : Links) (whole : IsWhole site world) (are : AreLinksOf site world network) where
  -- ---- controllers

  of_server : {Object : Type 0} (link : ℕ) (server : ClockedControllerState Object) → link < links site → slice_get (server_ends world) link ≡ Some (end_of_server server) → IsEndOfServer server (network.ends link).server
  of_server link server below there =
      let partner = partner_at site link below
      in let is : IsKept (end_of_server server) (network.ends link).server = kept_at world link (network.ends link).server (end_of_server server) (are.servers link partner.0 partner.1) there
      in record { link_is = is.link_is; clock_is = is.clock_is; connection_is = is.connection_is }

  signal_below : (place : ℕ) → place < length world.signals → place < links site
  signal_below place within = sums (length site.signals) (length site.points) (length site.detectors) (subst (λ n. place < n) whole.signals within) where
    sums : (a b c : ℕ) → place < a → place < a + b + c
    sums a b c below = omega arith

  point_below : (place : ℕ) → place < length world.points → point_link site place < links site
  point_below place within = sums (length site.signals) (length site.points) (length site.detectors) (subst (λ n. place < n) whole.points within) where
    sums : (a b c : ℕ) → place < b → a + place < a + b + c
    sums a b c below = omega arith

  pub signal_end : (place : ℕ) (server : ClockedControllerState SignalState) → slice_get world.signals place ≡ Some server → (place < links site) × IsEndOfServer server (network.ends place).server
  signal_end place server is =
      let below = signal_below place (within_some world.signals place server is)
      in (below, of_server place server below (signal_there site world whole place server is))

  pub point_end : (place : ℕ) (server : ClockedControllerState PointState) → slice_get world.points place ≡ Some server → (point_link site place < links site) × IsEndOfServer server (network.ends (point_link site place)).server
  point_end place server is =
      let below = point_below place (within_some world.points place server is)
      in (below, of_server (point_link site place) server below (point_there site world whole place server is))

  -- ---- the interlocking's clients

  abbrev known_signals : List ClientState
  known_signals = map (λ (known_signal : KnownSignalState). known_signal.client) world.interlocking.ixl.known_signals

  abbrev known_points : List ClientState
  known_points = map (λ (known_point : KnownPointState). known_point.client) world.interlocking.ixl.known_points

  abbrev detectors : List ClientState
  detectors = map (λ (detector : KnownDetectorState). detector.client) world.interlocking.ixl.detectors

  of_client : (link : ℕ) (client : ClientState) → link < links site → slice_get (client_states world.interlocking.ixl) link ≡ Some client → IsEndOfClient world.interlocking client (network.ends link).client
  of_client link client below there =
      let partner = partner_at site link below
      in let is : IsClientAt world link (network.ends link).client = are.clients link partner.0 partner.1
      in let same : is.kept ≡ client.link = same_Some is.kept client.link (sym is.there ∙ link_there world.interlocking.ixl link client there)
      in record { link_is = is.link_is ∙ ap (settled (reading_of world.interlocking.clock)) same; clock_is = is.clock_is; peer = whole.clients.peers link client there }

  -- a client's last connection is the one that the interlocking began there last
  pub connection_end : (link : ℕ) → link < links site → slice_get world.interlocking.connections link ≡ Some (network.ends link).client.connection
  connection_end link below = let partner = partner_at site link below in (are.clients link partner.0 partner.1).connection_is

  known_signals_long : length known_signals ≡ length site.signals
  known_signals_long = length_map (λ (known_signal : KnownSignalState). known_signal.client) world.interlocking.ixl.known_signals ∙ whole.clients.known_signals

  pub known_signal_end : (place : ℕ) (known_signal : KnownSignalState) → slice_get world.interlocking.ixl.known_signals place ≡ Some known_signal → (place < links site) × IsEndOfClient world.interlocking known_signal.client (network.ends place).client
  known_signal_end place known_signal is =
      let found : slice_get known_signals place ≡ Some known_signal.client = get_map (λ (l : KnownSignalState). l.client) world.interlocking.ixl.known_signals place ∙ ap (option_map (λ (l : KnownSignalState). l.client)) is
      in let within = within_some known_signals place known_signal.client found
      in let below = sums (length site.signals) (length site.points) (length site.detectors) (subst (λ n. place < n) known_signals_long within)
      in (below, of_client place known_signal.client below (get_left known_signals (known_points ++ detectors) place within ∙ found))
    where
      sums : (a b c : ℕ) → place < a → place < a + b + c
      sums a b c below = omega arith

  pub known_point_end : (place : ℕ) (known_point : KnownPointState) → slice_get world.interlocking.ixl.known_points place ≡ Some known_point
      → (point_link site place < links site) × IsEndOfClient world.interlocking known_point.client (network.ends (point_link site place)).client
  known_point_end place known_point is =
      let found : slice_get known_points place ≡ Some known_point.client = get_map (λ (s : KnownPointState). s.client) world.interlocking.ixl.known_points place ∙ ap (option_map (λ (s : KnownPointState). s.client)) is
      in let within = within_some known_points place known_point.client found
      in let long : length known_points ≡ length site.points = length_map (λ (s : KnownPointState). s.client) world.interlocking.ixl.known_points ∙ whole.clients.known_points
      in let below = sums (length site.signals) (length site.points) (length site.detectors) (subst (λ n. place < n) long within)
      in (
        below,
        of_client (point_link site place) known_point.client below
            (get_right known_signals (known_points ++ detectors) place (point_link site place) (ap (λ n. n + place) (sym known_signals_long)) ∙ get_left known_points detectors place within ∙ found),
      )
    where
      sums : (a b c : ℕ) → place < b → a + place < a + b + c
      sums a b c below = omega arith
