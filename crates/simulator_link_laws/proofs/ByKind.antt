-- The controllers of each kind, at the places of their links.
use Rattle.std.proofs.Common.{◌≡◌, ℕ, ◌+◌, ◌<◌, List, [], ◌++◌, length, map, Some, option_map, slice_get, slice_set, refl, sym, ap, subst, ◌∙◌, arith}
use Rattle.simulator_spec.specs.layout.Entries.{Site}
use Rattle.simulator_spec.specs.rasta_core.Links.{Links, LinksEvent}
use Rattle.simulator_spec.specs.signal_ctl.Signal.{SignalState}
use Rattle.simulator_spec.specs.point_ctl.Drive.{PointState}
use Rattle.simulator_spec.specs.tds_ctl.declared.section.Section.{Section}
use Rattle.simulator_spec.specs.Links.{AreLinksOf, ServerEnd, end_of_server, server_ends}
use Rattle.simulator_spec.specs.Nodes.{detector_link, point_link}
use Rattle.simulator_spec.specs.State.{ClockedControllerState, WorldState}
use Rattle.simulator_link_laws.proofs.Lists.{get_left, get_map, get_right, length_map, map_set, within_some}
use Rattle.simulator_link_laws.proofs.Places.{first_set, second_set, third_set}
use Rattle.simulator_link_laws.specs.Events.{FollowsBy}
use Rattle.simulator_link_laws.specs.Follows.{Follows}
use Rattle.simulator_link_laws.specs.Whole.{IsWhole}

-- events that are told are some
pub followed : (site : Site) (events : List LinksEvent) (new : WorldState) (before : Links) → FollowsBy site events new before → Follows site new before
followed site events new before by = record { events = events; may = by.may; are = by.are }

-- nothing happens to the links
pub stays_follows : (site : Site) (world : WorldState) (before : Links) → AreLinksOf site world before → FollowsBy site [] world before
stays_follows site world before are = record { may = tt; are = are }

module _ (site : Site) (world : WorldState) (whole : IsWhole site world) where
  abbrev signals : List ServerEnd
  signals = map end_of_server world.signals

  abbrev points : List ServerEnd
  points = map end_of_server world.points

  abbrev detectors : List ServerEnd
  detectors = map end_of_server world.detectors

  pub signal_there : (place : ℕ) (server : ClockedControllerState SignalState) → slice_get world.signals place ≡ Some server → slice_get (server_ends world) place ≡ Some (end_of_server server)
  signal_there place server at =
      let found = get_map end_of_server world.signals place ∙ ap (option_map end_of_server) at
      in get_left signals (points ++ detectors) place (within_some signals place (end_of_server server) found) ∙ found

  pub point_there : (place : ℕ) (server : ClockedControllerState PointState) → slice_get world.points place ≡ Some server → slice_get (server_ends world) (point_link site place) ≡ Some (end_of_server server)
  point_there place server at =
      let found = get_map end_of_server world.points place ∙ ap (option_map end_of_server) at
      in get_right signals (points ++ detectors) place (point_link site place) (ap (λ n. n + place) (sym (length_map end_of_server world.signals ∙ whole.signals)))
      ∙ get_left points detectors place (within_some points place (end_of_server server) found) ∙ found

  pub detector_there : (place : ℕ) (server : ClockedControllerState (List Section)) → slice_get world.detectors place ≡ Some server → slice_get (server_ends world) (detector_link site place) ≡ Some (end_of_server server)
  detector_there place server at =
      let found = get_map end_of_server world.detectors place ∙ ap (option_map end_of_server) at
      in get_right signals (points ++ detectors) (length points + place) (detector_link site place)
      (sums (length site.signals) (length site.points) (length signals) (length points) place (length_map end_of_server world.signals ∙ whole.signals) (length_map end_of_server world.points ∙ whole.points))
      ∙ get_right points detectors place (length points + place) refl ∙ found
    where
      sums : (a b c d n : ℕ) → c ≡ a → d ≡ b → a + b + n ≡ c + (d + n)
      sums a b c d n p q = omega arith

  pub signals_set : (place : ℕ) (server : ClockedControllerState SignalState) → place < length world.signals
      → map end_of_server (slice_set world.signals place server) ++ (points ++ detectors) ≡ slice_set (server_ends world) place (end_of_server server)
  signals_set place server within = ap (λ l. l ++ (points ++ detectors)) (map_set end_of_server world.signals place server)
      ∙ first_set signals points detectors place (end_of_server server) (subst (λ n. place < n) (sym (length_map end_of_server world.signals)) within)

  pub points_set : (place : ℕ) (server : ClockedControllerState PointState) → place < length world.points
      → signals ++ (map end_of_server (slice_set world.points place server) ++ detectors) ≡ slice_set (server_ends world) (point_link site place) (end_of_server server)
  points_set place server within = ap (λ l. signals ++ (l ++ detectors)) (map_set end_of_server world.points place server)
      ∙ second_set signals points detectors place (point_link site place) (end_of_server server) (subst (λ n. place < n) (sym (length_map end_of_server world.points)) within)
      (ap (λ n. n + place) (sym (length_map end_of_server world.signals ∙ whole.signals)))

  pub detectors_set : (place : ℕ) (server : ClockedControllerState (List Section))
      → signals ++ (points ++ map end_of_server (slice_set world.detectors place server)) ≡ slice_set (server_ends world) (detector_link site place) (end_of_server server)
  detectors_set place server = ap (λ l. signals ++ (points ++ l)) (map_set end_of_server world.detectors place server)
      ∙ third_set signals points detectors place (detector_link site place) (end_of_server server)
      (ap (λ n. n + length site.points + place) (sym (length_map end_of_server world.signals ∙ whole.signals)) ∙ ap (λ n. length signals + n + place) (sym (length_map end_of_server world.points ∙ whole.points)))
