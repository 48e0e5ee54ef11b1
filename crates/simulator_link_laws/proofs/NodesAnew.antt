-- Each node made anew, by its number.
use Rattle.std.proofs.Common.{◌≡◌, ℕ, ◌<◌, List, ◌++◌, length, map, Option, Some, None, slice_get, slice_index_or, refl, sym, ap, subst, ◌∙◌}
use Rattle.simulator_spec.specs.layout.Entries.{DetectorEntry, Site}
use Rattle.simulator_spec.specs.layout.declared.entries.Point.{Point as PointEntry}
use Rattle.simulator_spec.specs.layout.declared.entries.Signal.{Signal as SignalEntry}
use Rattle.simulator_spec.specs.sci_telegram.declared.message.Position.TheVariants as positions
use Rattle.simulator_spec.specs.object_host.Behaviour.{Behaviour}
use Rattle.simulator_spec.specs.object_host.Host.{keeping}
use Rattle.simulator_spec.specs.signal_ctl.Signal.{SignalState, signal_behaviour}
use Rattle.simulator_spec.specs.point_ctl.Controlled.{point_behaviour}
use Rattle.simulator_spec.specs.point_ctl.Drive.{PointState}
use Rattle.simulator_spec.specs.tds_ctl.Controlled.{detection_behaviour}
use Rattle.simulator_spec.specs.tds_ctl.declared.section.Section.{Section}
use Rattle.simulator_spec.specs.object_host.Hosted.{new_host}
use Rattle.simulator_spec.specs.rasta_core.EachLink.{AreTimely}
use Rattle.simulator_spec.specs.rasta_core.Links.{Links}
use Rattle.simulator_spec.specs.rasta_core.Names.{identity_of}
use Rattle.simulator_spec.specs.rasta_core.identity.Role.TheVariants as role
use Rattle.simulator_spec.specs.ixl_spec.Table.{Table}
use Rattle.simulator_spec.specs.First.{Beginning, host_of, new_detector, new_point, new_signal}
use Rattle.simulator_spec.specs.Happens.{detector_anew, made_anew, point_anew, signal_anew}
use Rattle.simulator_spec.specs.Links.{AreLinksOf, end_of_server, names_at}
use Rattle.simulator_spec.specs.Nodes.{Node, Interlocking, Signal, Point, Detector, detector_link, links, names_of, point_link}
use Rattle.simulator_spec.specs.Controllers.{controller_anew}
use Rattle.simulator_spec.specs.State.{ClockedControllerState, WorldState}
use Rattle.simulator_link_laws.proofs.Anew.{IsMadeAnew, NodeRestarts, restart_follows, station_follows_anew}
use Rattle.simulator_link_laws.proofs.ByKind.{detector_there, detectors_set, point_there, points_set, signal_there, signals_set, stays_follows}
use Rattle.simulator_link_laws.proofs.Laws.{LinkLaws}
use Rattle.simulator_link_laws.proofs.Lists.{changed_one, some_within, within_some}
use Rattle.simulator_link_laws.proofs.Partners.{detector_partner, point_partner, signal_partner}
use Rattle.simulator_link_laws.specs.Events.{FollowsBy, anew_events, restart_events}
use Rattle.simulator_link_laws.specs.Whole.{IsWhole}

-- a host that was just made, in the state of a world
made_host : {Object : Type 0} (does : Behaviour Object) (site : Site) (begins : Beginning) (name : List ℕ) (id : ℕ) (object : Object) (moment : ℕ) (old : ClockedControllerState Object)
    → IsMadeAnew (identity_of role.Server (names_of site id)) begins.clock begins.first moment (end_of_server old) (end_of_server (controller_anew (host_of does site begins name id object) begins.clock moment old))
unfolding controller_anew new_host keeping
made_host does site begins name id object moment old = record { link_is = refl; clock_is = refl; connection_is = refl; left_is = refl }

module _ (laws : LinkLaws) (node : NodeRestarts) (site : Site) (table : Table) (begins : Beginning) (world : WorldState) (before : Links)
    (whole : IsWhole site world) (timely : AreTimely (links site) (names_at site) before) (are : AreLinksOf site world before) where
  abbrev moment : ℕ
  moment = length world.sent

  signal_restarts : (place : ℕ) (entry : Option SignalEntry) → slice_get site.signals place ≡ entry → FollowsBy site (anew_events begins.clock begins.first place entry) (signal_anew site begins place entry world) before
  signal_restarts place None at = stays_follows site world before are
  signal_restarts place (Some entry) at = from (some_within world.signals place (subst (λ n. place < n) (sym whole.signals) (within_some site.signals place entry at))) where
    from : (server : ClockedControllerState SignalState) × (slice_get world.signals place ≡ Some server) → FollowsBy site (anew_events begins.clock begins.first place (Some entry)) (signal_anew site begins place (Some entry) world) before
    from (server, is) =
        let next = controller_anew (new_signal site begins entry) begins.clock (length world.sent)
        in restart_follows laws site world (signal_anew site begins place (Some entry) world) before place entry.id begins.clock begins.first (end_of_server server) (end_of_server (next server)) timely are
        (signal_partner site place entry at) (signal_there site world whole place server is) (made_host signal_behaviour site begins entry.name entry.id _ (length world.sent) server) refl refl refl
        (ap (λ l. map end_of_server l ++ (map end_of_server world.points ++ map end_of_server world.detectors)) (changed_one next place world.signals server is)
        ∙ signals_set site world whole place (next server) (within_some world.signals place server is))

  point_restarts : (place : ℕ) (entry : Option PointEntry) → slice_get site.points place ≡ entry → FollowsBy site (anew_events begins.clock begins.first (point_link site place) entry) (point_anew site begins place entry world) before
  point_restarts place None at = stays_follows site world before are
  point_restarts place (Some entry) at = from (some_within world.points place (subst (λ n. place < n) (sym whole.points) (within_some site.points place entry at))) where
    from : (server : ClockedControllerState PointState) × (slice_get world.points place ≡ Some server) → FollowsBy site (anew_events begins.clock begins.first (point_link site place) (Some entry)) (point_anew site begins place (Some entry) world) before
    from (server, is) =
        let next = controller_anew (new_point site begins (slice_index_or world.positions place positions.NoEndPosition) entry) begins.clock (length world.sent)
        in restart_follows laws site world (point_anew site begins place (Some entry) world) before (point_link site place) entry.id begins.clock begins.first (end_of_server server) (end_of_server (next server)) timely are
        (point_partner site place entry at) (point_there site world whole place server is) (made_host point_behaviour site begins entry.name entry.id _ (length world.sent) server) refl refl refl
        (ap (λ l. map end_of_server world.signals ++ (map end_of_server l ++ map end_of_server world.detectors)) (changed_one next place world.points server is)
        ∙ points_set site world whole place (next server) (within_some world.points place server is))

  detector_restarts : (place : ℕ) (entry : Option DetectorEntry) → slice_get site.detectors place ≡ entry → FollowsBy site (anew_events begins.clock begins.first (detector_link site place) entry) (detector_anew site begins place entry world) before
  detector_restarts place None at = stays_follows site world before are
  detector_restarts place (Some entry) at = from (some_within world.detectors place (subst (λ n. place < n) (sym whole.detectors) (within_some site.detectors place entry at))) where
    from : (server : ClockedControllerState (List Section)) × (slice_get world.detectors place ≡ Some server) → FollowsBy site (anew_events begins.clock begins.first (detector_link site place) (Some entry)) (detector_anew site begins place (Some entry) world) before
    from (server, is) =
        let next = controller_anew (new_detector site begins world.occupancies entry) begins.clock (length world.sent)
        in restart_follows laws site world (detector_anew site begins place (Some entry) world) before (detector_link site place) entry.id begins.clock begins.first (end_of_server server) (end_of_server (next server)) timely are
        (detector_partner site place entry at) (detector_there site world whole place server is) (made_host detection_behaviour site begins entry.name entry.id _ (length world.sent) server) refl refl refl
        (ap (λ l. map end_of_server world.signals ++ (map end_of_server world.points ++ map end_of_server l)) (changed_one next place world.detectors server is)
        ∙ detectors_set site world whole place (next server))

  pub restarts_follow : (at : Option Node) → FollowsBy site (restart_events site begins.clock begins.first at) (made_anew site table begins at world) before
  restarts_follow None = stays_follows site world before are
  restarts_follow (Some Interlocking) = station_follows_anew node site table begins world before timely are
  restarts_follow (Some (Signal place)) = signal_restarts place (slice_get site.signals place) refl
  restarts_follow (Some (Point place)) = point_restarts place (slice_get site.points place) refl
  restarts_follow (Some (Detector place)) = detector_restarts place (slice_get site.detectors place) refl
