-- Each controller makes a step.
use Rattle.std.proofs.Common.{◌≡◌, ℕ, suc, ◌<◌, List, [], ◌∷◌, ◌++◌, length, Option, Some, None, slice_get, slice_set, refl, sym, subst}
use Rattle.simulator_spec.specs.layout.Entries.{DetectorEntry, Site}
use Rattle.simulator_spec.specs.layout.declared.entries.Point.{Point as PointEntry}
use Rattle.simulator_spec.specs.layout.declared.entries.Signal.{Signal as SignalEntry}
use Rattle.simulator_spec.specs.object_host.Behaviour.{Behaviour}
use Rattle.simulator_spec.specs.object_host.Host.{HostState}
use Rattle.simulator_spec.specs.object_host.Made.{AreCallsFor, IsMadeOf}
use Rattle.simulator_spec.specs.object_host.Step.{host_step}
use Rattle.simulator_spec.specs.object_host.declared.input.Input.{Input}
use Rattle.simulator_spec.specs.rasta_core.Clock.{settled}
use Rattle.simulator_spec.specs.rasta_core.EachLink.{AreTimely}
use Rattle.simulator_spec.specs.rasta_core.Ends.{reading_of}
use Rattle.simulator_spec.specs.rasta_core.Links.{AreLinks, Links}
use Rattle.simulator_spec.specs.sci_telegram.Names.{IsName}
use Rattle.simulator_spec.specs.signal_ctl.Signal.{SignalState, signal_behaviour}
use Rattle.simulator_spec.specs.point_ctl.Controlled.{point_behaviour}
use Rattle.simulator_spec.specs.point_ctl.Drive.{PointState}
use Rattle.simulator_spec.specs.tds_ctl.Controlled.{detection_behaviour}
use Rattle.simulator_spec.specs.tds_ctl.declared.section.Section.{Section}
use Rattle.simulator_spec.specs.Happens.{detector_stepped, point_stepped, signal_stepped, stepped_at}
use Rattle.simulator_spec.specs.Links.{AreLinksOf, names_at}
use Rattle.simulator_spec.specs.Nodes.{detector_link, links, point_link}
use Rattle.simulator_spec.specs.Controllers.{controller_after, sent_by_controller, step_of}
use Rattle.simulator_spec.specs.State.{ClockedControllerState, WorldState}
use Rattle.simulator_link_laws.proofs.ByKind.{detector_there, detectors_set, point_there, points_set, signal_there, signals_set, stays_follows}
use Rattle.simulator_link_laws.proofs.Controllers.{MayCome, controller_follows}
use Rattle.simulator_link_laws.proofs.HostItems.{TelegramsAreItems, step_is_sound}
use Rattle.simulator_link_laws.proofs.Laws.{CallLaws, LinkLaws, ServerLaws}
use Rattle.simulator_link_laws.proofs.Lists.{some_within, within_some}
use Rattle.simulator_link_laws.proofs.Partners.{detector_partner, point_partner, signal_partner}
use Rattle.simulator_link_laws.proofs.ToldOfThemselves.{AnyPoint, AnySignal, AreSectionsNamed, detectors_tell, points_tell, signals_tell}
use Rattle.simulator_link_laws.specs.Events.{FollowsBy, detector_events, host_events, point_events, signal_events}
use Rattle.simulator_link_laws.specs.Whole.{IsWhole}

-- the laws of a host
pub record HostLaws {Object : Type 0} (does : Behaviour Object) : Type 0 where
  pub calls_for : (now : ℕ) (input : Input) (host : HostState Object) → AreCallsFor input (host_step does now input host).calls
  pub made_of : (now : ℕ) (input : Input) (host : HostState Object) → IsMadeOf now (settled now host.link) (host_step does now input host)

pub each_named : (sections : List Section) → ((place : ℕ) (section : Section) → slice_get sections place ≡ Some section → IsName section.name) → AreSectionsNamed sections
each_named [] named = tt
each_named (first ∷ others) named = (named 0 first refl, each_named others (λ place section at. named (suc place) section at))

module _ (laws : LinkLaws) (calling : CallLaws) (serving : ServerLaws) (written : TelegramsAreItems)
    (site : Site) (are_links : AreLinks (links site) (names_at site)) (world : WorldState) (before : Links)
    (whole : IsWhole site world) (timely : AreTimely (links site) (names_at site) before) (are : AreLinksOf site world before) where
  -- ---- signals

  module _ (host : HostLaws signal_behaviour) where
    signal_is : (input : Input) (connection place : ℕ) (server : ClockedControllerState SignalState) → slice_get world.signals place ≡ Some server → signal_stepped site input connection place world ≡ record world {
      signals = slice_set world.signals place (controller_after (step_of signal_behaviour input server) connection (length world.sent) server);
      sent = world.sent ++ sent_by_controller (step_of signal_behaviour input server) world.time place server (controller_after (step_of signal_behaviour input server) connection (length world.sent) server);
    }
    unfolding signal_stepped stepped_at
    signal_is input connection place server is = rw is refl

    signal_none : (input : Input) (connection place : ℕ) → slice_get world.signals place ≡ None → signal_stepped site input connection place world ≡ world
    unfolding signal_stepped stepped_at
    signal_none input connection place is = rw is refl

    pub signal_follows : (input : Input) (connection place : ℕ) → (link_may : place < length site.signals → MayCome (names_at site place) input connection before) → FollowsBy site (signal_events input connection place world) (signal_stepped site input connection place world) before
    signal_follows input connection place may = cases (slice_get world.signals place) refl where
      step : (server : ClockedControllerState SignalState) → slice_get world.signals place ≡ Some server → (entry : SignalEntry) → slice_get site.signals place ≡ Some entry → FollowsBy site (host_events signal_behaviour input connection place (Some server)) (record world {
        signals = slice_set world.signals place (controller_after (step_of signal_behaviour input server) connection (length world.sent) server);
        sent = world.sent ++ sent_by_controller (step_of signal_behaviour input server) world.time place server (controller_after (step_of signal_behaviour input server) connection (length world.sent) server);
      }) before
      step server is entry at = controller_follows signal_behaviour host.calls_for host.made_of laws calling serving site are_links world before timely are _ place entry.id server input connection
          (signal_partner site place entry at) (signal_there site world whole place server is)
          (step_is_sound signal_behaviour AnySignal signals_tell written (reading_of server.clock) input server.host (record { named = whole.signals_named place server is; good = tt })).items
          (may (within_some site.signals place entry at)) refl refl
          (signals_set site world whole place _ (within_some world.signals place server is)) refl

      cases : (found : Option (ClockedControllerState SignalState)) → slice_get world.signals place ≡ found → FollowsBy site (host_events signal_behaviour input connection place found) (signal_stepped site input connection place world) before
      cases None is = subst (λ w. FollowsBy site [] w before) (sym (signal_none input connection place is)) (stays_follows site world before are)
      cases (Some server) is =
          let entry = some_within site.signals place (subst (λ n. place < n) whole.signals (within_some world.signals place server is))
          in subst (λ w. FollowsBy site (host_events signal_behaviour input connection place (Some server)) w before) (sym (signal_is input connection place server is)) (step server is entry.0 entry.1)

  -- ---- points

  module _ (host : HostLaws point_behaviour) where
    point_is : (input : Input) (connection place : ℕ) (server : ClockedControllerState PointState) → slice_get world.points place ≡ Some server → point_stepped site input connection place world ≡ record world {
      points = slice_set world.points place (controller_after (step_of point_behaviour input server) connection (length world.sent) server);
      sent = world.sent ++ sent_by_controller (step_of point_behaviour input server) world.time (point_link site place) server (controller_after (step_of point_behaviour input server) connection (length world.sent) server);
    }
    unfolding point_stepped stepped_at
    point_is input connection place server is = rw is refl

    point_none : (input : Input) (connection place : ℕ) → slice_get world.points place ≡ None → point_stepped site input connection place world ≡ world
    unfolding point_stepped stepped_at
    point_none input connection place is = rw is refl

    pub point_follows : (input : Input) (connection place : ℕ) → (link_may : place < length site.points → MayCome (names_at site (point_link site place)) input connection before) → FollowsBy site (point_events site input connection place world) (point_stepped site input connection place world) before
    point_follows input connection place may = cases (slice_get world.points place) refl where
      step : (server : ClockedControllerState PointState) → slice_get world.points place ≡ Some server → (entry : PointEntry) → slice_get site.points place ≡ Some entry → FollowsBy site (host_events point_behaviour input connection (point_link site place) (Some server)) (record world {
        points = slice_set world.points place (controller_after (step_of point_behaviour input server) connection (length world.sent) server);
        sent = world.sent ++ sent_by_controller (step_of point_behaviour input server) world.time (point_link site place) server (controller_after (step_of point_behaviour input server) connection (length world.sent) server);
      }) before
      step server is entry at = controller_follows point_behaviour host.calls_for host.made_of laws calling serving site are_links world before timely are _ (point_link site place) entry.id server input connection
          (point_partner site place entry at) (point_there site world whole place server is)
          (step_is_sound point_behaviour AnyPoint points_tell written (reading_of server.clock) input server.host (record { named = whole.points_named place server is; good = tt })).items
          (may (within_some site.points place entry at)) refl refl
          (points_set site world whole place _ (within_some world.points place server is)) refl

      cases : (found : Option (ClockedControllerState PointState)) → slice_get world.points place ≡ found → FollowsBy site (host_events point_behaviour input connection (point_link site place) found) (point_stepped site input connection place world) before
      cases None is = subst (λ w. FollowsBy site [] w before) (sym (point_none input connection place is)) (stays_follows site world before are)
      cases (Some server) is =
          let entry = some_within site.points place (subst (λ n. place < n) whole.points (within_some world.points place server is))
          in subst (λ w. FollowsBy site (host_events point_behaviour input connection (point_link site place) (Some server)) w before) (sym (point_is input connection place server is)) (step server is entry.0 entry.1)

  -- ---- detectors

  module _ (host : HostLaws detection_behaviour) where
    detector_is : (input : Input) (connection place : ℕ) (server : ClockedControllerState (List Section)) → slice_get world.detectors place ≡ Some server → detector_stepped site input connection place world ≡ record world {
      detectors = slice_set world.detectors place (controller_after (step_of detection_behaviour input server) connection (length world.sent) server);
      sent = world.sent ++ sent_by_controller (step_of detection_behaviour input server) world.time (detector_link site place) server (controller_after (step_of detection_behaviour input server) connection (length world.sent) server);
    }
    unfolding detector_stepped stepped_at
    detector_is input connection place server is = rw is refl

    detector_none : (input : Input) (connection place : ℕ) → slice_get world.detectors place ≡ None → detector_stepped site input connection place world ≡ world
    unfolding detector_stepped stepped_at
    detector_none input connection place is = rw is refl

    pub detector_follows : (input : Input) (connection place : ℕ) → (link_may : place < length site.detectors → MayCome (names_at site (detector_link site place)) input connection before) → FollowsBy site (detector_events site input connection place world) (detector_stepped site input connection place world) before
    detector_follows input connection place may = cases (slice_get world.detectors place) refl where
      step : (server : ClockedControllerState (List Section)) → slice_get world.detectors place ≡ Some server → (entry : DetectorEntry) → slice_get site.detectors place ≡ Some entry → FollowsBy site (host_events detection_behaviour input connection (detector_link site place) (Some server)) (record world {
        detectors = slice_set world.detectors place (controller_after (step_of detection_behaviour input server) connection (length world.sent) server);
        sent = world.sent ++ sent_by_controller (step_of detection_behaviour input server) world.time (detector_link site place) server (controller_after (step_of detection_behaviour input server) connection (length world.sent) server);
      }) before
      step server is entry at = controller_follows detection_behaviour host.calls_for host.made_of laws calling serving site are_links world before timely are _ (detector_link site place) entry.id server input connection
          (detector_partner site place entry at) (detector_there site world whole place server is)
          (step_is_sound detection_behaviour AreSectionsNamed detectors_tell written (reading_of server.clock) input server.host
          (record { named = whole.detectors_named place server is; good = each_named server.host.object (whole.sections_named place server is) })).items
          (may (within_some site.detectors place entry at)) refl refl
          (detectors_set site world whole place _) refl

      cases : (found : Option (ClockedControllerState (List Section))) → slice_get world.detectors place ≡ found → FollowsBy site (host_events detection_behaviour input connection (detector_link site place) found) (detector_stepped site input connection place world) before
      cases None is = subst (λ w. FollowsBy site [] w before) (sym (detector_none input connection place is)) (stays_follows site world before are)
      cases (Some server) is =
          let entry = some_within site.detectors place (subst (λ n. place < n) whole.detectors (within_some world.detectors place server is))
          in subst (λ w. FollowsBy site (host_events detection_behaviour input connection (detector_link site place) (Some server)) w before) (sym (detector_is input connection place server is)) (step server is entry.0 entry.1)
