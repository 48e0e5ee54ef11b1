-- Every event keeps the nodes of a world whole.
use Rattle.std.proofs.Common.{◌≡◌, ◌≢◌, ◌⊎◌, inl, inr, ℕ, zero, suc, ◌<◌, List, [], ◌∷◌, ◌++◌, length, Option, Some, None, slice_get, slice_set, refl, sym, ap, subst, ◌∙◌}
use Rattle.std.proofs.lemmas.Option.{same_Some}
use Rattle.simulator_spec.specs.layout.Entries.{Site}
use Rattle.simulator_spec.specs.object_host.Host.{HostState, HostSoFar}
use Rattle.simulator_spec.specs.object_host.declared.input.Input.{Input}
use Rattle.simulator_spec.specs.rasta_core.Ends.{reading_of}
use Rattle.simulator_spec.specs.signal_ctl.Signal.{SignalState, signal_behaviour}
use Rattle.simulator_spec.specs.point_ctl.Controlled.{point_behaviour}
use Rattle.simulator_spec.specs.point_ctl.Drive.{PointState}
use Rattle.simulator_spec.specs.tds_ctl.Controlled.{detection_behaviour}
use Rattle.simulator_spec.specs.tds_ctl.declared.section.Section.{Section}
use Rattle.simulator_spec.specs.sci_telegram.Names.{IsName}
use Rattle.simulator_spec.specs.Happens.{all_later, detector_stepped, passed, point_stepped, signal_stepped, stepped_at}
use Rattle.simulator_spec.specs.Nodes.{detector_link, point_link}
use Rattle.simulator_spec.specs.Controllers.{controller_after, controller_later, sent_by_controller, step_of}
use Rattle.simulator_spec.specs.State.{ClockedControllerState, WorldState}
use Rattle.simulator_link_laws.proofs.HostItems.{TelegramsAreItems, step_is_sound}
use Rattle.simulator_link_laws.proofs.Lists.{get_set, get_set_other, length_set, same_or_other, within_some}
use Rattle.simulator_link_laws.proofs.Steps.{each_named}
use Rattle.simulator_link_laws.proofs.ToldOfThemselves.{AnyPoint, AnySignal, AreSectionsNamed, detectors_tell, points_tell, signals_tell}
use Rattle.simulator_link_laws.specs.Whole.{HasSections, IsNamed, IsWhole}

-- a fact of each place of a list
abbrev pub AllAt : {A : Type 0} → (A → Type 0) → List A → Type 0
AllAt {A} P list = (place : ℕ) (one : A) → slice_get list place ≡ Some one → P one

all_set : {A : Type 0} (P : A → Type 0) (list : List A) (place : ℕ) (new : A) → P new → AllAt P list → AllAt P (slice_set list place new)
all_set P list place new is all other one at = by_place (same_or_other other place) where
  by_place : (other ≡ place) ⊎ (other ≢ place) → P one
  by_place (inr differ) = all other one (sym (get_set_other list place other new differ) ∙ at)
  by_place (inl same) = subst P (same_Some new one (sym (get_set list place new within) ∙ ap (slice_get (slice_set list place new)) (sym same) ∙ at)) is where
    within : place < length list
    within = subst (λ n. n < length list) same (subst (λ n. other < n) (length_set list place new) (within_some (slice_set list place new) other one at))

-- ---- time

later_length : {Object : Type 0} (moment : ℕ) (steps : List ℕ) (servers : List (ClockedControllerState Object)) → length (all_later moment steps servers) ≡ length servers
later_length moment steps [] = refl
later_length moment [] (server ∷ servers) = refl
later_length moment (step ∷ steps) (server ∷ servers) = ap suc (later_length moment steps servers)

-- a fact of hosts
later_all : {Object : Type 0} (P : HostState Object → Type 0) (moment : ℕ) (steps : List ℕ) (servers : List (ClockedControllerState Object)) → AllAt (λ server. P server.host) servers → AllAt (λ server. P server.host) (all_later moment steps servers)
unfolding controller_later
later_all P moment steps [] all place one at = absurd (none_is at) where
  none_is : None ≡ Some one → ⊥
  none_is e = cc (e)
later_all P moment [] (server ∷ servers) all place one at = all place one at
later_all P moment (step ∷ steps) (server ∷ servers) all zero one at = subst (λ (s : ClockedControllerState _). P s.host) (same_Some _ one at) (all zero server refl)
later_all P moment (step ∷ steps) (server ∷ servers) all (suc place) one at = later_all P moment steps servers (λ n s is. all (suc n) s is) place one at

pub time_keeps : (site : Site) (elapsed : ℕ) (steps : List ℕ) (world : WorldState) → IsWhole site world → IsWhole site (passed elapsed steps world)
unfolding passed
time_keeps site elapsed steps world whole = record {
  clients = whole.clients;
  connections = whole.connections;
  signals = later_length _ _ world.signals ∙ whole.signals;
  points = later_length _ _ world.points ∙ whole.points;
  detectors = later_length _ _ world.detectors ∙ whole.detectors;
  signals_named = later_all IsNamed _ _ world.signals whole.signals_named;
  points_named = later_all IsNamed _ _ world.points whole.points_named;
  detectors_named = later_all IsNamed _ _ world.detectors whole.detectors_named;
  sections_named = later_all HasSections _ _ world.detectors whole.sections_named;
}

-- ---- steps of controllers

after_host : {Object : Type 0} (done : HostSoFar Object) (connection moment : ℕ) (server : ClockedControllerState Object) → (controller_after done connection moment server).host ≡ done.host
unfolding controller_after
after_host done connection moment server = refl

pub sections_at : (sections : List Section) → AreSectionsNamed sections → AllAt (λ (s : Section). IsName s.name) sections
sections_at [] named place one at = absurd (none_is at) where
  none_is : None ≡ Some one → ⊥
  none_is e = cc (e)
sections_at (first ∷ others) named zero one at = subst (λ (s : Section). IsName s.name) (same_Some first one at) named.0
sections_at (first ∷ others) named (suc place) one at = sections_at others named.1 place one at

module _ (written : TelegramsAreItems) (site : Site) (world : WorldState) (whole : IsWhole site world) where
  signal_to : (input : Input) (connection place : ℕ) (server : ClockedControllerState SignalState) → slice_get world.signals place ≡ Some server → signal_stepped site input connection place world ≡ record world {
    signals = slice_set world.signals place (controller_after (step_of signal_behaviour input server) connection (length world.sent) server);
    sent = world.sent ++ sent_by_controller (step_of signal_behaviour input server) world.time place server (controller_after (step_of signal_behaviour input server) connection (length world.sent) server);
  }
  unfolding signal_stepped stepped_at
  signal_to input connection place server is = rw is refl

  signal_not : (input : Input) (connection place : ℕ) → slice_get world.signals place ≡ None → signal_stepped site input connection place world ≡ world
  unfolding signal_stepped stepped_at
  signal_not input connection place is = rw is refl

  pub signal_keeps : (input : Input) (connection place : ℕ) → IsWhole site (signal_stepped site input connection place world)
  signal_keeps input connection place = cases (slice_get world.signals place) refl where
    cases : (found : Option (ClockedControllerState SignalState)) → slice_get world.signals place ≡ found → IsWhole site (signal_stepped site input connection place world)
    cases None is = subst (IsWhole site) (sym (signal_not input connection place is)) whole
    cases (Some server) is =
        let done = step_of signal_behaviour input server
        in let next = controller_after done connection (length world.sent) server
        in let sound = (step_is_sound signal_behaviour AnySignal signals_tell written (reading_of server.clock) input server.host (record { named = whole.signals_named place server is; good = tt })).sound
        in subst (IsWhole site) (sym (signal_to input connection place server is)) (record {
          clients = whole.clients;
          connections = whole.connections;
          signals = length_set world.signals place next ∙ whole.signals;
          points = whole.points;
          detectors = whole.detectors;
          signals_named = all_set (λ (s : ClockedControllerState SignalState). IsNamed s.host) world.signals place next (subst IsNamed (sym (after_host done connection (length world.sent) server)) sound.named) whole.signals_named;
          points_named = whole.points_named;
          detectors_named = whole.detectors_named;
          sections_named = whole.sections_named;
        })

  point_to : (input : Input) (connection place : ℕ) (server : ClockedControllerState PointState) → slice_get world.points place ≡ Some server → point_stepped site input connection place world ≡ record world {
    points = slice_set world.points place (controller_after (step_of point_behaviour input server) connection (length world.sent) server);
    sent = world.sent ++ sent_by_controller (step_of point_behaviour input server) world.time (point_link site place) server (controller_after (step_of point_behaviour input server) connection (length world.sent) server);
  }
  unfolding point_stepped stepped_at
  point_to input connection place server is = rw is refl

  point_not : (input : Input) (connection place : ℕ) → slice_get world.points place ≡ None → point_stepped site input connection place world ≡ world
  unfolding point_stepped stepped_at
  point_not input connection place is = rw is refl

  pub point_keeps : (input : Input) (connection place : ℕ) → IsWhole site (point_stepped site input connection place world)
  point_keeps input connection place = cases (slice_get world.points place) refl where
    cases : (found : Option (ClockedControllerState PointState)) → slice_get world.points place ≡ found → IsWhole site (point_stepped site input connection place world)
    cases None is = subst (IsWhole site) (sym (point_not input connection place is)) whole
    cases (Some server) is =
        let done = step_of point_behaviour input server
        in let next = controller_after done connection (length world.sent) server
        in let sound = (step_is_sound point_behaviour AnyPoint points_tell written (reading_of server.clock) input server.host (record { named = whole.points_named place server is; good = tt })).sound
        in subst (IsWhole site) (sym (point_to input connection place server is)) (record {
          clients = whole.clients;
          connections = whole.connections;
          signals = whole.signals;
          points = length_set world.points place next ∙ whole.points;
          detectors = whole.detectors;
          signals_named = whole.signals_named;
          points_named = all_set (λ (s : ClockedControllerState PointState). IsNamed s.host) world.points place next (subst IsNamed (sym (after_host done connection (length world.sent) server)) sound.named) whole.points_named;
          detectors_named = whole.detectors_named;
          sections_named = whole.sections_named;
        })

  detector_to : (input : Input) (connection place : ℕ) (server : ClockedControllerState (List Section)) → slice_get world.detectors place ≡ Some server → detector_stepped site input connection place world ≡ record world {
    detectors = slice_set world.detectors place (controller_after (step_of detection_behaviour input server) connection (length world.sent) server);
    sent = world.sent ++ sent_by_controller (step_of detection_behaviour input server) world.time (detector_link site place) server (controller_after (step_of detection_behaviour input server) connection (length world.sent) server);
  }
  unfolding detector_stepped stepped_at
  detector_to input connection place server is = rw is refl

  detector_not : (input : Input) (connection place : ℕ) → slice_get world.detectors place ≡ None → detector_stepped site input connection place world ≡ world
  unfolding detector_stepped stepped_at
  detector_not input connection place is = rw is refl

  pub detector_keeps : (input : Input) (connection place : ℕ) → IsWhole site (detector_stepped site input connection place world)
  detector_keeps input connection place = cases (slice_get world.detectors place) refl where
    cases : (found : Option (ClockedControllerState (List Section))) → slice_get world.detectors place ≡ found → IsWhole site (detector_stepped site input connection place world)
    cases None is = subst (IsWhole site) (sym (detector_not input connection place is)) whole
    cases (Some server) is =
        let done = step_of detection_behaviour input server
        in let next = controller_after done connection (length world.sent) server
        in let sound = (step_is_sound detection_behaviour AreSectionsNamed detectors_tell written (reading_of server.clock) input server.host
        (record { named = whole.detectors_named place server is; good = each_named server.host.object (whole.sections_named place server is) })).sound
        in subst (IsWhole site) (sym (detector_to input connection place server is)) (record {
          clients = whole.clients;
          connections = whole.connections;
          signals = whole.signals;
          points = whole.points;
          detectors = length_set world.detectors place next ∙ whole.detectors;
          signals_named = whole.signals_named;
          points_named = whole.points_named;
          detectors_named = all_set (λ (s : ClockedControllerState (List Section)). IsNamed s.host) world.detectors place next (subst IsNamed (sym (after_host done connection (length world.sent) server)) sound.named) whole.detectors_named;
          sections_named = all_set (λ (s : ClockedControllerState (List Section)). HasSections s.host) world.detectors place next
              (subst HasSections (sym (after_host done connection (length world.sent) server)) (sections_at done.host.object sound.good)) whole.sections_named;
        })
