-- What routes watch, and what detectors tell, the machine doesn't see.
use Rattle.std.proofs.Common.{◌≡◌, ℕ, Bool, List, refl, sym, ap, subst}
use Rattle.std.specs.Prelude.{◌||◌, not, Option, Some, None, slice_get}
use Rattle.ixl_spec.specs.ixl_client.ClientSoFar as client
use Rattle.ixl_spec.specs.ixl_client.ClientSoFar.{begun}
use Rattle.ixl_spec.specs.ixl_client.Step.{hearing}
use Rattle.ixl_spec.specs.StepSoFar.{Detector, StepSoFar, Point, Signal, detector_after, noted, over, with_detector, with_route}
use Rattle.ixl_spec.specs.Rules.{count, is_proceeding, is_withdrawn}
use Rattle.ixl_spec.specs.State.{KnownDetectorState, IxlState, RouteState}
use Rattle.ixl_spec.specs.Step.{Input, detector_hearing, looking, looking_by, looks, occupied_heard, route_looks, watching}
use Rattle.ixl_spec.specs.Table.{Row, Table as Rows}
use Rattle.ixl_spec.specs.View.{is_approach_clear, place_in, was_authorised}
use Rattle.simulator_machine.specs.Machine.{Machine}
use Rattle.simulator_machine.specs.Table.{Table}
use Rattle.simulator_machine.specs.Chains.{MovesTo}
use Rattle.simulator_move_laws.specs.MachineSoFar.{KnownSignalSoFar, Leads, KnownPointSoFar}
use Rattle.simulator_move_laws.specs.Nodes.{phase_seen}
use Rattle.simulator_move_laws.specs.Sees.{Given}
use Rattle.simulator_move_laws.proofs.Interlocking.Tests.{by_test}
use Rattle.simulator_move_laws.proofs.Interlocking.Routes.{along_kept, at_kept, over_kept, route_same}
use Rattle.simulator_move_laws.proofs.Interlocking.Changes.{noted_elsewhere}

module _ (now : ℕ) (input : Input) (table : Table) (rows : Rows) (ixl : IxlState) (given : Given) (machine : Machine)
    (onward : (old between new : Machine) → MovesTo table old between → MovesTo table between new → MovesTo table old new) where
  abbrev On : StepSoFar → Type 0
  On part = Leads now input table ixl given machine part

  watches : (number : ℕ) (part : StepSoFar) → On part → On (watching rows number part)
  unfolding watching
  watches number part on = at_kept On rows number _ part (λ row route has is.
      by_test On (is_proceeding route.phase || is_withdrawn route.phase) (with_route number (λ old. record old { approached = old.approached || not (is_approach_clear rows part.ixl row) }) part) part
      (λ e. route_same now input table ixl given machine onward number (λ old. record old { approached = old.approached || not (is_approach_clear rows part.ixl row) }) part (λ other at. refl) on) (λ e. on)) on

  pub all_watch : (part : StepSoFar) → On part → On (over (watching rows) (count rows) part)
  all_watch part on = over_kept On (watching rows) watches (count rows) part on

  looked_same : (section : ℕ) (occupied : Bool) (row : Row) (route : RouteState) → (route_looks section occupied row route).phase ≡ route.phase
  looked_same section occupied row route = cases (place_in section row.sections) refl where
    cases : (place : Option ℕ) → place_in section row.sections ≡ place → (route_looks section occupied row route).phase ≡ route.phase
    cases None e = rw e refl
    cases (Some place) e = rw e refl

  looks_by : (section : ℕ) (occupied : Bool) (number : ℕ) (part : StepSoFar) → On part → On (looking_by section occupied rows number part)
  unfolding looking_by
  looks_by section occupied number part on = at_kept On rows number _ part (λ row route has is.
      by_test On (was_authorised route.phase) (with_route number (route_looks section occupied row) part) part
      (λ e. route_same now input table ixl given machine onward number (route_looks section occupied row) part (λ other at. ap phase_seen (looked_same section occupied row other)) on) (λ e. on)) on

  look : (one : ℕ × Bool) (part : StepSoFar) → On part → On (looking rows one part)
  look one part on = over_kept On (looking_by one.0 one.1 rows) (looks_by one.0 one.1) (count rows) part on

  -- a detector's client does something
  detector_on : (place : ℕ) (detector : KnownDetectorState) (done : client.ClientSoFar) (part : StepSoFar) → On part → On (with_detector place detector (noted (Detector place) done part))
  detector_on place detector done part (new, during) = (
    new,
    record {
      signals = λ n. subst (λ cs. KnownSignalSoFar now input table ixl given machine (slice_get ixl.known_signals n) (given.signals n) cs (slice_get part.ixl.known_signals n) (machine.signals n) (new.signals n))
          (sym (noted_elsewhere (Signal n) (Detector place) part.calls done.calls refl)) (during.signals n);
      points = λ n. subst (λ cs. KnownPointSoFar now input table ixl given machine (slice_get ixl.known_points n) (given.points n) cs (slice_get part.ixl.known_points n) (machine.points n) (new.points n))
          (sym (noted_elsewhere (Point n) (Detector place) part.calls done.calls refl)) (during.points n);
      routes = during.routes;
      count = during.count;
      created = during.created;
      holding = during.holding;
      frozen = during.frozen;
      moves = during.moves;
    },
  )

  pub detector_hears : (bytes : List ℕ) (place : ℕ) (part : StepSoFar) → On part → On (detector_hearing now rows bytes place part)
  unfolding detector_hearing
  detector_hears bytes place part on = cases (slice_get rows.detectors place) refl (slice_get part.ixl.detectors place) refl where
    cases : (sections : Option (List ℕ)) → slice_get rows.detectors place ≡ sections → (detector : Option KnownDetectorState) → slice_get part.ixl.detectors place ≡ detector → On (detector_hearing now rows bytes place part)
    cases None has detector is = rw has on
    cases (Some sections) has None is = rw has (rw is on)
    cases (Some sections) has (Some detector) is = rw has (rw is (along_kept On (looking rows) look (looks sections detector (hearing now bytes (begun detector.client part.outbox)).heard (hearing now bytes (begun detector.client part.outbox)).client)
        (with_detector place (detector_after (occupied_heard (hearing now bytes (begun detector.client part.outbox)).heard detector.occupied) (hearing now bytes (begun detector.client part.outbox)).client) (noted (Detector place) (hearing now bytes (begun detector.client part.outbox)) part))
        (detector_on place _ (hearing now bytes (begun detector.client part.outbox)) part on)))
