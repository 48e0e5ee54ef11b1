-- What a client did becomes part of a step whose outbox is what its calls hand out.
use Rattle.std.proofs.Common.{◌≡◌, ℕ, List, refl, ap, ◌∙◌, subst}
use Rattle.std.specs.Prelude.{Option, Some, slice_get}
use Rattle.ixl_state.specs.rasta_core.Outbox.{OutboxState}
use Rattle.ixl_state.specs.rasta_core.State.{LinkState}
use Rattle.ixl_state.specs.ixl_client.Client.{ClientState}
use Rattle.ixl_state.specs.ixl_client.Made.{Makes}
use Rattle.ixl_state.specs.ixl_client.ClientSoFar as client
use Rattle.ixl_state.specs.ixl_client.ClientSoFar.{LinkCall, begun}
use Rattle.ixl_state.specs.ixl_spec.StepSoFar.{Detector, Node, Point, Signal, StepSoFar, detector_after, known_point_after, known_signal_after, noted}
use Rattle.ixl_state.specs.ixl_spec.State.{IxlState, KnownDetectorState, KnownPointState, KnownSignalState, changed}
use Rattle.ixl_laws.proofs.Clients.{Puts, detection_at, detector_client, detector_kept, detector_put, known_point_client, known_point_kept, known_point_put, known_signal_client, known_signal_kept, known_signal_put, point_at, signal_at}
use Rattle.ixl_laws.proofs.Ordered.{Ordered, changed_length, next_ordered}

-- the client made these calls, and speaks with the same controller
abbrev pub Made : ℕ → List LinkCall → ClientState → OutboxState → client.ClientSoFar → Type 0
Made now list one outbox done = Makes now list (begun one outbox) done × (done.client.peer ≡ one.peer)

module _ (now : ℕ) (links : Node → Option LinkState) (start : IxlState) where
  abbrev On : StepSoFar → Type 0
  On part = Ordered now links start part

  pub signal_next : (place : ℕ) (kept : KnownSignalState) (part : StepSoFar) (done : client.ClientSoFar) (aspect : _) (number : ℕ) (indicated : _) (list : List LinkCall) → slice_get part.ixl.known_signals place ≡ Some kept →
      Made now list kept.client part.outbox done → On part →
      On (record (noted (Signal place) done part) { ixl = record part.ixl { known_signals = changed (λ old. known_signal_after aspect number indicated done.client) place part.ixl.known_signals } })
  signal_next place kept part done aspect number indicated list there made is = next_ordered now links start (Signal place) kept.client part done new list
      (signal_at place part.ixl ∙ ap known_signal_kept there) made.0 made.1
      (subst (λ c. Puts (Signal place) c part.ixl new) (known_signal_client aspect number indicated done.client) (known_signal_put place kept (known_signal_after aspect number indicated done.client) part.ixl there))
      (record { signals = changed_length (λ old. known_signal_after aspect number indicated done.client) place part.ixl.known_signals; points = refl; detectors = refl }) is
    where
      new : IxlState
      new = record part.ixl { known_signals = changed (λ old. known_signal_after aspect number indicated done.client) place part.ixl.known_signals }

  pub point_next : (place : ℕ) (kept : KnownPointState) (part : StepSoFar) (done : client.ClientSoFar) (side : _) (moved : _) (list : List LinkCall) → slice_get part.ixl.known_points place ≡ Some kept →
      Made now list kept.client part.outbox done → On part →
      On (record (noted (Point place) done part) { ixl = record part.ixl { known_points = changed (λ old. known_point_after side moved done.client) place part.ixl.known_points } })
  point_next place kept part done side moved list there made is = next_ordered now links start (Point place) kept.client part done new list
      (point_at place part.ixl ∙ ap known_point_kept there) made.0 made.1
      (subst (λ c. Puts (Point place) c part.ixl new) (known_point_client side moved done.client) (known_point_put place kept (known_point_after side moved done.client) part.ixl there))
      (record { signals = refl; points = changed_length (λ old. known_point_after side moved done.client) place part.ixl.known_points; detectors = refl }) is
    where
      new : IxlState
      new = record part.ixl { known_points = changed (λ old. known_point_after side moved done.client) place part.ixl.known_points }

  pub detector_next : (place : ℕ) (kept : KnownDetectorState) (part : StepSoFar) (done : client.ClientSoFar) (occupied : _) (list : List LinkCall) → slice_get part.ixl.detectors place ≡ Some kept →
      Made now list kept.client part.outbox done → On part →
      On (record (noted (Detector place) done part) { ixl = record part.ixl { detectors = changed (λ old. detector_after occupied done.client) place part.ixl.detectors } })
  detector_next place kept part done occupied list there made is = next_ordered now links start (Detector place) kept.client part done new list
      (detection_at place part.ixl ∙ ap detector_kept there) made.0 made.1
      (subst (λ c. Puts (Detector place) c part.ixl new) (detector_client occupied done.client) (detector_put place kept (detector_after occupied done.client) part.ixl there))
      (record { signals = refl; points = refl; detectors = changed_length (λ old. detector_after occupied done.client) place part.ixl.detectors }) is
    where
      new : IxlState
      new = record part.ixl { detectors = changed (λ old. detector_after occupied done.client) place part.ixl.detectors }
