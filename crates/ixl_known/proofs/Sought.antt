-- The node of a sender.
use Rattle.std.proofs.Common.{◌≡◌, ℕ, ◌<◌, Bool, List, [], ◌∷◌, length}
use Rattle.std.specs.Prelude.{Some, None}
use Rattle.std.specs.List.{position}
use Rattle.std.proofs.lemmas.List.Quantifiers.{position-Some}
use Rattle.ixl_spec.specs.StepSoFar.{Signal, Point, Detector}
use Rattle.ixl_spec.specs.State.{KnownDetectorState, IxlState, KnownSignalState, KnownPointState}
use Rattle.ixl_spec.specs.Step.{node_of, partner_at}

pub signal_node : (id : ℕ) (ixl : IxlState) (place : ℕ) → position (λ (known_signal : KnownSignalState). partner_at id known_signal.client) ixl.known_signals ≡ Some place → node_of id ixl ≡ Some (Signal place)
unfolding node_of
signal_node id ixl place is = rw is

pub point_node : (id : ℕ) (ixl : IxlState) (place : ℕ) → position (λ (known_signal : KnownSignalState). partner_at id known_signal.client) ixl.known_signals ≡ None →
    position (λ (known_point : KnownPointState). partner_at id known_point.client) ixl.known_points ≡ Some place → node_of id ixl ≡ Some (Point place)
unfolding node_of
point_node id ixl place none is = rw (none, is)

pub detector_node : (id : ℕ) (ixl : IxlState) (place : ℕ) → position (λ (known_signal : KnownSignalState). partner_at id known_signal.client) ixl.known_signals ≡ None →
    position (λ (known_point : KnownPointState). partner_at id known_point.client) ixl.known_points ≡ None → position (λ (detector : KnownDetectorState). partner_at id detector.client) ixl.detectors ≡ Some place →
    node_of id ixl ≡ Some (Detector place)
unfolding node_of
detector_node id ixl place none nothing is = rw (none, nothing, is)

pub no_node : (id : ℕ) (ixl : IxlState) → position (λ (known_signal : KnownSignalState). partner_at id known_signal.client) ixl.known_signals ≡ None →
    position (λ (known_point : KnownPointState). partner_at id known_point.client) ixl.known_points ≡ None → position (λ (detector : KnownDetectorState). partner_at id detector.client) ixl.detectors ≡ None →
    node_of id ixl ≡ None
unfolding node_of
no_node id ixl none nothing neither = rw (none, nothing, neither)

pub found_inside : {A : Type 0} (passes : A → Bool) (list : List A) (place : ℕ) → position passes list ≡ Some place → place < length list
found_inside passes [] place is = cc
found_inside passes (first ∷ others) place is = (position-Some passes (first ∷ others) place first is).0
