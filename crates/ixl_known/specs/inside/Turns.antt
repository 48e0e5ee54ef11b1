-- One node after another.
use Rattle.std.specs.Prelude.{◌≡◌, ℕ, ◌+◌, ◌*◌, ◌≤◌, List, length}
use Rattle.std.specs.List.{All}
use Rattle.ixl_spec.specs.rasta_core.Outbox.{OutboxState}
use Rattle.ixl_spec.specs.rasta_pdu.declared.key.Key.{Key}
use Rattle.ixl_spec.specs.ixl_client.Client.{ClientState}
use Rattle.ixl_spec.specs.StepSoFar.{Leads, StepSoFar, over}
use Rattle.ixl_spec.specs.State.{KnownDetectorState, IxlState, KnownSignalState, KnownPointState}

-- The first nodes of a list took their turns: what each does leads from the list as it was to the list as it is, and to
-- this outbox. All of them are at this clock, and keep their keys.
pub record HaveTurned {A : Type 0} (list_of : IxlState → List A) (with : List A → IxlState → IxlState) (client_of : A → ClientState) (now most : ℕ) (does : ℕ → StepSoFar → StepSoFar)
    (done : ℕ) (old : List A) (box : OutboxState) (new : List A) (out : OutboxState) : Type 0 where
  pub leads : (ixl : IxlState) → list_of ixl ≡ old → Leads (over does done) ixl box (with new ixl) out
  pub clock : All (λ one. (client_of one).link.clock ≡ now) new
  pub keys : (key : Key) → All (λ one. (client_of one).link.identity.key ≡ key) old → All (λ one. (client_of one).link.identity.key ≡ key) new
  pub each : length new ≡ length old
  pub capacity : out.capacity ≡ box.capacity
  pub few : length out.datagrams ≤ length box.datagrams + most * done

abbrev pub with_known_signals : List KnownSignalState → IxlState → IxlState
with_known_signals known_signals ixl = record ixl { known_signals = known_signals }

abbrev pub KnownSignalsTurned : ℕ → ℕ → (ℕ → StepSoFar → StepSoFar) → ℕ → List KnownSignalState → OutboxState → List KnownSignalState → OutboxState → Type 0
KnownSignalsTurned = HaveTurned (λ (ixl : IxlState). ixl.known_signals) with_known_signals (λ (known_signal : KnownSignalState). known_signal.client)

abbrev pub with_known_points : List KnownPointState → IxlState → IxlState
with_known_points known_points ixl = record ixl { known_points = known_points }

abbrev pub KnownPointsTurned : ℕ → ℕ → (ℕ → StepSoFar → StepSoFar) → ℕ → List KnownPointState → OutboxState → List KnownPointState → OutboxState → Type 0
KnownPointsTurned = HaveTurned (λ (ixl : IxlState). ixl.known_points) with_known_points (λ (known_point : KnownPointState). known_point.client)

abbrev pub with_detectors : List KnownDetectorState → IxlState → IxlState
with_detectors detectors ixl = record ixl { detectors = detectors }

abbrev pub DetectorsTurned : ℕ → ℕ → (ℕ → StepSoFar → StepSoFar) → ℕ → List KnownDetectorState → OutboxState → List KnownDetectorState → OutboxState → Type 0
DetectorsTurned = HaveTurned (λ (ixl : IxlState). ixl.detectors) with_detectors (λ (detector : KnownDetectorState). detector.client)
