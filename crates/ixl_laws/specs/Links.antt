-- The links of an interlocking after a tick.
use Rattle.std.specs.Prelude.{◌≡◌, ℕ, true, slice_get, Some}
use Rattle.ixl_state.specs.rasta_core.State.{is_client}
use Rattle.ixl_state.specs.ixl_client.Client.{ClientState}
use Rattle.ixl_state.specs.ixl_client.LinkOpened.{IsNotDown}
use Rattle.ixl_state.specs.ixl_spec.State.{KnownDetectorState, IxlState, KnownSignalState, KnownPointState}

-- the link of a client, which opens it, isn't down
abbrev pub IsTended : ℕ → ClientState → Type 0
IsTended now client = is_client client.link.identity.role ≡ true → IsNotDown now client.link

pub record NoneDown (now : ℕ) (ixl : IxlState) : Type 0 where
  pub signals : (place : ℕ) (known_signal : KnownSignalState) → slice_get ixl.known_signals place ≡ Some known_signal → IsTended now known_signal.client
  pub points : (place : ℕ) (known_point : KnownPointState) → slice_get ixl.known_points place ≡ Some known_point → IsTended now known_point.client
  pub detectors : (place : ℕ) (detector : KnownDetectorState) → slice_get ixl.detectors place ≡ Some detector → IsTended now detector.client
