-- A node outside of a connection forgets what was given and heard in it.
use Rattle.std.proofs.Common.{◌≡◌, ℕ, Bool, true, false, not, if◌then◌else◌, refl, ap, ◌∙◌}
use Rattle.std.specs.Prelude.{Option, None}
use Rattle.std.specs.FinSet.{empty}
use Rattle.ixl_spec.specs.bit_row.Places.{Places}
use Rattle.ixl_spec.specs.sci_telegram.declared.message.Aspect.{Aspect}
use Rattle.ixl_spec.specs.sci_telegram.declared.message.Side.{Side}
use Rattle.ixl_spec.specs.rasta_core.State.{is_up}
use Rattle.ixl_spec.specs.ixl_client.Client.{ClientState, IsClient, is_outside}
use Rattle.ixl_spec.specs.StepSoFar.{detector_after, known_signal_after, known_point_after}
use Rattle.ixl_spec.specs.State.{KnownDetectorState, KnownSignalState, KnownPointState}

abbrev pub known_signal_of : ClientState → Option Aspect → ℕ → Option Aspect → KnownSignalState
known_signal_of client aspect number indicated = record { client = client; aspect = aspect; number = number; indicated = indicated }

abbrev pub known_point_of : ClientState → Option Side → Places → KnownPointState
known_point_of client side moved = record { client = client; side = side; moved = moved }

abbrev pub detector_of : ClientState → Places → KnownDetectorState
detector_of client occupied = record { client = client; occupied = occupied }

outside : (client : ClientState) → IsClient client → is_up client.link.phase ≡ false → is_outside client.stage ≡ true
outside client is down = is.outside ∙ ap not down

inside : (client : ClientState) → IsClient client → is_up client.link.phase ≡ true → is_outside client.stage ≡ false
inside client is up = is.outside ∙ ap not up

pub known_signal_falls : (aspect : Option Aspect) (number : ℕ) (indicated : Option Aspect) (client : ClientState) → IsClient client → is_up client.link.phase ≡ false → known_signal_of client None 0 None ≡ known_signal_after aspect number indicated client
unfolding known_signal_after
known_signal_falls aspect number indicated client is down = rw (outside client is down) refl

pub known_signal_stays : (aspect : Option Aspect) (number : ℕ) (indicated : Option Aspect) (client : ClientState) → IsClient client → is_up client.link.phase ≡ true → known_signal_of client aspect number indicated ≡ known_signal_after aspect number indicated client
unfolding known_signal_after
known_signal_stays aspect number indicated client is up = rw (inside client is up) refl

pub known_point_falls : (side : Option Side) (moved : Places) (client : ClientState) → IsClient client → is_up client.link.phase ≡ false → known_point_of client None empty ≡ known_point_after side moved client
unfolding known_point_after
known_point_falls side moved client is down = rw (outside client is down) refl

pub known_point_stays : (side : Option Side) (moved : Places) (client : ClientState) → IsClient client → is_up client.link.phase ≡ true → known_point_of client side moved ≡ known_point_after side moved client
unfolding known_point_after
known_point_stays side moved client is up = rw (inside client is up) refl

pub detector_falls : (occupied : Places) (client : ClientState) → IsClient client → is_up client.link.phase ≡ false → detector_of client empty ≡ detector_after occupied client
unfolding detector_after
detector_falls occupied client is down = rw (outside client is down) refl

pub detector_stays : (occupied : Places) (client : ClientState) → IsClient client → is_up client.link.phase ≡ true → detector_of client occupied ≡ detector_after occupied client
unfolding detector_after
detector_stays occupied client is up = rw (inside client is up) refl

-- ---- the client stays as it is

pub known_signal_client : (aspect : Option Aspect) (number : ℕ) (indicated : Option Aspect) (client : ClientState) → (known_signal_after aspect number indicated client).client ≡ client
unfolding known_signal_after
known_signal_client aspect number indicated client = cases (is_outside client.stage) where
  cases : (b : Bool) → (if b then known_signal_of client None 0 None else known_signal_of client aspect number indicated).client ≡ client
  cases true = refl
  cases false = refl

pub known_point_client : (side : Option Side) (moved : Places) (client : ClientState) → (known_point_after side moved client).client ≡ client
unfolding known_point_after
known_point_client side moved client = cases (is_outside client.stage) where
  cases : (b : Bool) → (if b then known_point_of client None empty else known_point_of client side moved).client ≡ client
  cases true = refl
  cases false = refl

pub detector_client : (occupied : Places) (client : ClientState) → (detector_after occupied client).client ≡ client
unfolding detector_after
detector_client occupied client = cases (is_outside client.stage) where
  cases : (b : Bool) → (if b then detector_of client empty else detector_of client occupied).client ≡ client
  cases true = refl
  cases false = refl
