-- What each part of a step does to a controller's node, and to the outbox.
use Rattle.std.specs.Prelude.{◌≡◌, ℕ, ◌+◌, ◌≤◌, List, length, Some}
use Rattle.ixl_spec.specs.sci_telegram.declared.message.Aspect.{Aspect}
use Rattle.ixl_spec.specs.sci_telegram.declared.message.Side.{Side}
use Rattle.ixl_spec.specs.rasta_core.Outbox.{OutboxState}
use Rattle.ixl_spec.specs.ixl_client.Client.{ClientState}
use Rattle.ixl_spec.specs.ixl_client.ClientSoFar.{begun}
use Rattle.ixl_spec.specs.ixl_client.Step.{commanding, hearing, ticking}
use Rattle.ixl_spec.specs.ixl_client.declared.command.Command.TheVariants as commands
use Rattle.ixl_spec.specs.ixl_client.declared.indication.Indication.{Indication}
use Rattle.ixl_spec.specs.StepSoFar.{all_below, detector_after, known_signal_after, known_point_after}
use Rattle.ixl_spec.specs.State.{KnownDetectorState, KnownSignalState, KnownPointState}
use Rattle.ixl_spec.specs.Step.{indicated_heard, occupied_heard, side_heard}

-- A part of a step at a clock reading leaves this of a node and of the outbox. The node's link keeps its identity, and at
-- most so many datagrams are handed out.
pub record Goes {A : Type 0} (client_of : A → ClientState) (now most : ℕ) (does : A → OutboxState → A × OutboxState) (old : A) (box : OutboxState) (new : A) (out : OutboxState) : Type 0 where
  pub node : new ≡ (does old box).0
  pub outbox : out ≡ (does old box).1
  pub clock : (client_of new).link.clock ≡ now
  pub identity : (client_of new).link.identity ≡ (client_of old).link.identity
  pub capacity : out.capacity ≡ box.capacity
  pub few : length out.datagrams ≤ length box.datagrams + most

abbrev pub KnownSignalGoes : ℕ → ℕ → (KnownSignalState → OutboxState → KnownSignalState × OutboxState) → KnownSignalState → OutboxState → KnownSignalState → OutboxState → Type 0
KnownSignalGoes = Goes (λ (known_signal : KnownSignalState). known_signal.client)

abbrev pub KnownPointGoes : ℕ → ℕ → (KnownPointState → OutboxState → KnownPointState × OutboxState) → KnownPointState → OutboxState → KnownPointState → OutboxState → Type 0
KnownPointGoes = Goes (λ (known_point : KnownPointState). known_point.client)

abbrev pub DetectorGoes : ℕ → ℕ → (KnownDetectorState → OutboxState → KnownDetectorState × OutboxState) → KnownDetectorState → OutboxState → KnownDetectorState → OutboxState → Type 0
DetectorGoes = Goes (λ (detector : KnownDetectorState). detector.client)

-- ---- signals

-- a signal is given an aspect: how many items were given is counted with it
unfoldable pub known_signal_given : ℕ → Aspect → KnownSignalState → OutboxState → KnownSignalState × OutboxState
known_signal_given now aspect known_signal box =
    let done = commanding now (commands.Indicate aspect) (begun known_signal.client box)
    in (known_signal_after (Some aspect) done.client.link.given known_signal.indicated done.client, done.outbox)

unfoldable pub known_signal_heard : ℕ → List ℕ → KnownSignalState → OutboxState → KnownSignalState × OutboxState
known_signal_heard now bytes known_signal box =
    let done = hearing now bytes (begun known_signal.client box)
    in (known_signal_after known_signal.aspect known_signal.number (indicated_heard done.heard known_signal.indicated) done.client, done.outbox)

unfoldable pub known_signal_ticked : ℕ → KnownSignalState → OutboxState → KnownSignalState × OutboxState
known_signal_ticked now known_signal box =
    let done = ticking now (begun known_signal.client box)
    in (known_signal_after known_signal.aspect known_signal.number known_signal.indicated done.client, done.outbox)

-- ---- points

-- a point is given a move, which counts for so many routes
unfoldable pub known_point_given : ℕ → Side → ℕ → KnownPointState → OutboxState → KnownPointState × OutboxState
known_point_given now side routes known_point box =
    let done = commanding now (commands.Move side) (begun known_point.client box)
    in (known_point_after known_point.side (all_below routes) done.client, done.outbox)

unfoldable pub known_point_heard : ℕ → List ℕ → KnownPointState → OutboxState → KnownPointState × OutboxState
known_point_heard now bytes known_point box =
    let done = hearing now bytes (begun known_point.client box)
    in (known_point_after (side_heard done.heard known_point.side) known_point.moved done.client, done.outbox)

unfoldable pub known_point_ticked : ℕ → KnownPointState → OutboxState → KnownPointState × OutboxState
known_point_ticked now known_point box =
    let done = ticking now (begun known_point.client box)
    in (known_point_after known_point.side known_point.moved done.client, done.outbox)

-- ---- detectors

unfoldable pub detector_heard : ℕ → List ℕ → KnownDetectorState → OutboxState → KnownDetectorState × OutboxState
detector_heard now bytes detector box =
    let done = hearing now bytes (begun detector.client box)
    in (detector_after (occupied_heard done.heard detector.occupied) done.client, done.outbox)

-- what a detector was heard to tell
abbrev pub AreHeardBy : ℕ → List ℕ → KnownDetectorState → OutboxState → List Indication → Type 0
AreHeardBy now bytes detector box heard = heard ≡ (hearing now bytes (begun detector.client box)).heard

unfoldable pub detector_ticked : ℕ → KnownDetectorState → OutboxState → KnownDetectorState × OutboxState
detector_ticked now detector box =
    let done = ticking now (begun detector.client box)
    in (detector_after detector.occupied done.client, done.outbox)
