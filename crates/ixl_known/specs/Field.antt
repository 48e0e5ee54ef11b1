-- The controllers of a station, as its interlocking knows them.
use Rattle.std.specs.Prelude.{◌≡◌, ℕ, ◌+◌, ◌<◌, ◌≤◌, Bool, List, length, map}
use Rattle.std.specs.List.{All}
use Rattle.ixl_spec.specs.rasta_core.Calls.{MayStep}
use Rattle.ixl_spec.specs.rasta_core.Outbox.{OutboxState}
use Rattle.ixl_spec.specs.rasta_pdu.declared.key.Key.{Key}
use Rattle.ixl_spec.specs.closings.declared.closed.Closings.{Closings}
use Rattle.ixl_spec.specs.ixl_client.Client.{ClientState}
use Rattle.ixl_spec.specs.ixl_client.ClientSoFar.{begun}
use Rattle.ixl_spec.specs.ixl_client.Step.{hearing}
use Rattle.ixl_spec.specs.StepSoFar.{Node, Signal, Point, Detector, Leads, StepSoFar, detector_after, noted, with_detector, with_one}
use Rattle.ixl_spec.specs.State.{KnownDetectorState, IxlState, KnownSignalState, RouteState, KnownPointState}
use Rattle.ixl_spec.specs.Step.{clocked_detector, clocked_known_signal, clocked_known_point, occupied_heard}
use Rattle.ixl_known.specs.declared.node.Node.{Node as NamedNode}
use Rattle.ixl_known.specs.declared.node.Node.TheVariants as nodes
use Rattle.std.specs.Prelude.{slice_get}

-- its nodes, and where each section is reported
pub record FieldState : Type 0 where
  pub known_signals : List KnownSignalState
  pub known_points : List KnownPointState
  pub detectors : List KnownDetectorState
  pub reporters : List (ℕ × ℕ)

-- what an interlocking keeps beside it
pub record Rest : Type 0 where
  pub routes : List RouteState
  pub created : ℕ
  pub resumed : Bool
  pub closed : Closings

-- both together
abbrev pub kept : FieldState → Rest → IxlState
kept field rest = record {
  known_signals = field.known_signals;
  known_points = field.known_points;
  detectors = field.detectors;
  routes = rest.routes;
  created = rest.created;
  resumed = rest.resumed;
  closed = rest.closed;
}

-- ---- nodes by their places

-- a node that the code names is there
abbrev pub IsThere : FieldState → NamedNode → Type 0
IsThere field (nodes.Signal place) = place < length field.known_signals
IsThere field (nodes.Point place) = place < length field.known_points
IsThere field (nodes.Detector place) = place < length field.detectors

abbrev pub node_at : NamedNode → Node
node_at (nodes.Signal place) = Signal place
node_at (nodes.Point place) = Point place
node_at (nodes.Detector place) = Detector place

-- ---- every link

-- a fact of every link
pub record OfEach (fact : ClientState → Type 0) (field : FieldState) : Type 0 where
  pub known_signals : All (λ (known_signal : KnownSignalState). fact known_signal.client) field.known_signals
  pub known_points : All (λ (known_point : KnownPointState). fact known_point.client) field.known_points
  pub detectors : All (λ (detector : KnownDetectorState). fact detector.client) field.detectors

-- the clock of no link has fallen
abbrev pub MayStepAll : ℕ → FieldState → Type 0
MayStepAll now field = OfEach (λ client. MayStep now client.link) field

-- every link is at this clock
abbrev pub AllAt : ℕ → FieldState → Type 0
AllAt now field = OfEach (λ client. client.link.clock ≡ now) field

-- every link is under this key
abbrev pub AllUnder : Key → FieldState → Type 0
AllUnder key field = OfEach (λ client. client.link.identity.key ≡ key) field

abbrev pub field_clocked : ℕ → FieldState → FieldState
field_clocked now field = record field {
  known_signals = map (clocked_known_signal now) field.known_signals;
  known_points = map (clocked_known_point now) field.known_points;
  detectors = map (clocked_detector now) field.detectors;
}

-- A part of a step at a clock reading leads from one field to another, beside this rest, and hands out at most so many
-- datagrams. Every link keeps its key.
pub record FieldGoes (now most : ℕ) (does : StepSoFar → StepSoFar) (rest : Rest) (old : FieldState) (box : OutboxState) (new : FieldState) (out : OutboxState) : Type 0 where
  pub leads : Leads does (kept old rest) box (kept new rest) out
  pub reporters : new.reporters ≡ old.reporters
  pub known_signals : length new.known_signals ≡ length old.known_signals
  pub known_points : length new.known_points ≡ length old.known_points
  pub detectors : length new.detectors ≡ length old.detectors
  pub clock : AllAt now new
  pub keys : (key : Key) → AllUnder key old → AllUnder key new
  pub capacity : out.capacity ≡ box.capacity
  pub few : length out.datagrams ≤ length box.datagrams + most

-- a detector hears a datagram, without the looks at sections that it brings
unfoldable pub detector_hearing_alone : ℕ → List ℕ → ℕ → StepSoFar → StepSoFar
detector_hearing_alone now bytes place part = with_one (slice_get part.ixl.detectors place) hear part where
  hear : KnownDetectorState → StepSoFar → StepSoFar
  hear detector part =
      let done = hearing now bytes (begun detector.client part.outbox)
      in with_detector place (detector_after (occupied_heard done.heard detector.occupied) done.client) (noted (Detector place) done part)
