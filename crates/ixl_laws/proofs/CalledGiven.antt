-- The input of a step calls links.
use Rattle.std.proofs.Common.{◌≡◌, inr, ℕ, List, refl, ap, sym, ◌∙◌, subst}
use Rattle.std.specs.Prelude.{Option, Some, None, is_some, option_map, slice_get}
use Rattle.ixl_state.specs.rasta_pdu.PduRead.{reading}
use Rattle.ixl_state.specs.ixl_client.ClientSoFar.{LinkCall, begun}
use Rattle.ixl_state.specs.ixl_client.Step.{hearing}
use Rattle.ixl_state.specs.ixl_spec.Commands.{commanded_by, moved_at_once, obeyed, refusal, unmoved_for}
use Rattle.ixl_state.specs.ixl_spec.StepSoFar.{Detector, Node, StepSoFar, Point, Signal, begun_with, detector_after, empty_outbox, known_signal_after, known_point_after, with_one}
use Rattle.ixl_state.specs.ixl_spec.State.{KnownDetectorState, IxlState, KnownSignalState, KnownPointState, changed}
use Rattle.ixl_state.specs.ixl_spec.Step.{Commands, Datagram, Input, Tick, addressed, all_clocked, client_at, detector_hearing, given, indicated_heard, known_signal_hearing, looking, looks, node_hearing, occupied_heard, side_heard, known_point_hearing}
use Rattle.ixl_state.specs.ixl_spec.Table.{Table}
use Rattle.ixl_state.specs.ixl_spec.declared.command.Command.{Command}
use Rattle.ixl_state.specs.ixl_spec.declared.command.Command.TheVariants as commands
use Rattle.ixl_state.specs.ixl_spec.declared.command.Refusal.{Refusal}
use Rattle.ixl_state.specs.First.{key_of}
use Rattle.ixl.specs.Interlocking.{InterlockingState}
use Rattle.ixl_laws.specs.Called.{receipt_at, receipt_by}
use Rattle.ixl_laws.proofs.CalledReceipt.{nobody, nothing_called, received, unlisted}
use Rattle.ixl_laws.proofs.CalledSoFar.{SoFar, same_clients}
use Rattle.ixl_laws.proofs.CalledSteps.{ClientLaws, move_called, route_called}
use Rattle.ixl_laws.proofs.Clients.{Puts, detection_at, detector_client, detector_kept, detector_put, known_signal_client, known_signal_kept, known_signal_put, mapped_option, point_at, signal_at, known_point_client, known_point_kept, known_point_put}
use Rattle.ixl_laws.proofs.Ruled.{along_holds, looking_holds, with_one_or_none}

-- ---- a datagram, by the kind of its sender

module _ (now : ℕ) (laws : ClientLaws now) (first : IxlState) (table : Table) (bytes : List ℕ) where
  abbrev begins : StepSoFar
  begins = begun_with first empty_outbox

  abbrev From : Option Node → StepSoFar → Type 0
  From sender part = SoFar now first (receipt_by table bytes sender) part

  signal_called : (place : ℕ) → From (Some (Signal place)) (known_signal_hearing now bytes place begins)
  unfolding known_signal_hearing
  signal_called place = with_one_or_none (From (Some (Signal place))) (slice_get first.known_signals place) _ begins
      (λ known_signal there.
      let heard = hearing now bytes (begun known_signal.client empty_outbox)
      in let new : KnownSignalState = known_signal_after known_signal.aspect known_signal.number (indicated_heard heard.heard known_signal.indicated) heard.client
      in let ixl : IxlState = record first { known_signals = changed (λ old. new) place first.known_signals }
      in received now first laws table bytes (Signal place) known_signal.client (signal_at place first ∙ ap known_signal_kept there) refl ixl
      (subst (λ c. Puts (Signal place) c first ixl) (known_signal_client known_signal.aspect known_signal.number (indicated_heard heard.heard known_signal.indicated) heard.client) (known_signal_put place known_signal new first there)))
      (λ none. nobody now first laws table bytes (Signal place) (signal_at place first ∙ ap known_signal_kept none))

  point_called : (place : ℕ) → From (Some (Point place)) (known_point_hearing now bytes place begins)
  unfolding known_point_hearing
  point_called place = with_one_or_none (From (Some (Point place))) (slice_get first.known_points place) _ begins
      (λ known_point there.
      let heard = hearing now bytes (begun known_point.client empty_outbox)
      in let new : KnownPointState = known_point_after (side_heard heard.heard known_point.side) known_point.moved heard.client
      in let ixl : IxlState = record first { known_points = changed (λ old. new) place first.known_points }
      in received now first laws table bytes (Point place) known_point.client (point_at place first ∙ ap known_point_kept there) refl ixl
      (subst (λ c. Puts (Point place) c first ixl) (known_point_client (side_heard heard.heard known_point.side) known_point.moved heard.client) (known_point_put place known_point new first there)))
      (λ none. nobody now first laws table bytes (Point place) (point_at place first ∙ ap known_point_kept none))

  detection_called : (place : ℕ) → From (Some (Detector place)) (detector_hearing now table bytes place begins)
  unfolding detector_hearing
  detection_called place = with_one_or_none (From (Some (Detector place))) (slice_get table.detectors place) _ begins
      (λ sections listed. with_one_or_none (From (Some (Detector place))) (slice_get first.detectors place) _ begins
      (λ detector there.
      let heard = hearing now bytes (begun detector.client empty_outbox)
      in let new : KnownDetectorState = detector_after (occupied_heard heard.heard detector.occupied) heard.client
      in let ixl : IxlState = record first { detectors = changed (λ old. new) place first.detectors }
      in along_holds (From (Some (Detector place))) (looking table) (looking_holds (From (Some (Detector place))) (route_called now laws first (receipt_by table bytes (Some (Detector place)))) table)
      (looks sections detector heard.heard heard.client) _
      (received now first laws table bytes (Detector place) detector.client (detection_at place first ∙ ap detector_kept there) (ap is_some listed) ixl
      (subst (λ c. Puts (Detector place) c first ixl) (detector_client (occupied_heard heard.heard detector.occupied) heard.client) (detector_put place detector new first there))))
      (λ none. nobody now first laws table bytes (Detector place) (detection_at place first ∙ ap detector_kept none)))
      (λ none. unlisted now first laws table bytes (Detector place) (ap is_some none))

  node_called : (sender : Node) → From (Some sender) (node_hearing now table bytes sender begins)
  unfolding node_hearing
  node_called (Signal place) = signal_called place
  node_called (Point place) = point_called place
  node_called (Detector place) = detection_called place

  datagram_called : (sender : Option Node) → From sender (with_one sender (node_hearing now table bytes) begins)
  datagram_called None = nothing_called now first (receipt_by table bytes None) (λ node. inr refl)
  datagram_called (Some sender) = node_called sender

-- ---- a command changes no client, but a move that of its point

unmoved_clients : (number : ℕ) (kept : Option KnownPointState) → known_point_kept (option_map (unmoved_for number) kept) ≡ known_point_kept kept
unmoved_clients number None = refl
unmoved_clients number (Some known_point) = refl

obeyed_clients : (now : ℕ) (command : Command) (ixl : IxlState) (node : Node) → client_at node (obeyed now command ixl) ≡ client_at node ixl
unfolding obeyed
obeyed_clients now (commands.Request route) ixl (Signal place) = refl
obeyed_clients now (commands.Request route) ixl (Point place) =
    point_at place (obeyed now (commands.Request route) ixl) ∙ ap known_point_kept (mapped_option (unmoved_for route.0) place ixl.known_points) ∙ unmoved_clients route.0 (slice_get ixl.known_points place) ∙ sym (point_at place ixl)
obeyed_clients now (commands.Request route) ixl (Detector place) = refl
obeyed_clients now (commands.Cancel route) ixl (Signal place) = refl
obeyed_clients now (commands.Cancel route) ixl (Point place) = refl
obeyed_clients now (commands.Cancel route) ixl (Detector place) = refl
obeyed_clients now commands.Resume ixl (Signal place) = refl
obeyed_clients now commands.Resume ixl (Point place) = refl
obeyed_clients now commands.Resume ixl (Detector place) = refl
obeyed_clients now (commands.Release route) ixl (Signal place) = refl
obeyed_clients now (commands.Release route) ixl (Point place) = refl
obeyed_clients now (commands.Release route) ixl (Detector place) = refl
obeyed_clients now (commands.Move point side) ixl (Signal place) = refl
obeyed_clients now (commands.Move point side) ixl (Point place) = refl
obeyed_clients now (commands.Move point side) ixl (Detector place) = refl
obeyed_clients now (commands.Close named) ixl (Signal place) = refl
obeyed_clients now (commands.Close named) ixl (Point place) = refl
obeyed_clients now (commands.Close named) ixl (Detector place) = refl
obeyed_clients now (commands.Open named) ixl (Signal place) = refl
obeyed_clients now (commands.Open named) ixl (Point place) = refl
obeyed_clients now (commands.Open named) ixl (Detector place) = refl

pub commanded_clients : (now : ℕ) (cause : Option Refusal) (command : Command) (ixl : IxlState) (node : Node) → client_at node (commanded_by now cause command ixl) ≡ client_at node ixl
commanded_clients now None command ixl node = obeyed_clients now command ixl node
commanded_clients now (Some refused) command ixl node = refl

moved_called : (now : ℕ) (laws : ClientLaws now) (first : IxlState) (receipt : Node → List LinkCall) (cause : Option Refusal) (command : Command) (part : StepSoFar) →
    SoFar now first receipt part → SoFar now first receipt (moved_at_once now cause command part)
unfolding moved_at_once
moved_called now laws first receipt (Some refused) command part so_far = so_far
moved_called now laws first receipt None (commands.Move point side) part so_far = move_called now laws first receipt point.0 side part so_far
moved_called now laws first receipt None (commands.Request route) part so_far = so_far
moved_called now laws first receipt None (commands.Cancel route) part so_far = so_far
moved_called now laws first receipt None commands.Resume part so_far = so_far
moved_called now laws first receipt None (commands.Release route) part so_far = so_far
moved_called now laws first receipt None (commands.Close named) part so_far = so_far
moved_called now laws first receipt None (commands.Open named) part so_far = so_far

-- ---- an input

pub given_called : (now : ℕ) → ClientLaws now → (old : InterlockingState) (input : Input) →
    SoFar now (all_clocked now old.state.ixl) (receipt_at now input old) (given now old.state.sited.table (key_of old.state.sited.site) input (begun_with (all_clocked now old.state.ixl) empty_outbox))
unfolding given
given_called now laws old Tick = nothing_called now (all_clocked now old.state.ixl) (receipt_at now Tick old) (λ node. inr refl)
given_called now laws old (Commands command) = moved_called now laws first (receipt_at now (Commands command) old) (refusal now old.state.sited.table command first) command _
    (same_clients now first (receipt_at now (Commands command) old) (begun_with first empty_outbox) _
    (λ node. commanded_clients now (refusal now old.state.sited.table command first) command first node)
    (nothing_called now first (receipt_at now (Commands command) old) (λ node. inr refl)))
  where
    first : IxlState
    first = all_clocked now old.state.ixl
given_called now laws old (Datagram bytes) =
    datagram_called now laws (all_clocked now old.state.ixl) old.state.sited.table bytes (addressed (reading (key_of old.state.sited.site) bytes) (all_clocked now old.state.ixl))
