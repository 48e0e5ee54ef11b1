-- Through a step controllers neither come nor go.
use Rattle.std.proofs.Common.{◌≡◌, ℕ, List, length, sym, ◌∙◌, subst}
use Rattle.std.specs.Prelude.{Option, Some, None, slice_get}
use Rattle.std.proofs.lemmas.List.{length-map}
use Rattle.ixl_state.specs.rasta_pdu.PduRead.{reading}
use Rattle.ixl_state.specs.rasta_pdu.declared.key.Key.{Key}
use Rattle.ixl_state.specs.ixl_client.ClientSoFar.{begun}
use Rattle.ixl_state.specs.ixl_client.Step.{hearing}
use Rattle.ixl_state.specs.ixl_spec.Commands.{commanded_by, moved_at_once, obeyed, refusal}
use Rattle.ixl_state.specs.ixl_spec.StepSoFar.{Detector, Node, Point, Signal, StepSoFar, along, detector_after, giving_aspect, giving_move, noted, over, with_detector}
use Rattle.ixl_state.specs.ixl_spec.Rules.{count, ruled}
use Rattle.ixl_state.specs.ixl_spec.State.{IxlState, KnownDetectorState}
use Rattle.ixl_state.specs.ixl_spec.Step.{Commands, Datagram, Input, Tick, addressed, all_clocked, detector_hearing, given, known_point_hearing, known_signal_hearing, looking, looks, node_hearing, occupied_heard, watching}
use Rattle.ixl_state.specs.ixl_spec.Table.{Table}
use Rattle.ixl_state.specs.ixl_spec.declared.command.Command.{Command}
use Rattle.ixl_state.specs.ixl_spec.declared.command.Command.TheVariants as commands
use Rattle.ixl_state.specs.ixl_spec.declared.command.Refusal.{Refusal}
use Rattle.ixl_laws.proofs.Ruled.{IsKeptByChanges, IsKeptByRoutes, along_holds, looking_holds, ruled_holds, seen_holds, with_one_holds}
use Rattle.ixl_laws.proofs.WholeFits.{changed_length}

-- what a detector's controller does with a datagram
abbrev pub heard_by : ℕ → Table → List ℕ → ℕ → List ℕ → KnownDetectorState → StepSoFar → StepSoFar
heard_by now table bytes place sections detector part =
    let done = hearing now bytes (begun detector.client part.outbox)
    in along (looking table) (looks sections detector done.heard done.client)
    (with_detector place (detector_after (occupied_heard done.heard detector.occupied) done.client) (noted (Detector place) done part))

pub record SameCounts (first ixl : IxlState) : Type 0 where
  pub known_signals : length ixl.known_signals ≡ length first.known_signals
  pub known_points : length ixl.known_points ≡ length first.known_points
  pub detectors : length ixl.detectors ≡ length first.detectors

clocked_counts : (now : ℕ) (first : IxlState) → SameCounts first (all_clocked now first)
unfolding all_clocked
clocked_counts now first = record { known_signals = length-map first.known_signals _; known_points = length-map first.known_points _; detectors = length-map first.detectors _ }

module _ (first : IxlState) where
  abbrev On : StepSoFar → Type 0
  On part = SameCounts first part.ixl

  routes_on : IsKeptByRoutes On
  routes_on number change part on = record { known_signals = on.known_signals; known_points = on.known_points; detectors = on.detectors }

  -- ---- the input

  signal_on : (now : ℕ) (bytes : List ℕ) (place : ℕ) (part : StepSoFar) → On part → On (known_signal_hearing now bytes place part)
  unfolding known_signal_hearing
  signal_on now bytes place part on = with_one_holds On (slice_get part.ixl.known_signals place) _ part (λ known_signal there.
      record { known_signals = changed_length _ place part.ixl.known_signals ∙ on.known_signals; known_points = on.known_points; detectors = on.detectors }) on

  point_on : (now : ℕ) (bytes : List ℕ) (place : ℕ) (part : StepSoFar) → On part → On (known_point_hearing now bytes place part)
  unfolding known_point_hearing
  point_on now bytes place part on = with_one_holds On (slice_get part.ixl.known_points place) _ part (λ known_point there.
      record { known_signals = on.known_signals; known_points = changed_length _ place part.ixl.known_points ∙ on.known_points; detectors = on.detectors }) on

  detector_on : (now : ℕ) (table : Table) (bytes : List ℕ) (place : ℕ) (part : StepSoFar) → On part → On (detector_hearing now table bytes place part)
  unfolding detector_hearing
  detector_on now table bytes place part on = with_one_holds On (slice_get table.detectors place) _ part (λ sections listed.
      with_one_holds On (slice_get part.ixl.detectors place) _ part (λ detector there. hear sections detector) on) on
    where
      hear : (sections : List ℕ) (detector : KnownDetectorState) → On (heard_by now table bytes place sections detector part)
      hear sections detector =
          let done = hearing now bytes (begun detector.client part.outbox)
          in along_holds On (looking table) (looking_holds On routes_on table) (looks sections detector done.heard done.client)
          (with_detector place (detector_after (occupied_heard done.heard detector.occupied) done.client) (noted (Detector place) done part))
          (record { known_signals = on.known_signals; known_points = on.known_points; detectors = changed_length (λ old. detector_after (occupied_heard done.heard detector.occupied) done.client) place part.ixl.detectors ∙ on.detectors })

  node_on : (now : ℕ) (table : Table) (bytes : List ℕ) (node : Node) (part : StepSoFar) → On part → On (node_hearing now table bytes node part)
  unfolding node_hearing
  node_on now table bytes (Signal place) part on = signal_on now bytes place part on
  node_on now table bytes (Point place) part on = point_on now bytes place part on
  node_on now table bytes (Detector place) part on = detector_on now table bytes place part on

  obeyed_on : (now : ℕ) (command : Command) (ixl : IxlState) → SameCounts first ixl → SameCounts first (obeyed now command ixl)
  unfolding obeyed
  obeyed_on now (commands.Request route) ixl on = record { known_signals = on.known_signals; known_points = length-map ixl.known_points _ ∙ on.known_points; detectors = on.detectors }
  obeyed_on now (commands.Cancel route) ixl on = record { known_signals = on.known_signals; known_points = on.known_points; detectors = on.detectors }
  obeyed_on now commands.Resume ixl on = record { known_signals = on.known_signals; known_points = on.known_points; detectors = on.detectors }
  obeyed_on now (commands.Release route) ixl on = record { known_signals = on.known_signals; known_points = on.known_points; detectors = on.detectors }
  obeyed_on now (commands.Move point side) ixl on = record { known_signals = on.known_signals; known_points = on.known_points; detectors = on.detectors }
  obeyed_on now (commands.Close named) ixl on = record { known_signals = on.known_signals; known_points = on.known_points; detectors = on.detectors }
  obeyed_on now (commands.Open named) ixl on = record { known_signals = on.known_signals; known_points = on.known_points; detectors = on.detectors }

  commanded_on : (now : ℕ) (cause : Option Refusal) (command : Command) (ixl : IxlState) → SameCounts first ixl → SameCounts first (commanded_by now cause command ixl)
  commanded_on now None command ixl on = obeyed_on now command ixl on
  commanded_on now (Some refused) command ixl on = on

  -- ---- the rules

  aspect_on : (now signal : ℕ) (aspect : _) (part : StepSoFar) → On part → On (giving_aspect now signal aspect part)
  unfolding giving_aspect
  aspect_on now signal aspect part on = with_one_holds On (slice_get part.ixl.known_signals signal) _ part (λ known_signal there.
      record { known_signals = changed_length _ signal part.ixl.known_signals ∙ on.known_signals; known_points = on.known_points; detectors = on.detectors }) on

  move_on : (now point : ℕ) (side : _) (part : StepSoFar) → On part → On (giving_move now point side part)
  unfolding giving_move
  move_on now point side part on = with_one_holds On (slice_get part.ixl.known_points point) _ part (λ known_point there.
      record { known_signals = on.known_signals; known_points = changed_length _ point part.ixl.known_points ∙ on.known_points; detectors = on.detectors }) on

  -- ---- the input

  moved_on : (now : ℕ) (cause : Option Refusal) (command : Command) (part : StepSoFar) → On part → On (moved_at_once now cause command part)
  unfolding moved_at_once
  moved_on now (Some refused) command part on = on
  moved_on now None (commands.Move point side) part on = move_on now point.0 side part on
  moved_on now None (commands.Request route) part on = on
  moved_on now None (commands.Cancel route) part on = on
  moved_on now None commands.Resume part on = on
  moved_on now None (commands.Release route) part on = on
  moved_on now None (commands.Close named) part on = on
  moved_on now None (commands.Open named) part on = on

  given_on : (now : ℕ) (table : Table) (key : Key) (input : Input) (part : StepSoFar) → On part → On (given now table key input part)
  unfolding given
  given_on now table key Tick part on = on
  given_on now table key (Datagram bytes) part on = with_one_holds On (addressed (reading key bytes) part.ixl) _ part (λ node there. node_on now table bytes node part on) on
  given_on now table key (Commands command) part on =
      let cause = refusal now table command part.ixl
      in moved_on now cause command (record part { ixl = commanded_by now cause command part.ixl }) (commanded_on now cause command part.ixl on)

  changes_on : (now : ℕ) → IsKeptByChanges now On
  changes_on now = record { route = routes_on; aspect = aspect_on now; move = λ point side part available on. move_on now point side part on }

  -- so before the ticks
  pub counts_ruled : (now : ℕ) (table : Table) (key : Key) (input : Input) (part : StepSoFar) → part.ixl ≡ all_clocked now first →
      SameCounts first (ruled now table (over (watching table) (count table) (given now table key input part))).ixl
  counts_ruled now table key input part begins = ruled_holds On now (changes_on now) table _ (seen_holds On routes_on table _
      (given_on now table key input part (subst (SameCounts first) (sym begins) (clocked_counts now first))))
