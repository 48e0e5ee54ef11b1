-- After the clock and the input what is kept still fits the table.
use Rattle.std.proofs.Common.{◌≡◌, ℕ, Bool, true, false, List, refl}
use Rattle.std.specs.Prelude.{Option, Some, None, slice_get}
use Rattle.ixl_state.specs.rasta_pdu.PduRead.{reading}
use Rattle.ixl_state.specs.rasta_pdu.declared.key.Key.{Key}
use Rattle.ixl_state.specs.release.Passage.{PassageState, after_look}
use Rattle.ixl_state.specs.ixl_client.ClientSoFar.{begun}
use Rattle.ixl_state.specs.ixl_client.Step.{hearing}
use Rattle.ixl_state.specs.ixl_spec.Commands.{commanded_by, moved_at_once, obeyed, refusal}
use Rattle.ixl_state.specs.ixl_spec.StepSoFar.{Detector, Node, Point, Signal, StepSoFar, detector_after, noted, with_detector}
use Rattle.ixl_state.specs.ixl_spec.Rules.{count}
use Rattle.ixl_state.specs.ixl_spec.State.{IxlState, KnownDetectorState, RouteState}
use Rattle.ixl_state.specs.ixl_spec.Step.{Commands, Datagram, Input, Tick, addressed, all_clocked, detector_hearing, detector_ticking, given, known_point_hearing, known_point_ticking, known_signal_hearing, known_signal_ticking, looking, looking_by, looks, node_hearing, occupied_heard, route_looks}
use Rattle.ixl_state.specs.ixl_spec.Table.{Row, Table}
use Rattle.ixl_state.specs.ixl_spec.View.{place_in, was_authorised}
use Rattle.ixl_state.specs.ixl_spec.declared.command.Command.{Command}
use Rattle.ixl_state.specs.ixl_spec.declared.command.Command.TheVariants as commands
use Rattle.ixl_state.specs.ixl_spec.declared.command.Refusal.{Refusal}
use Rattle.ixl_laws.specs.WholeStep.{Fits, beaten}
use Rattle.ixl_laws.proofs.PickedByTest.{either}
use Rattle.ixl_laws.proofs.Ruled.{along_holds, at_route_holds, over_holds, with_one_holds}
use Rattle.ixl_laws.proofs.WholeCounts.{heard_by}
use Rattle.ixl_laws.proofs.WholeFits.{fits_same, kept_fits, move_keeps, with_one_keeps}

look_keeps : (p : PassageState) (place : ℕ) (occupied : Bool) → (after_look p place occupied).sections ≡ p.sections
look_keeps p place true = refl
look_keeps p place false = refl

looks_keep : (section : ℕ) (occupied : Bool) (row : Row) (route : RouteState) → (route_looks section occupied row route).passage.sections ≡ route.passage.sections
looks_keep section occupied row route = by_place (place_in section row.sections) refl where
  by_place : (place : Option ℕ) → place_in section row.sections ≡ place → (route_looks section occupied row route).passage.sections ≡ route.passage.sections
  by_place None is = rw is refl
  by_place (Some place) is = rw is (look_keeps route.passage place occupied)

module _ (table : Table) where
  abbrev On : StepSoFar → Type 0
  On part = Fits table part.ixl

  looking_by_fits : (section : ℕ) (occupied : Bool) (number : ℕ) (part : StepSoFar) → On part → On (looking_by section occupied table number part)
  unfolding looking_by
  looking_by_fits section occupied number part fits = at_route_holds On table number _ part (λ row route.
      either On (was_authorised route.phase) _ _ (kept_fits table number (route_looks section occupied row) part.ixl (looks_keep section occupied row) fits) fits) fits

  looking_fits : (look : ℕ × Bool) (part : StepSoFar) → On part → On (looking table look part)
  looking_fits look part fits = over_holds On (looking_by look.0 look.1 table) (looking_by_fits look.0 look.1) (count table) part fits

  detector_fits : (now : ℕ) (bytes : List ℕ) (place : ℕ) (part : StepSoFar) → On part → On (detector_hearing now table bytes place part)
  unfolding detector_hearing
  detector_fits now bytes place part fits = with_one_holds On (slice_get table.detectors place) _ part (λ sections listed.
      with_one_holds On (slice_get part.ixl.detectors place) _ part (λ detector there. hear sections detector) fits) fits
    where
      hear : (sections : List ℕ) (detector : KnownDetectorState) → On (heard_by now table bytes place sections detector part)
      hear sections detector =
          let done = hearing now bytes (begun detector.client part.outbox)
          in along_holds On (looking table) looking_fits (looks sections detector done.heard done.client)
          (with_detector place (detector_after (occupied_heard done.heard detector.occupied) done.client) (noted (Detector place) done part))
          (fits_same table part.ixl _ refl fits)

  node_fits : (now : ℕ) (bytes : List ℕ) (node : Node) (part : StepSoFar) → On part → On (node_hearing now table bytes node part)
  unfolding node_hearing known_signal_hearing known_point_hearing
  node_fits now bytes (Signal place) part fits = fits_same table part.ixl _ (with_one_keeps (slice_get part.ixl.known_signals place) _ part (λ known_signal. refl)) fits
  node_fits now bytes (Point place) part fits = fits_same table part.ixl _ (with_one_keeps (slice_get part.ixl.known_points place) _ part (λ known_point. refl)) fits
  node_fits now bytes (Detector place) part fits = detector_fits now bytes place part fits

  obeyed_fits : (now : ℕ) (command : Command) (ixl : IxlState) → Fits table ixl → Fits table (obeyed now command ixl)
  unfolding obeyed
  obeyed_fits now (commands.Request route) ixl fits = fits_same table _ _ refl (kept_fits table route.0 _ ixl (λ other. refl) fits)
  obeyed_fits now (commands.Cancel route) ixl fits = kept_fits table route.0 _ ixl (λ other. refl) fits
  obeyed_fits now commands.Resume ixl fits = fits_same table ixl _ refl fits
  obeyed_fits now (commands.Release route) ixl fits = kept_fits table route.0 _ ixl (λ other. refl) fits
  obeyed_fits now (commands.Move point side) ixl fits = fits
  obeyed_fits now (commands.Close named) ixl fits = fits_same table ixl _ refl fits
  obeyed_fits now (commands.Open named) ixl fits = fits_same table ixl _ refl fits

  commanded_fits : (now : ℕ) (cause : Option Refusal) (command : Command) (ixl : IxlState) → Fits table ixl → Fits table (commanded_by now cause command ixl)
  commanded_fits now None command ixl fits = obeyed_fits now command ixl fits
  commanded_fits now (Some refused) command ixl fits = fits

  moved_fits : (now : ℕ) (cause : Option Refusal) (command : Command) (part : StepSoFar) → On part → On (moved_at_once now cause command part)
  unfolding moved_at_once
  moved_fits now (Some refused) command part fits = fits
  moved_fits now None (commands.Move point side) part fits = fits_same table part.ixl _ (move_keeps now point.0 side part) fits
  moved_fits now None (commands.Request route) part fits = fits
  moved_fits now None (commands.Cancel route) part fits = fits
  moved_fits now None commands.Resume part fits = fits
  moved_fits now None (commands.Release route) part fits = fits
  moved_fits now None (commands.Close named) part fits = fits
  moved_fits now None (commands.Open named) part fits = fits

  pub given_fits : (now : ℕ) (key : Key) (input : Input) (part : StepSoFar) → On part → On (given now table key input part)
  unfolding given
  given_fits now key Tick part fits = fits
  given_fits now key (Datagram bytes) part fits = with_one_holds On (addressed (reading key bytes) part.ixl) _ part (λ node there. node_fits now bytes node part fits) fits
  given_fits now key (Commands command) part fits =
      let cause = refusal now table command part.ixl
      in moved_fits now cause command (record part { ixl = commanded_by now cause command part.ixl }) (commanded_fits now cause command part.ixl fits)

  pub clocked_fits : (now : ℕ) (ixl : IxlState) → Fits table ixl → Fits table (all_clocked now ixl)
  unfolding all_clocked
  clocked_fits now ixl fits = fits_same table ixl _ refl fits

  pub beaten_fits : (now : ℕ) (node : Node) (part : StepSoFar) → On part → On (beaten now node part)
  unfolding known_signal_ticking known_point_ticking detector_ticking
  beaten_fits now (Signal place) part fits = fits_same table part.ixl _ (with_one_keeps (slice_get part.ixl.known_signals place) _ part (λ known_signal. refl)) fits
  beaten_fits now (Point place) part fits = fits_same table part.ixl _ (with_one_keeps (slice_get part.ixl.known_points place) _ part (λ known_point. refl)) fits
  beaten_fits now (Detector place) part fits = fits_same table part.ixl _ (with_one_keeps (slice_get part.ixl.detectors place) _ part (λ detector. refl)) fits
