-- What is closed stays so in each part of a step but in a close and an open.
use Rattle.std.proofs.Common.{◌≡◌, ℕ, zero, suc, Bool, true, false, List, [], ◌∷◌, Option, Some, None, slice_get, length, ◌&&◌, ◌||◌, refl, if◌then◌else◌}
use Rattle.simulator_spec.specs.sci_telegram.declared.message.Aspect.{Aspect}
use Rattle.simulator_spec.specs.sci_telegram.declared.message.Aspect.TheVariants as aspects
use Rattle.simulator_spec.specs.sci_telegram.declared.message.Side.{Side}
use Rattle.simulator_spec.specs.rasta_pdu.declared.key.Key.{Key}
use Rattle.simulator_spec.specs.ixl_client.ClientSoFar.{begun}
use Rattle.simulator_spec.specs.ixl_client.Step.{hearing}
use Rattle.simulator_spec.specs.ixl_spec.closings.declared.closed.Closings.{Closings}
use Rattle.simulator_spec.specs.ixl_spec.closings.declared.thing.Named.{Named}
use Rattle.simulator_spec.specs.ixl_spec.closings.Closed.{with_named}
use Rattle.simulator_spec.specs.ixl_spec.Commands.{commanded_by, moved_at_once, obeyed, refusal}
use Rattle.simulator_spec.specs.ixl_spec.Rules.{authorised, count, ending_authority, freeing_by_cancel, freeing_by_passage, freeing_next, frees_cancelled, frees_next, is_move_due, is_proceed_due, is_proceeding, is_stop_due, is_withdrawn, moving, moving_one, proceeding, repeated, ruled, withdrawing}
use Rattle.simulator_spec.specs.ixl_spec.State.{IxlState, RouteState}
use Rattle.simulator_spec.specs.ixl_spec.Step as ixl
use Rattle.simulator_spec.specs.ixl_spec.Step.{all_clocked, answer_by, detector_hearing, detector_ticking, given, known_point_hearing, known_point_ticking, known_signal_hearing, known_signal_ticking, looking, looking_by, looks, node_hearing, occupied_heard, reply, stepped, ticked, watching}
use Rattle.simulator_spec.specs.ixl_spec.StepSoFar.{Detector, Node, Point, Signal, StepSoFar, along, at_route, begun_with, detector_after, empty_outbox, giving_aspect, giving_move, noted, over, with_detector, with_one, with_route}
use Rattle.simulator_spec.specs.ixl_spec.Table.{Need, Row, Table}
use Rattle.simulator_spec.specs.ixl_spec.View.{is_at_known_stop, is_signal_ready, was_authorised}
use Rattle.simulator_spec.specs.ixl_spec.declared.command.Command.TheVariants as commands
use Rattle.simulator_spec.specs.ixl_spec.declared.command.Refusal.{Refusal}

either : {A : Type 0} (fact : A → Type 0) (b : Bool) (one other : A) → fact one → fact other → fact (if b then one else other)
either fact true one other is also = is
either fact false one other is also = also

module _ (closed : Closings) where
  abbrev Stays : StepSoFar → Type 0
  Stays part = part.ixl.closed ≡ closed

  -- ---- how parts are put together

  one_stays : {A : Type 0} (one : Option A) (does : A → StepSoFar → StepSoFar) (part : StepSoFar) → Stays part → ((a : A) (other : StepSoFar) → Stays other → Stays (does a other)) → Stays (with_one one does part)
  one_stays None does part is each = is
  one_stays (Some a) does part is each = each a part is

  at_stays : (table : Table) (number : ℕ) (does : Row → RouteState → StepSoFar → StepSoFar) (part : StepSoFar) → Stays part →
      ((row : Row) (route : RouteState) (other : StepSoFar) → Stays other → Stays (does row route other)) → Stays (at_route table number does part)
  unfolding at_route
  at_stays table number does part is each = one_stays (slice_get table.rows number) _ part is (λ row other also. one_stays (slice_get other.ixl.routes number) (does row) other also (each row))

  over_stays : (does : ℕ → StepSoFar → StepSoFar) → ((number : ℕ) (part : StepSoFar) → Stays part → Stays (does number part)) → (n : ℕ) (part : StepSoFar) → Stays part → Stays (over does n part)
  over_stays does each zero part is = is
  over_stays does each (suc n) part is = each n (over does n part) (over_stays does each n part is)

  along_stays : {A : Type 0} (does : A → StepSoFar → StepSoFar) → ((a : A) (part : StepSoFar) → Stays part → Stays (does a part)) → (list : List A) (part : StepSoFar) → Stays part → Stays (along does list part)
  along_stays does each [] part is = is
  along_stays does each (first ∷ others) part is = along_stays does each others (does first part) (each first part is)

  repeated_stays : (does : StepSoFar → StepSoFar) → ((part : StepSoFar) → Stays part → Stays (does part)) → (n : ℕ) (part : StepSoFar) → Stays part → Stays (repeated n does part)
  repeated_stays does each zero part is = is
  repeated_stays does each (suc n) part is = repeated_stays does each n (does part) (each part is)

  -- ---- the rules

  aspect_stays : (now signal : ℕ) (aspect : Aspect) (part : StepSoFar) → Stays part → Stays (giving_aspect now signal aspect part)
  unfolding giving_aspect
  aspect_stays now signal aspect part is = one_stays (slice_get part.ixl.known_signals signal) _ part is (λ known_signal other also. also)

  move_stays : (now point : ℕ) (side : Side) (part : StepSoFar) → Stays part → Stays (giving_move now point side part)
  unfolding giving_move
  move_stays now point side part is = one_stays (slice_get part.ixl.known_points point) _ part is (λ known_point other also. also)

  withdrawing_stays : (now : ℕ) (table : Table) (number : ℕ) (part : StepSoFar) → Stays part → Stays (withdrawing now table number part)
  unfolding withdrawing
  withdrawing_stays now table number part is = at_stays table number _ part is (λ row route other also.
      either Stays (is_stop_due table other.ixl row route) _ _ (either Stays (is_signal_ready other.ixl row.entry) _ _ (aspect_stays now row.entry aspects.Stop _ also) also) also)

  ending_stays : (now : ℕ) (table : Table) (number : ℕ) (part : StepSoFar) → Stays part → Stays (ending_authority now table number part)
  unfolding ending_authority
  ending_stays now table number part is = at_stays table number _ part is (λ row route other also. either Stays (is_withdrawn route.phase && is_at_known_stop now other.ixl row.entry) _ _ also also)

  next_stays : (table : Table) (number : ℕ) (part : StepSoFar) → Stays part → Stays (freeing_next table number part)
  unfolding freeing_next
  next_stays table number part is = at_stays table number _ part is (λ row route other also. either Stays (frees_next table other.ixl row route route.phase) _ _ also also)

  passage_stays : (table : Table) (number : ℕ) (part : StepSoFar) → Stays part → Stays (freeing_by_passage table number part)
  unfolding freeing_by_passage
  passage_stays table number part is = at_stays table number _ part is (λ row route other also. repeated_stays (freeing_next table number) (next_stays table number) (length row.sections) other also)

  cancel_stays : (now : ℕ) (table : Table) (number : ℕ) (part : StepSoFar) → Stays part → Stays (freeing_by_cancel now table number part)
  unfolding freeing_by_cancel
  cancel_stays now table number part is = at_stays table number _ part is (λ row route other also. either Stays (route.cancelled && frees_cancelled now table other.ixl row route route.phase) _ _ also also)

  moving_one_stays : (now : ℕ) (table : Table) (number : ℕ) (need : Need) (part : StepSoFar) → Stays part → Stays (moving_one now table number need part)
  unfolding moving_one
  moving_one_stays now table number need part is = at_stays table number _ part is (λ row route other also. either Stays (is_move_due table other.ixl number route need) _ _ (move_stays now need.point need.side other also) also)

  moving_stays : (now : ℕ) (table : Table) (number : ℕ) (part : StepSoFar) → Stays part → Stays (moving now table number part)
  unfolding moving
  moving_stays now table number part is = at_stays table number _ part is (λ row route other also. along_stays (moving_one now table number) (moving_one_stays now table number) row.needs other also)

  proceeding_stays : (now : ℕ) (table : Table) (number : ℕ) (part : StepSoFar) → Stays part → Stays (proceeding now table number part)
  unfolding proceeding
  proceeding_stays now table number part is = at_stays table number _ part is (λ row route other also.
      either Stays (is_proceed_due now table other.ixl row route) _ _ (aspect_stays now row.entry row.aspect (with_route number (authorised table other.ixl row) other) also) also)

  ruled_stays : (now : ℕ) (table : Table) (part : StepSoFar) → Stays part → Stays (ruled now table part)
  ruled_stays now table part is =
      over_stays (proceeding now table) (proceeding_stays now table) (count table) _
      (over_stays (moving now table) (moving_stays now table) (count table) _
      (over_stays (freeing_by_cancel now table) (cancel_stays now table) (count table) _
      (over_stays (freeing_by_passage table) (passage_stays table) (count table) _
      (over_stays (ending_authority now table) (ending_stays now table) (count table) _
      (over_stays (withdrawing now table) (withdrawing_stays now table) (count table) part is)))))

  -- ---- what is seen, what is heard, and ticks

  watching_stays : (table : Table) (number : ℕ) (part : StepSoFar) → Stays part → Stays (watching table number part)
  unfolding watching
  watching_stays table number part is = at_stays table number _ part is (λ row route other also. either Stays (is_proceeding route.phase || is_withdrawn route.phase) _ _ also also)

  looking_by_stays : (section : ℕ) (occupied : Bool) (table : Table) (number : ℕ) (part : StepSoFar) → Stays part → Stays (looking_by section occupied table number part)
  unfolding looking_by
  looking_by_stays section occupied table number part is = at_stays table number _ part is (λ row route other also. either Stays (was_authorised route.phase) _ _ also also)

  looking_stays : (table : Table) (look : ℕ × Bool) (part : StepSoFar) → Stays part → Stays (looking table look part)
  looking_stays table look part is = over_stays (looking_by look.0 look.1 table) (looking_by_stays look.0 look.1 table) (count table) part is

  node_stays : (now : ℕ) (table : Table) (bytes : List ℕ) (node : Node) (part : StepSoFar) → Stays part → Stays (node_hearing now table bytes node part)
  unfolding node_hearing known_signal_hearing known_point_hearing detector_hearing
  node_stays now table bytes (Signal place) part is = one_stays (slice_get part.ixl.known_signals place) _ part is (λ known_signal other also. also)
  node_stays now table bytes (Point place) part is = one_stays (slice_get part.ixl.known_points place) _ part is (λ known_point other also. also)
  node_stays now table bytes (Detector place) part is = one_stays (slice_get table.detectors place) _ part is (λ sections other also. one_stays (slice_get part.ixl.detectors place) _ other also (λ detector another still.
      let done = hearing now bytes (begun detector.client another.outbox)
      in along_stays (looking table) (looking_stays table) (looks sections detector done.heard done.client)
      (with_detector place (detector_after (occupied_heard done.heard detector.occupied) done.client) (noted (Detector place) done another)) still))

  signal_tick_stays : (now signal : ℕ) (part : StepSoFar) → Stays part → Stays (known_signal_ticking now signal part)
  unfolding known_signal_ticking
  signal_tick_stays now signal part is = one_stays (slice_get part.ixl.known_signals signal) _ part is (λ known_signal other also. also)

  point_tick_stays : (now point : ℕ) (part : StepSoFar) → Stays part → Stays (known_point_ticking now point part)
  unfolding known_point_ticking
  point_tick_stays now point part is = one_stays (slice_get part.ixl.known_points point) _ part is (λ known_point other also. also)

  detector_tick_stays : (now place : ℕ) (part : StepSoFar) → Stays part → Stays (detector_ticking now place part)
  unfolding detector_ticking
  detector_tick_stays now place part is = one_stays (slice_get part.ixl.detectors place) _ part is (λ detector other also. also)

  ticked_stays : (now : ℕ) (input : ixl.Input) (part : StepSoFar) → Stays part → Stays (ticked now input part)
  unfolding ticked
  ticked_stays now (ixl.Datagram bytes) part is = is
  ticked_stays now (ixl.Commands command) part is = is
  ticked_stays now ixl.Tick part is =
      over_stays (detector_ticking now) (detector_tick_stays now) (length part.ixl.detectors) _
      (over_stays (known_point_ticking now) (point_tick_stays now) (length part.ixl.known_points) _
      (over_stays (known_signal_ticking now) (signal_tick_stays now) (length part.ixl.known_signals) part is))

  -- behind its input nothing of a step changes it
  behind_stays : (now : ℕ) (table : Table) (input : ixl.Input) (heard : StepSoFar) → Stays heard → Stays (ticked now input (ruled now table (over (watching table) (count table) heard)))
  behind_stays now table input heard is = ticked_stays now input _ (ruled_stays now table _ (over_stays (watching table) (watching_stays table) (count table) heard is))

-- what is closed by a close, by why it is refused
close_obeyed : (now : ℕ) (named : Named) (part : StepSoFar) (cause : Option Refusal) → answer_by cause ≡ ixl.Accepted
    → (moved_at_once now cause (commands.Close named) (record part { ixl = commanded_by now cause (commands.Close named) part.ixl })).ixl.closed ≡ with_named part.ixl.closed named
unfolding moved_at_once obeyed
close_obeyed now named part None is = refl
close_obeyed now named part (Some refused) is = absurd (cc)

-- A close that is accepted closes what it names, and nothing after it in its step opens it again.
pub close_taken : (now : ℕ) (table : Table) (key : Key) (named : Named) (state : IxlState) → reply now table key (ixl.Commands (commands.Close named)) state ≡ ixl.Accepted →
    (stepped now table key (ixl.Commands (commands.Close named)) (begun_with state empty_outbox)).ixl.closed ≡ with_named state.closed named
unfolding stepped given reply all_clocked
close_taken now table key named state accepted =
    let begun : StepSoFar = begun_with (all_clocked now state) empty_outbox in
    let cause = refusal now table (commands.Close named) (all_clocked now state) in
    let heard : StepSoFar = moved_at_once now cause (commands.Close named) (record begun { ixl = commanded_by now cause (commands.Close named) (all_clocked now state) }) in
    behind_stays (with_named state.closed named) now table (ixl.Commands (commands.Close named)) heard (close_obeyed now named begun cause accepted)
