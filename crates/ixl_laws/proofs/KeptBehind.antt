-- What stays as it is in each part of a step behind its input: what is closed, how many signals there are, and of each
-- route what it uses at most, and the clock of its release.
use Rattle.std.proofs.Common.{◌≡◌, ℕ, zero, suc, Bool, true, List, [], ◌∷◌, length, refl, ap, sym, ◌∙◌, subst}
use Rattle.std.specs.Prelude.{◌&&◌, ◌||◌, Option, Some, None, slice_get}
use Rattle.std.proofs.lemmas.Bool.{false≢true}
use Rattle.std.proofs.lemmas.List.{length-map}
use Rattle.ixl_state.specs.sci_telegram.declared.message.Aspect.{Aspect}
use Rattle.ixl_state.specs.sci_telegram.declared.message.Aspect.TheVariants as aspects
use Rattle.ixl_state.specs.sci_telegram.declared.message.Side.{Side}
use Rattle.ixl_state.specs.rasta_pdu.PduRead.{reading}
use Rattle.ixl_state.specs.rasta_pdu.declared.key.Key.{Key}
use Rattle.ixl_state.specs.ixl_spec.closings.declared.closed.Closings.{Closings}
use Rattle.ixl_state.specs.ixl_spec.closings.Closed.{nothing}
use Rattle.ixl_state.specs.ixl_client.ClientSoFar.{ClientSoFar, begun}
use Rattle.ixl_state.specs.ixl_client.Step.{commanding, hearing, ticking}
use Rattle.ixl_state.specs.ixl_client.declared.command.Command.TheVariants as telegrams
use Rattle.ixl_state.specs.ixl_spec.Commands.{commanded_by, moved_at_once, obeyed, refusal}
use Rattle.ixl_state.specs.ixl_spec.Rules.{authorised, come_to, count, ending_authority, freed, freeing_by_cancel, freeing_by_passage, freeing_next, frees_cancelled, frees_next, is_move_due, is_proceed_due, is_proceeding, is_stop_due, is_withdrawn, moving, moving_one, one_freed, proceeding, repeated, ruled, stopped, withdrawing}
use Rattle.ixl_state.specs.ixl_spec.State.{IxlState, KnownSignalState, RouteState}
use Rattle.ixl_state.specs.ixl_spec.Step.{Commands, Datagram, Input, Reply, Tick, addressed, all_clocked, answer_by, detector_hearing, detector_ticking, given, indicated_heard, known_point_hearing, known_point_ticking, known_signal_hearing, known_signal_ticking, looking, looking_by, looks, node_hearing, occupied_heard, reply, route_looks, stepped, ticked, watching}
use Rattle.ixl_state.specs.ixl_spec.StepSoFar.{Detector, Node, StepSoFar, Point, Signal, along, at_route, begun_with, detector_after, empty_outbox, giving_aspect, giving_move, known_signal_after, noted, over, with_detector, with_known_signal, with_one, with_route}
use Rattle.ixl_state.specs.ixl_spec.Table.{Need, Row, Table}
use Rattle.ixl_state.specs.ixl_spec.View.{is_at_known_stop, is_signal_ready, was_authorised}
use Rattle.ixl_state.specs.ixl_spec.declared.command.Command.{Command}
use Rattle.ixl_state.specs.ixl_spec.declared.command.Command.TheVariants as commands
use Rattle.ixl_state.specs.ixl_spec.declared.command.Refusal.{Refusal}
use Rattle.ixl_state.specs.ixl_spec.declared.phase.Phase.{Phase}
use Rattle.ixl_state.specs.ixl_spec.declared.phase.Phase.TheVariants as phase
use Rattle.ixl_state.specs.layout.Entries.{Site}
use Rattle.ixl_state.specs.First.{Beginning, key_of, new_ixl}
use Rattle.ixl.specs.Interlocking.{HasStepped, InterlockingState}
use Rattle.ixl_laws.specs.Operations.{closed_after}
use Rattle.ixl_laws.proofs.Following.{Follows, FollowsAll, all_follow_as, all_follow_changed, all_follow_same, follows_authorised, follows_freed, follows_look, follows_next, follows_to}
use Rattle.ixl_laws.proofs.Onward.{onward_same}
use Rattle.ixl_laws.proofs.PickedByTest.{both, either, picked, some_same}
use Rattle.ixl_laws.proofs.RoutesGoOn.{from_proceeding, from_waiting, from_withdrawn}
use Rattle.ixl_laws.proofs.WholeFits.{changed_length}

-- parts of a step left this as it was
pub record KeptSince (closed : Closings) (signals : ℕ) (routes : List RouteState) (part : StepSoFar) : Type 0 where
  pub closed_is : part.ixl.closed ≡ closed
  pub signals_are : length part.ixl.known_signals ≡ signals
  pub follow : FollowsAll routes part.ixl.routes

module _ (closed : Closings) (signals : ℕ) (routes : List RouteState) where
  abbrev Stays : StepSoFar → Type 0
  Stays part = KeptSince closed signals routes part

  -- ---- how parts are put together

  one_stays : {A : Type 0} (one : Option A) (does : A → StepSoFar → StepSoFar) (part : StepSoFar) → Stays part → ((a : A) → Stays (does a part)) → Stays (with_one one does part)
  one_stays None does part is each = is
  one_stays (Some a) does part is each = each a

  at_stays : (table : Table) (number : ℕ) (does : Row → RouteState → StepSoFar → StepSoFar) (part : StepSoFar) → Stays part →
      ((row : Row) (route : RouteState) → slice_get part.ixl.routes number ≡ Some route → Stays (does row route part)) → Stays (at_route table number does part)
  unfolding at_route
  at_stays table number does part is each = one_stays (slice_get table.rows number) _ part is (λ row. by_route row (slice_get part.ixl.routes number) refl) where
    by_route : (row : Row) (one : Option RouteState) → slice_get part.ixl.routes number ≡ one → Stays (with_one one (does row) part)
    by_route row None at = is
    by_route row (Some route) at = each row route at

  over_stays : (does : ℕ → StepSoFar → StepSoFar) → ((number : ℕ) (part : StepSoFar) → Stays part → Stays (does number part)) → (n : ℕ) (part : StepSoFar) → Stays part → Stays (over does n part)
  over_stays does each zero part is = is
  over_stays does each (suc n) part is = each n (over does n part) (over_stays does each n part is)

  along_stays : {A : Type 0} (does : A → StepSoFar → StepSoFar) → ((a : A) (part : StepSoFar) → Stays part → Stays (does a part)) → (list : List A) (part : StepSoFar) → Stays part → Stays (along does list part)
  along_stays does each [] part is = is
  along_stays does each (first ∷ others) part is = along_stays does each others (does first part) (each first part is)

  repeated_stays : (does : StepSoFar → StepSoFar) → ((part : StepSoFar) → Stays part → Stays (does part)) → (n : ℕ) (part : StepSoFar) → Stays part → Stays (repeated n does part)
  repeated_stays does each zero part is = is
  repeated_stays does each (suc n) part is = repeated_stays does each n (does part) (each part is)

  -- other points and detectors
  field_stays : (part other : StepSoFar) → Stays part → other.ixl.closed ≡ part.ixl.closed → other.ixl.known_signals ≡ part.ixl.known_signals → other.ixl.routes ≡ part.ixl.routes → Stays other
  field_stays part other is same_closed same_signals same_routes = record {
    closed_is = same_closed ∙ is.closed_is;
    signals_are = ap length same_signals ∙ is.signals_are;
    follow = all_follow_as routes part.ixl.routes other.ixl.routes same_routes is.follow;
  }

  -- one signal is changed
  signal_stays : (signal : ℕ) (known_signal : KnownSignalState) (part : StepSoFar) → Stays part → Stays (with_known_signal signal known_signal part)
  signal_stays signal known_signal part is = record {
    closed_is = is.closed_is;
    signals_are = changed_length (λ old. known_signal) signal part.ixl.known_signals ∙ is.signals_are;
    follow = is.follow;
  }

  -- a signal of which its client did something
  signal_heard : (signal : ℕ) (done : ClientSoFar) (known_signal : KnownSignalState) (part : StepSoFar) → Stays part → Stays (with_known_signal signal known_signal (noted (Signal signal) done part))
  signal_heard signal done known_signal part is = signal_stays signal known_signal (noted (Signal signal) done part) (field_stays part (noted (Signal signal) done part) is refl refl refl)

  -- one route is changed to one that follows on it
  pub route_stays : (number : ℕ) (change : RouteState → RouteState) (part : StepSoFar) → ((route : RouteState) → slice_get part.ixl.routes number ≡ Some route → Follows route (change route)) → Stays part → Stays (with_route number change part)
  route_stays number change part fits is = record {
    closed_is = is.closed_is;
    signals_are = is.signals_are;
    follow = all_follow_changed routes change number part.ixl.routes fits is.follow;
  }

  -- ---- the rules

  pub aspect_stays : (now signal : ℕ) (aspect : Aspect) (part : StepSoFar) → Stays part → Stays (giving_aspect now signal aspect part)
  unfolding giving_aspect
  aspect_stays now signal aspect part is = one_stays (slice_get part.ixl.known_signals signal) _ part is (λ known_signal.
      let done = commanding now (telegrams.Indicate aspect) (begun known_signal.client part.outbox)
      in signal_heard signal done (known_signal_after (Some aspect) done.client.link.given known_signal.indicated done.client) part is)

  pub move_stays : (now point : ℕ) (side : Side) (part : StepSoFar) → Stays part → Stays (giving_move now point side part)
  unfolding giving_move
  move_stays now point side part is = one_stays (slice_get part.ixl.known_points point) _ part is (λ known_point. field_stays part _ is refl refl refl)

  pub stopped_stays : (now : ℕ) (row : Row) (part : StepSoFar) → Stays part → Stays (stopped now row part)
  stopped_stays now row part is = either Stays (is_signal_ready part.ixl row.entry) _ _ (aspect_stays now row.entry aspects.Stop part is) is

  -- what is kept at a number is the one that was looked up there
  as_there : (part : StepSoFar) (number : ℕ) (route other : RouteState) (change : RouteState → RouteState) → slice_get part.ixl.routes number ≡ Some route → slice_get part.ixl.routes number ≡ Some other →
      Follows route (change route) → Follows other (change other)
  as_there part number route other change is also follows = subst (λ (r : RouteState). Follows r (change r)) (some_same (sym is ∙ also)) follows

  withdrawing_stays : (now : ℕ) (table : Table) (number : ℕ) (part : StepSoFar) → Stays part → Stays (withdrawing now table number part)
  unfolding withdrawing
  withdrawing_stays now table number part is = at_stays table number _ part is (λ row route at.
      picked Stays (is_stop_due table part.ixl row route) _ _
      (λ due. stopped_stays now row (with_route number (come_to phase.Withdrawn) part)
      (route_stays number (come_to phase.Withdrawn) part (λ other also.
      as_there part number route other (come_to phase.Withdrawn) at also (follows_to route phase.Withdrawn (from_proceeding route.phase (both _ _ due).0))) is))
      (λ none. is))

  ending_stays : (now : ℕ) (table : Table) (number : ℕ) (part : StepSoFar) → Stays part → Stays (ending_authority now table number part)
  unfolding ending_authority
  ending_stays now table number part is = at_stays table number _ part is (λ row route at.
      picked Stays (is_withdrawn route.phase && is_at_known_stop now part.ixl row.entry) _ _
      (λ due. route_stays number (come_to (phase.Ended now 0)) part (λ other also.
      as_there part number route other (come_to (phase.Ended now 0)) at also (follows_to route (phase.Ended now 0) (from_withdrawn now route.phase (both _ _ due).0))) is)
      (λ none. is))

  -- a section is freed of a route whose authority is ended
  next_follows : (table : Table) (ixl : IxlState) (row : Row) (route other : RouteState) (p : Phase) → route.phase ≡ p → frees_next table ixl row route p ≡ true → other ≡ route → Follows other (one_freed row p other)
  next_follows table ixl row route other (phase.Ended clock done) at due same = follows_next row clock done other (ap (λ (r : RouteState). r.phase) same ∙ at)
  next_follows table ixl row route other phase.Free at due same = absurd (false≢true due)
  next_follows table ixl row route other phase.Waiting at due same = absurd (false≢true due)
  next_follows table ixl row route other phase.Proceeding at due same = absurd (false≢true due)
  next_follows table ixl row route other phase.Withdrawn at due same = absurd (false≢true due)

  next_stays : (table : Table) (number : ℕ) (part : StepSoFar) → Stays part → Stays (freeing_next table number part)
  unfolding freeing_next
  next_stays table number part is = at_stays table number _ part is (λ row route at.
      picked Stays (frees_next table part.ixl row route route.phase) _ _
      (λ due. route_stays number (one_freed row route.phase) part (λ other also.
      next_follows table part.ixl row route other route.phase refl due (some_same (sym also ∙ at))) is)
      (λ none. is))

  passage_stays : (table : Table) (number : ℕ) (part : StepSoFar) → Stays part → Stays (freeing_by_passage table number part)
  unfolding freeing_by_passage
  passage_stays table number part is = at_stays table number _ part is (λ row route at. repeated_stays (freeing_next table number) (next_stays table number) (length row.sections) part is)

  cancel_stays : (now : ℕ) (table : Table) (number : ℕ) (part : StepSoFar) → Stays part → Stays (freeing_by_cancel now table number part)
  unfolding freeing_by_cancel
  cancel_stays now table number part is = at_stays table number _ part is (λ row route at.
      either Stays (route.cancelled && frees_cancelled now table part.ixl row route route.phase) _ _ (route_stays number freed part (λ other also. follows_freed other) is) is)

  moving_one_stays : (now : ℕ) (table : Table) (number : ℕ) (need : Need) (part : StepSoFar) → Stays part → Stays (moving_one now table number need part)
  unfolding moving_one
  moving_one_stays now table number need part is = at_stays table number _ part is (λ row route at. either Stays (is_move_due table part.ixl number route need) _ _ (move_stays now need.point need.side part is) is)

  moving_stays : (now : ℕ) (table : Table) (number : ℕ) (part : StepSoFar) → Stays part → Stays (moving now table number part)
  unfolding moving
  moving_stays now table number part is = at_stays table number _ part is (λ row route at. along_stays (moving_one now table number) (moving_one_stays now table number) row.needs part is)

  proceeding_stays : (now : ℕ) (table : Table) (number : ℕ) (part : StepSoFar) → Stays part → Stays (proceeding now table number part)
  unfolding proceeding
  proceeding_stays now table number part is = at_stays table number _ part is (λ row route at.
      picked Stays (is_proceed_due now table part.ixl row route) _ _
      (λ due. aspect_stays now row.entry row.aspect (with_route number (authorised table part.ixl row) part)
      (route_stays number (authorised table part.ixl row) part (λ other also.
      as_there part number route other (authorised table part.ixl row) at also (follows_authorised table part.ixl row route
      (from_waiting route.phase (both _ _ (both _ _ (both _ _ (both _ _ (both _ _ due).0).0).0).0).0))) is))
      (λ none. is))

  ruled_stays : (now : ℕ) (table : Table) (part : StepSoFar) → Stays part → Stays (ruled now table part)
  ruled_stays now table part is =
      over_stays (proceeding now table) (proceeding_stays now table) (count table) _
      (over_stays (moving now table) (moving_stays now table) (count table) _
      (over_stays (freeing_by_cancel now table) (cancel_stays now table) (count table) _
      (over_stays (freeing_by_passage table) (passage_stays table) (count table) _
      (over_stays (ending_authority now table) (ending_stays now table) (count table) _
      (over_stays (withdrawing now table) (withdrawing_stays now table) (count table) part is)))))

  -- ---- what is seen, what is heard, and ticks

  watching_stays : (table : Table) (number : ℕ) (part : StepSoFar) → Stays part → Stays (watching table number part)
  unfolding watching
  watching_stays table number part is = at_stays table number _ part is (λ row route at.
      either Stays (is_proceeding route.phase || is_withdrawn route.phase) _ _
      (route_stays number _ part (λ other also. record { onward = onward_same other.phase; cancelled = λ set. refl; released = refl }) is) is)

  looking_by_stays : (section : ℕ) (occupied : Bool) (table : Table) (number : ℕ) (part : StepSoFar) → Stays part → Stays (looking_by section occupied table number part)
  unfolding looking_by
  looking_by_stays section occupied table number part is = at_stays table number _ part is (λ row route at.
      either Stays (was_authorised route.phase) _ _ (route_stays number (route_looks section occupied row) part (λ other also. follows_look section occupied row other) is) is)

  looking_stays : (table : Table) (look : ℕ × Bool) (part : StepSoFar) → Stays part → Stays (looking table look part)
  looking_stays table look part is = over_stays (looking_by look.0 look.1 table) (looking_by_stays look.0 look.1 table) (count table) part is

  node_stays : (now : ℕ) (table : Table) (bytes : List ℕ) (node : Node) (part : StepSoFar) → Stays part → Stays (node_hearing now table bytes node part)
  unfolding node_hearing known_signal_hearing known_point_hearing detector_hearing
  node_stays now table bytes (Signal place) part is = one_stays (slice_get part.ixl.known_signals place) _ part is (λ known_signal.
      let done = hearing now bytes (begun known_signal.client part.outbox)
      in signal_heard place done (known_signal_after known_signal.aspect known_signal.number (indicated_heard done.heard known_signal.indicated) done.client) part is)
  node_stays now table bytes (Point place) part is = one_stays (slice_get part.ixl.known_points place) _ part is (λ known_point. field_stays part _ is refl refl refl)
  node_stays now table bytes (Detector place) part is = one_stays (slice_get table.detectors place) _ part is (λ sections. one_stays (slice_get part.ixl.detectors place) _ part is (λ detector.
      let done = hearing now bytes (begun detector.client part.outbox)
      in along_stays (looking table) (looking_stays table) (looks sections detector done.heard done.client)
      (with_detector place (detector_after (occupied_heard done.heard detector.occupied) done.client) (noted (Detector place) done part)) (field_stays part _ is refl refl refl)))

  pub known_signal_stays : (now signal : ℕ) (part : StepSoFar) → Stays part → Stays (known_signal_ticking now signal part)
  unfolding known_signal_ticking
  known_signal_stays now signal part is = one_stays (slice_get part.ixl.known_signals signal) _ part is (λ known_signal.
      let done = ticking now (begun known_signal.client part.outbox)
      in signal_heard signal done (known_signal_after known_signal.aspect known_signal.number known_signal.indicated done.client) part is)

  pub known_point_stays : (now point : ℕ) (part : StepSoFar) → Stays part → Stays (known_point_ticking now point part)
  unfolding known_point_ticking
  known_point_stays now point part is = one_stays (slice_get part.ixl.known_points point) _ part is (λ known_point. field_stays part _ is refl refl refl)

  pub detector_stays : (now place : ℕ) (part : StepSoFar) → Stays part → Stays (detector_ticking now place part)
  unfolding detector_ticking
  detector_stays now place part is = one_stays (slice_get part.ixl.detectors place) _ part is (λ detector. field_stays part _ is refl refl refl)

  ticked_stays : (now : ℕ) (input : Input) (part : StepSoFar) → Stays part → Stays (ticked now input part)
  unfolding ticked
  ticked_stays now (Datagram bytes) part is = is
  ticked_stays now (Commands command) part is = is
  ticked_stays now Tick part is =
      over_stays (detector_ticking now) (detector_stays now) (length part.ixl.detectors) _
      (over_stays (known_point_ticking now) (known_point_stays now) (length part.ixl.known_points) _
      (over_stays (known_signal_ticking now) (known_signal_stays now) (length part.ixl.known_signals) part is))

  -- ---- a step

  pub behind_stays : (now : ℕ) (table : Table) (input : Input) (heard : StepSoFar) → Stays heard → Stays (ticked now input (ruled now table (over (watching table) (count table) heard)))
  behind_stays now table input heard is = ticked_stays now input _ (ruled_stays now table _ (over_stays (watching table) (watching_stays table) (count table) heard is))

  moved_stays : (now : ℕ) (cause : Option Refusal) (command : Command) (part : StepSoFar) → Stays part → Stays (moved_at_once now cause command part)
  unfolding moved_at_once
  moved_stays now (Some refused) command part is = is
  moved_stays now None (commands.Move point side) part is = move_stays now point.0 side part is
  moved_stays now None (commands.Request route) part is = is
  moved_stays now None (commands.Cancel route) part is = is
  moved_stays now None commands.Resume part is = is
  moved_stays now None (commands.Release route) part is = is
  moved_stays now None (commands.Close named) part is = is
  moved_stays now None (commands.Open named) part is = is

  pub datagram_stays : (now : ℕ) (table : Table) (key : Key) (bytes : List ℕ) (part : StepSoFar) → Stays part → Stays (given now table key (Datagram bytes) part)
  unfolding given
  datagram_stays now table key bytes part is = one_stays (addressed (reading key bytes) part.ixl) (node_hearing now table bytes) part is (λ node. node_stays now table bytes node part is)

-- what a command closes and opens, by why it is refused
commanded : (now : ℕ) (cause : Option Refusal) (command : Command) (ixl : IxlState) → (commanded_by now cause command ixl).closed ≡ closed_after (Commands command) (answer_by cause) ixl.closed
unfolding obeyed
commanded now (Some refused) (commands.Request route) ixl = refl
commanded now (Some refused) (commands.Cancel route) ixl = refl
commanded now (Some refused) commands.Resume ixl = refl
commanded now (Some refused) (commands.Release route) ixl = refl
commanded now (Some refused) (commands.Move point side) ixl = refl
commanded now (Some refused) (commands.Close named) ixl = refl
commanded now (Some refused) (commands.Open named) ixl = refl
commanded now None (commands.Request route) ixl = refl
commanded now None (commands.Cancel route) ixl = refl
commanded now None commands.Resume ixl = refl
commanded now None (commands.Release route) ixl = refl
commanded now None (commands.Move point side) ixl = refl
commanded now None (commands.Close named) ixl = refl
commanded now None (commands.Open named) ixl = refl

-- ---- a step, in what its input left

-- what the clock and the input left
abbrev pub behind_input : ℕ → Table → Key → Input → IxlState → StepSoFar
behind_input now table key input ixl = given now table key input (begun_with (all_clocked now ixl) empty_outbox)

-- this stays behind it
abbrev pub StaysBehind : ℕ → Table → Key → Input → IxlState → StepSoFar → Type 0
StaysBehind now table key input ixl part =
    let heard = behind_input now table key input ixl in KeptSince heard.ixl.closed (length heard.ixl.known_signals) heard.ixl.routes part

pub nothing_yet : (part : StepSoFar) → KeptSince part.ixl.closed (length part.ixl.known_signals) part.ixl.routes part
nothing_yet part = record { closed_is = refl; signals_are = refl; follow = all_follow_same part.ixl.routes }

pub stepped_stays : (now : ℕ) (table : Table) (key : Key) (input : Input) (ixl : IxlState) → StaysBehind now table key input ixl (stepped now table key input (begun_with ixl empty_outbox))
unfolding stepped
stepped_stays now table key input ixl =
    let heard = behind_input now table key input ixl
    in behind_stays heard.ixl.closed (length heard.ixl.known_signals) heard.ixl.routes now table input heard (nothing_yet heard)

-- the input changes none of it, unless it is a command
pub others_stay : (now : ℕ) (table : Table) (key : Key) (bytes : List ℕ) (ixl : IxlState) → KeptSince ixl.closed (length ixl.known_signals) ixl.routes (behind_input now table key (Datagram bytes) ixl)
unfolding all_clocked
others_stay now table key bytes ixl = datagram_stays ixl.closed (length ixl.known_signals) ixl.routes now table key bytes (begun_with (all_clocked now ixl) empty_outbox)
    (record { closed_is = refl; signals_are = length-map ixl.known_signals _; follow = all_follow_same ixl.routes })

-- a command is obeyed; a move changes none of it
abbrev pub left_by : ℕ → Table → Command → IxlState → IxlState
left_by now table command ixl = commanded_by now (refusal now table command (all_clocked now ixl)) command (all_clocked now ixl)

pub command_stays : (now : ℕ) (table : Table) (key : Key) (command : Command) (ixl : IxlState) →
    KeptSince (left_by now table command ixl).closed (length (left_by now table command ixl).known_signals) (left_by now table command ixl).routes (behind_input now table key (Commands command) ixl)
unfolding given
command_stays now table key command ixl =
    let cause = refusal now table command (all_clocked now ixl)
    in let kept = commanded_by now cause command (all_clocked now ixl)
    in moved_stays kept.closed (length kept.known_signals) kept.routes now cause command (record (begun_with (all_clocked now ixl) empty_outbox) { ixl = kept })
    (nothing_yet (record (begun_with (all_clocked now ixl) empty_outbox) { ixl = kept }))

pub closed_stepped : (now : ℕ) (table : Table) (key : Key) (input : Input) (ixl : IxlState) →
    (stepped now table key input (begun_with ixl empty_outbox)).ixl.closed ≡ closed_after input (reply now table key input ixl) ixl.closed
unfolding given reply all_clocked
closed_stepped now table key Tick ixl = (stepped_stays now table key Tick ixl).closed_is
closed_stepped now table key (Datagram bytes) ixl = (stepped_stays now table key (Datagram bytes) ixl).closed_is ∙ (others_stay now table key bytes ixl).closed_is
closed_stepped now table key (Commands command) ixl =
    (stepped_stays now table key (Commands command) ixl).closed_is ∙ (command_stays now table key command ixl).closed_is
    ∙ commanded now (refusal now table command (all_clocked now ixl)) command (all_clocked now ixl)

pub closed_step : (now : ℕ) (input : Input) (old new : InterlockingState) (answer : Reply) → HasStepped now input old new answer → new.state.ixl.closed ≡ closed_after input answer old.state.ixl.closed
closed_step now input old new answer step =
    ap (λ (i : IxlState). i.closed) step.ixl
    ∙ closed_stepped now old.state.sited.table (key_of old.state.sited.site) input old.state.ixl
    ∙ ap (λ a. closed_after input a old.state.ixl.closed) (sym step.answered)

pub first_closed : (site : Site) (table : Table) (begins : Beginning) → (new_ixl site table begins).closed ≡ nothing
unfolding new_ixl
first_closed site table begins = refl
