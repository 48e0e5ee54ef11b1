-- Each part of a step lets the routes go on.
use Rattle.std.proofs.Common.{inl, inr, ◌≡◌, ◌⊎◌, ℕ, zero, suc, Bool, true, false, List, [], ◌∷◌, length, arith, refl, ap, sym, ◌∙◌, subst}
use Rattle.std.specs.Prelude.{◌&&◌, ◌||◌, ◌==◌, not, Option, Some, None, slice_get}
use Rattle.std.proofs.lemmas.Bool.{false≢true}
use Rattle.ixl_state.specs.rasta_pdu.PduRead.{reading}
use Rattle.ixl_state.specs.rasta_pdu.declared.key.Key.{Key}
use Rattle.std.specs.Option.{option_or}
use Rattle.ixl_state.specs.ixl_spec.Commands.{closed_refusal, commanded_by, locking_refusal, moved_at_once, obeyed, refusal, refused_where, released_at, request_refusal, set_anew}
use Rattle.ixl_state.specs.ixl_client.ClientSoFar.{begun}
use Rattle.ixl_state.specs.ixl_client.Step.{hearing}
use Rattle.ixl_state.specs.ixl_spec.StepSoFar.{Detector, Node, StepSoFar, Point, Signal, along, at_route, begun_with, detector_after, empty_outbox, giving_aspect, giving_move, noted, over, with_detector, with_one, with_route}
use Rattle.ixl_state.specs.ixl_spec.Rules.{authorised, come_to, count, ending_authority, freed, freeing_by_cancel, freeing_by_passage, freeing_next, frees_cancelled, frees_next, is_move_due, is_proceed_due, is_proceeding, is_stop_due, is_waiting, is_withdrawn, moving, moving_one, one_freed, proceeding, repeated, ruled, stopped, withdrawing}
use Rattle.ixl_state.specs.ixl_spec.State.{KnownDetectorState, IxlState, RouteState, changed}
use Rattle.ixl_state.specs.ixl_spec.Step.{Commands, Datagram, Input, Reply, Tick, Accepted, addressed, all_clocked, answer_by, detector_hearing, detector_ticking, given, known_signal_hearing, known_signal_ticking, looking, looking_by, looks, node_hearing, occupied_heard, reply, route_looks, stepped, known_point_hearing, known_point_ticking, ticked, watching}
use Rattle.ixl_state.specs.ixl_spec.Table.{Need, Row, Table}
use Rattle.ixl_state.specs.ixl_spec.View.{is_at_known_stop, is_holding, is_set, is_signal_ready, place_in, was_authorised}
use Rattle.ixl_state.specs.ixl_spec.declared.command.Command.{Command}
use Rattle.ixl_state.specs.ixl_spec.declared.command.Command.TheVariants as commands
use Rattle.ixl_state.specs.ixl_spec.declared.command.Refusal.{Refusal}
use Rattle.ixl_state.specs.ixl_spec.declared.command.Refusal.TheVariants as refusals
use Rattle.ixl_state.specs.ixl_spec.declared.phase.Phase.{Phase}
use Rattle.ixl_state.specs.ixl_spec.declared.phase.Phase.TheVariants as phase
use Rattle.ixl_state.specs.layout.declared.ids.RouteId.{RouteId}
use Rattle.ixl_state.specs.First.{key_of}
use Rattle.ixl.specs.Interlocking.{HasStepped, InterlockingState}
use Rattle.ixl_laws.specs.Onward.{GoesOn, IsOnward}
use Rattle.ixl_laws.proofs.Onward.{OnwardAll, all_same, all_then, one_changes, onward_same, onward_then, to_free}
use Rattle.ixl_laws.proofs.PickedByTest.{both, either, none_is, picked, some_is, some_same}

PartGoes : StepSoFar → StepSoFar → Type 0
PartGoes a b = OnwardAll a.ixl.routes b.ixl.routes

same_goes : (a b : StepSoFar) → b.ixl.routes ≡ a.ixl.routes → PartGoes a b
unfolding PartGoes
same_goes a b same = all_same a.ixl.routes b.ixl.routes same

then_goes : (a b c : StepSoFar) → PartGoes a b → PartGoes b c → PartGoes a c
unfolding PartGoes
then_goes a b c one next = all_then a.ixl.routes b.ixl.routes c.ixl.routes one next

with_route_goes : (number : ℕ) (change : RouteState → RouteState) (part : StepSoFar) →
    ((route : RouteState) → slice_get part.ixl.routes number ≡ Some route → IsOnward route.phase (change route).phase) → PartGoes part (with_route number change part)
unfolding PartGoes
with_route_goes number change part fits = one_changes change number part.ixl.routes fits

-- ---- how parts are put together

with_one_goes : {A : Type 0} (one : Option A) (does : A → StepSoFar → StepSoFar) (part : StepSoFar) → ((a : A) → PartGoes part (does a part)) → PartGoes part (with_one one does part)
with_one_goes None does part each = same_goes part part refl
with_one_goes (Some a) does part each = each a

with_one_keeps : {A : Type 0} (one : Option A) (does : A → StepSoFar → StepSoFar) (part : StepSoFar) → ((a : A) → (does a part).ixl.routes ≡ part.ixl.routes) → (with_one one does part).ixl.routes ≡ part.ixl.routes
with_one_keeps None does part each = refl
with_one_keeps (Some a) does part each = each a

at_route_goes : (table : Table) (number : ℕ) (does : Row → RouteState → StepSoFar → StepSoFar) (part : StepSoFar) →
    ((row : Row) (route : RouteState) → slice_get part.ixl.routes number ≡ Some route → PartGoes part (does row route part)) → PartGoes part (at_route table number does part)
unfolding at_route
at_route_goes table number does part each = with_one_goes (slice_get table.rows number) _ part (λ row. by_route row (slice_get part.ixl.routes number) refl) where
  by_route : (row : Row) (one : Option RouteState) → slice_get part.ixl.routes number ≡ one → PartGoes part (with_one one (does row) part)
  by_route row None is = same_goes part part refl
  by_route row (Some route) is = each row route is

over_goes : (does : ℕ → StepSoFar → StepSoFar) → ((number : ℕ) (part : StepSoFar) → PartGoes part (does number part)) → (n : ℕ) (part : StepSoFar) → PartGoes part (over does n part)
over_goes does each zero part = same_goes part part refl
over_goes does each (suc n) part = then_goes part (over does n part) (does n (over does n part)) (over_goes does each n part) (each n (over does n part))

along_goes : {A : Type 0} (does : A → StepSoFar → StepSoFar) → ((a : A) (part : StepSoFar) → PartGoes part (does a part)) → (list : List A) (part : StepSoFar) → PartGoes part (along does list part)
along_goes does each [] part = same_goes part part refl
along_goes does each (first ∷ others) part = then_goes part (does first part) (along does others (does first part)) (each first part) (along_goes does each others (does first part))

along_after : {A : Type 0} (does : A → StepSoFar → StepSoFar) → ((a : A) (part : StepSoFar) → PartGoes part (does a part)) → (list : List A) (mid part : StepSoFar) → mid.ixl.routes ≡ part.ixl.routes → PartGoes part (along does list mid)
along_after does each list mid part same = then_goes part mid (along does list mid) (same_goes part mid same) (along_goes does each list mid)

repeated_goes : (does : StepSoFar → StepSoFar) → ((part : StepSoFar) → PartGoes part (does part)) → (n : ℕ) (part : StepSoFar) → PartGoes part (repeated n does part)
repeated_goes does each zero part = same_goes part part refl
repeated_goes does each (suc n) part = then_goes part (does part) (repeated n does (does part)) (each part) (repeated_goes does each n (does part))

-- ---- the rules

giving_aspect_goes : (now signal : ℕ) (aspect : _) (part : StepSoFar) → PartGoes part (giving_aspect now signal aspect part)
unfolding giving_aspect
giving_aspect_goes now signal aspect part = same_goes part _ (with_one_keeps (slice_get part.ixl.known_signals signal) _ part (λ known_signal. refl))

giving_move_goes : (now point : ℕ) (side : _) (part : StepSoFar) → PartGoes part (giving_move now point side part)
unfolding giving_move
giving_move_goes now point side part = same_goes part _ (with_one_keeps (slice_get part.ixl.known_points point) _ part (λ known_point. refl))

pub from_proceeding : (p : Phase) → is_proceeding p ≡ true → IsOnward p phase.Withdrawn
from_proceeding phase.Free is = absurd (false≢true is)
from_proceeding phase.Waiting is = absurd (false≢true is)
from_proceeding phase.Proceeding is = record { order = omega arith; freed = tt }
from_proceeding phase.Withdrawn is = absurd (false≢true is)
from_proceeding (phase.Ended clock done) is = absurd (false≢true is)

pub from_withdrawn : (now : ℕ) (p : Phase) → is_withdrawn p ≡ true → IsOnward p (phase.Ended now 0)
from_withdrawn now phase.Free is = absurd (false≢true is)
from_withdrawn now phase.Waiting is = absurd (false≢true is)
from_withdrawn now phase.Proceeding is = absurd (false≢true is)
from_withdrawn now phase.Withdrawn is = record { order = omega arith; freed = tt }
from_withdrawn now (phase.Ended clock done) is = absurd (false≢true is)

pub from_waiting : (p : Phase) → is_waiting p ≡ true → IsOnward p phase.Proceeding
from_waiting phase.Free is = absurd (false≢true is)
from_waiting phase.Waiting is = record { order = omega arith; freed = tt }
from_waiting phase.Proceeding is = absurd (false≢true is)
from_waiting phase.Withdrawn is = absurd (false≢true is)
from_waiting (phase.Ended clock done) is = absurd (false≢true is)

-- a route that is kept at a number is the one that was looked up there
at_same : (routes : List RouteState) (number : ℕ) (route other : RouteState) (fact : RouteState → Type 0) → slice_get routes number ≡ Some route → slice_get routes number ≡ Some other → fact route → fact other
at_same routes number route other fact is also holds = subst fact (some_same (sym is ∙ also)) holds

stopped_goes : (now : ℕ) (row : Row) (part : StepSoFar) → PartGoes part (stopped now row part)
stopped_goes now row part = either (PartGoes part) (is_signal_ready part.ixl row.entry) _ _ (giving_aspect_goes now row.entry _ part) (same_goes part part refl)

withdrawing_goes : (now : ℕ) (table : Table) (number : ℕ) (part : StepSoFar) → PartGoes part (withdrawing now table number part)
unfolding withdrawing
withdrawing_goes now table number part = at_route_goes table number _ part (λ row route is.
    picked (PartGoes part) (is_stop_due table part.ixl row route) _ _
    (λ due. then_goes part (with_route number (come_to phase.Withdrawn) part) _
    (with_route_goes number (come_to phase.Withdrawn) part (λ other also.
    at_same part.ixl.routes number route other (λ (r : RouteState). IsOnward r.phase phase.Withdrawn) is also (from_proceeding route.phase (both _ _ due).0)))
    (stopped_goes now row (with_route number (come_to phase.Withdrawn) part)))
    (λ none. same_goes part part refl))

ending_goes : (now : ℕ) (table : Table) (number : ℕ) (part : StepSoFar) → PartGoes part (ending_authority now table number part)
unfolding ending_authority
ending_goes now table number part = at_route_goes table number _ part (λ row route is.
    picked (PartGoes part) (is_withdrawn route.phase && is_at_known_stop now part.ixl row.entry) _ _
    (λ due. with_route_goes number (come_to (phase.Ended now 0)) part (λ other also.
    at_same part.ixl.routes number route other (λ (r : RouteState). IsOnward r.phase (phase.Ended now 0)) is also (from_withdrawn now route.phase (both _ _ due).0)))
    (λ none. same_goes part part refl))

next_onward : (table : Table) (ixl : IxlState) (row : Row) (route other : RouteState) (p : Phase) → frees_next table ixl row route p ≡ true → IsOnward p (one_freed row p other).phase
next_onward table ixl row route other phase.Free is = absurd (false≢true is)
next_onward table ixl row route other phase.Waiting is = absurd (false≢true is)
next_onward table ixl row route other phase.Proceeding is = absurd (false≢true is)
next_onward table ixl row route other phase.Withdrawn is = absurd (false≢true is)
next_onward table ixl row route other (phase.Ended clock done) is =
    either (λ (r : RouteState). IsOnward (phase.Ended clock done) r.phase) (suc done == length row.sections) _ _
    (to_free (phase.Ended clock done)) (record { order = omega arith; freed = (refl, omega arith) })

freeing_next_goes : (table : Table) (number : ℕ) (part : StepSoFar) → PartGoes part (freeing_next table number part)
unfolding freeing_next
freeing_next_goes table number part = at_route_goes table number _ part (λ row route is.
    picked (PartGoes part) (frees_next table part.ixl row route route.phase) _ _
    (λ due. with_route_goes number (one_freed row route.phase) part (λ other also.
    subst (λ (p : Phase). IsOnward p (one_freed row route.phase other).phase) (ap (λ (r : RouteState). r.phase) (some_same (sym is ∙ also)))
    (next_onward table part.ixl row route other route.phase due)))
    (λ none. same_goes part part refl))

passage_goes : (table : Table) (number : ℕ) (part : StepSoFar) → PartGoes part (freeing_by_passage table number part)
unfolding freeing_by_passage
passage_goes table number part = at_route_goes table number _ part (λ row route is. repeated_goes (freeing_next table number) (freeing_next_goes table number) (length row.sections) part)

cancel_goes : (now : ℕ) (table : Table) (number : ℕ) (part : StepSoFar) → PartGoes part (freeing_by_cancel now table number part)
unfolding freeing_by_cancel
cancel_goes now table number part = at_route_goes table number _ part (λ row route is.
    either (PartGoes part) (route.cancelled && frees_cancelled now table part.ixl row route route.phase) _ _
    (with_route_goes number freed part (λ other also. to_free other.phase)) (same_goes part part refl))

moving_one_goes : (now : ℕ) (table : Table) (number : ℕ) (need : Need) (part : StepSoFar) → PartGoes part (moving_one now table number need part)
unfolding moving_one
moving_one_goes now table number need part = at_route_goes table number _ part (λ row route is.
    either (PartGoes part) (is_move_due table part.ixl number route need) _ _ (giving_move_goes now need.point need.side part) (same_goes part part refl))

moving_goes : (now : ℕ) (table : Table) (number : ℕ) (part : StepSoFar) → PartGoes part (moving now table number part)
unfolding moving
moving_goes now table number part = at_route_goes table number _ part (λ row route is. along_goes (moving_one now table number) (moving_one_goes now table number) row.needs part)

proceeding_goes : (now : ℕ) (table : Table) (number : ℕ) (part : StepSoFar) → PartGoes part (proceeding now table number part)
unfolding proceeding
proceeding_goes now table number part = at_route_goes table number _ part (λ row route is.
    picked (PartGoes part) (is_proceed_due now table part.ixl row route) _ _
    (λ due. then_goes part (with_route number (authorised table part.ixl row) part) _
    (with_route_goes number (authorised table part.ixl row) part (λ other also.
    at_same part.ixl.routes number route other (λ (r : RouteState). IsOnward r.phase phase.Proceeding) is also
    (from_waiting route.phase (both _ _ (both _ _ (both _ _ (both _ _ (both _ _ due).0).0).0).0).0)))
    (giving_aspect_goes now row.entry row.aspect (with_route number (authorised table part.ixl row) part)))
    (λ none. same_goes part part refl))

ruled_goes : (now : ℕ) (table : Table) (part : StepSoFar) → PartGoes part (ruled now table part)
ruled_goes now table part = then_goes part moves _ to_moves (over_goes (proceeding now table) (proceeding_goes now table) (count table) moves) where
  withdraws : StepSoFar
  withdraws = over (withdrawing now table) (count table) part

  ends : StepSoFar
  ends = over (ending_authority now table) (count table) withdraws

  passes : StepSoFar
  passes = over (freeing_by_passage table) (count table) ends

  cancels : StepSoFar
  cancels = over (freeing_by_cancel now table) (count table) passes

  moves : StepSoFar
  moves = over (moving now table) (count table) cancels

  to_ends : PartGoes part ends
  to_ends = then_goes part withdraws ends (over_goes (withdrawing now table) (withdrawing_goes now table) (count table) part) (over_goes (ending_authority now table) (ending_goes now table) (count table) withdraws)

  to_cancels : PartGoes part cancels
  to_cancels = then_goes part ends cancels to_ends (then_goes ends passes cancels
      (over_goes (freeing_by_passage table) (passage_goes table) (count table) ends) (over_goes (freeing_by_cancel now table) (cancel_goes now table) (count table) passes))

  to_moves : PartGoes part moves
  to_moves = then_goes part cancels moves to_cancels (over_goes (moving now table) (moving_goes now table) (count table) cancels)

-- ---- what is seen, and ticks

watching_goes : (table : Table) (number : ℕ) (part : StepSoFar) → PartGoes part (watching table number part)
unfolding watching
watching_goes table number part = at_route_goes table number _ part (λ row route is.
    either (PartGoes part) (is_proceeding route.phase || is_withdrawn route.phase) _ _ (with_route_goes number _ part (λ other also. onward_same other.phase)) (same_goes part part refl))

pub looks_phase : (section : ℕ) (occupied : Bool) (row : Row) (route : RouteState) → (route_looks section occupied row route).phase ≡ route.phase
looks_phase section occupied row route = by_place (place_in section row.sections) refl where
  by_place : (place : Option ℕ) → place_in section row.sections ≡ place → (route_looks section occupied row route).phase ≡ route.phase
  by_place None is = rw is refl
  by_place (Some place) is = rw is refl

looking_by_goes : (section : ℕ) (occupied : Bool) (table : Table) (number : ℕ) (part : StepSoFar) → PartGoes part (looking_by section occupied table number part)
unfolding looking_by
looking_by_goes section occupied table number part = at_route_goes table number _ part (λ row route is.
    either (PartGoes part) (was_authorised route.phase) _ _
    (with_route_goes number (route_looks section occupied row) part (λ other also. subst (IsOnward other.phase) (sym (looks_phase section occupied row other)) (onward_same other.phase)))
    (same_goes part part refl))

looking_goes : (table : Table) (look : ℕ × Bool) (part : StepSoFar) → PartGoes part (looking table look part)
looking_goes table look part = over_goes (looking_by look.0 look.1 table) (looking_by_goes look.0 look.1 table) (count table) part

-- what a detector's controller does with a datagram
abbrev heard_by : ℕ → Table → List ℕ → ℕ → List ℕ → KnownDetectorState → StepSoFar → StepSoFar
heard_by now table bytes place sections detector part =
    let done = hearing now bytes (begun detector.client part.outbox)
    in along (looking table) (looks sections detector done.heard done.client)
    (with_detector place (detector_after (occupied_heard done.heard detector.occupied) done.client) (noted (Detector place) done part))

heard_by_goes : (now : ℕ) (table : Table) (bytes : List ℕ) (place : ℕ) (sections : List ℕ) (detector : KnownDetectorState) (part : StepSoFar) → PartGoes part (heard_by now table bytes place sections detector part)
heard_by_goes now table bytes place sections detector part =
    let done = hearing now bytes (begun detector.client part.outbox)
    in along_after (looking table) (looking_goes table) (looks sections detector done.heard done.client)
    (with_detector place (detector_after (occupied_heard done.heard detector.occupied) done.client) (noted (Detector place) done part)) part refl

detector_goes : (now : ℕ) (table : Table) (bytes : List ℕ) (place : ℕ) (part : StepSoFar) → PartGoes part (detector_hearing now table bytes place part)
unfolding detector_hearing
detector_goes now table bytes place part =
    with_one_goes (slice_get table.detectors place) (λ sections. with_one (slice_get part.ixl.detectors place) (heard_by now table bytes place sections)) part
    (λ sections. with_one_goes (slice_get part.ixl.detectors place) (heard_by now table bytes place sections) part (λ detector. heard_by_goes now table bytes place sections detector part))

node_goes : (now : ℕ) (table : Table) (bytes : List ℕ) (node : Node) (part : StepSoFar) → PartGoes part (node_hearing now table bytes node part)
unfolding node_hearing known_signal_hearing known_point_hearing
node_goes now table bytes (Signal place) part = same_goes part _ (with_one_keeps (slice_get part.ixl.known_signals place) _ part (λ known_signal. refl))
node_goes now table bytes (Point place) part = same_goes part _ (with_one_keeps (slice_get part.ixl.known_points place) _ part (λ known_point. refl))
node_goes now table bytes (Detector place) part = detector_goes now table bytes place part

known_signal_ticking_goes : (now signal : ℕ) (part : StepSoFar) → PartGoes part (known_signal_ticking now signal part)
unfolding known_signal_ticking
known_signal_ticking_goes now signal part = same_goes part _ (with_one_keeps (slice_get part.ixl.known_signals signal) _ part (λ known_signal. refl))

known_point_ticking_goes : (now point : ℕ) (part : StepSoFar) → PartGoes part (known_point_ticking now point part)
unfolding known_point_ticking
known_point_ticking_goes now point part = same_goes part _ (with_one_keeps (slice_get part.ixl.known_points point) _ part (λ known_point. refl))

detector_ticking_goes : (now place : ℕ) (part : StepSoFar) → PartGoes part (detector_ticking now place part)
unfolding detector_ticking
detector_ticking_goes now place part = same_goes part _ (with_one_keeps (slice_get part.ixl.detectors place) _ part (λ detector. refl))

ticked_goes : (now : ℕ) (input : Input) (part : StepSoFar) → PartGoes part (ticked now input part)
unfolding ticked
ticked_goes now (Datagram bytes) part = same_goes part part refl
ticked_goes now (Commands command) part = same_goes part part refl
ticked_goes now Tick part = then_goes part points _ (then_goes part known_signals points (over_goes (known_signal_ticking now) (known_signal_ticking_goes now) (length part.ixl.known_signals) part)
    (over_goes (known_point_ticking now) (known_point_ticking_goes now) (length part.ixl.known_points) known_signals)) (over_goes (detector_ticking now) (detector_ticking_goes now) (length part.ixl.detectors) points)
  where
    known_signals : StepSoFar
    known_signals = over (known_signal_ticking now) (length part.ixl.known_signals) part

    points : StepSoFar
    points = over (known_point_ticking now) (length part.ixl.known_points) known_signals

-- ---- a step

-- what a step does after its input
behind : ℕ → Table → Input → StepSoFar → StepSoFar
behind now table input heard = ticked now input (ruled now table (over (watching table) (count table) heard))

behind_goes : (now : ℕ) (table : Table) (input : Input) (heard : StepSoFar) → PartGoes heard (behind now table input heard)
unfolding behind
behind_goes now table input heard = then_goes heard seen _ (over_goes (watching table) (watching_goes table) (count table) heard)
    (then_goes seen (ruled now table seen) _ (ruled_goes now table seen) (ticked_goes now input (ruled now table seen)))
  where
    seen : StepSoFar
    seen = over (watching table) (count table) heard

datagram_goes : (now : ℕ) (table : Table) (key : Key) (bytes : List ℕ) (part : StepSoFar) → PartGoes part (given now table key (Datagram bytes) part)
unfolding given
datagram_goes now table key bytes part = with_one_goes (addressed (reading key bytes) part.ixl) (node_hearing now table bytes) part (λ node. node_goes now table bytes node part)

tick_goes : (now : ℕ) (table : Table) (key : Key) (part : StepSoFar) → PartGoes part (given now table key Tick part)
unfolding given
tick_goes now table key part = same_goes part part refl

-- a route after a command that is accepted
Becomes : Command → ℕ → RouteState → RouteState → Type 0
Becomes command number before mid = IsOnward before.phase mid.phase ⊎ ((command ≡ commands.Request (record { 0 = number })) × (mid.phase ≡ phase.Waiting))

set_one : (number place : ℕ) (routes : List RouteState) (before mid : RouteState) → slice_get routes place ≡ Some before → slice_get (changed set_anew number routes) place ≡ Some mid →
    ((place ≡ number) × (mid.phase ≡ phase.Waiting)) ⊎ (mid ≡ before)
set_one number place [] before mid is also = absurd (none_is is)
set_one zero zero (first ∷ others) before mid is also = inl (refl, ap (λ (r : RouteState). r.phase) (sym (some_same also)))
set_one zero (suc place) (first ∷ others) before mid is also = inr (some_same (sym also ∙ is))
set_one (suc number) zero (first ∷ others) before mid is also = inr (some_same (sym also ∙ is))
set_one (suc number) (suc place) (first ∷ others) before mid is also = further (set_one number place others before mid is also) where
  further : ((place ≡ number) × (mid.phase ≡ phase.Waiting)) ⊎ (mid ≡ before) → ((suc place ≡ suc number) × (mid.phase ≡ phase.Waiting)) ⊎ (mid ≡ before)
  further (inl is) = inl (ap suc is.0, is.1)
  further (inr is) = inr is

becomes_same : (command : Command) (number : ℕ) (before mid : RouteState) → mid ≡ before → Becomes command number before mid
unfolding Becomes
becomes_same command number before mid same = inl (subst (λ (r : RouteState). IsOnward before.phase r.phase) (sym same) (onward_same before.phase))

command_becomes : (now : ℕ) (command : Command) (ixl : IxlState) (number : ℕ) (before mid : RouteState) → slice_get ixl.routes number ≡ Some before → slice_get (obeyed now command ixl).routes number ≡ Some mid →
    Becomes command number before mid
unfolding obeyed Becomes OnwardAll
command_becomes now (commands.Request route) ixl number before mid is also = by_place (set_one route.0 number ixl.routes before mid is also) where
  by_place : ((number ≡ route.0) × (mid.phase ≡ phase.Waiting)) ⊎ (mid ≡ before) → Becomes (commands.Request route) number before mid
  by_place (inl there) = inr (ap (λ n. commands.Request (record { 0 = n })) (sym there.0), there.1)
  by_place (inr same) = becomes_same (commands.Request route) number before mid same
command_becomes now (commands.Cancel route) ixl number before mid is also =
    let old = one_cancelled number mid also
    in inl (subst (λ (r : RouteState). IsOnward r.phase mid.phase) (some_same (sym old.1 ∙ is)) old.2)
  where
    one_cancelled : OnwardAll ixl.routes (changed (λ old. record old { cancelled = true }) route.0 ixl.routes)
    one_cancelled = one_changes (λ old. record old { cancelled = true }) route.0 ixl.routes (λ other there. onward_same other.phase)
command_becomes now commands.Resume ixl number before mid is also = becomes_same commands.Resume number before mid (some_same (sym also ∙ is))
command_becomes now (commands.Release route) ixl number before mid is also =
    let old = one_released number mid also
    in inl (subst (λ (r : RouteState). IsOnward r.phase mid.phase) (some_same (sym old.1 ∙ is)) old.2)
  where
    one_released : OnwardAll ixl.routes (changed (released_at now) route.0 ixl.routes)
    one_released = one_changes (released_at now) route.0 ixl.routes (λ other there. onward_same other.phase)
command_becomes now (commands.Move point side) ixl number before mid is also = becomes_same (commands.Move point side) number before mid (some_same (sym also ∙ is))
command_becomes now (commands.Close named) ixl number before mid is also = becomes_same (commands.Close named) number before mid (some_same (sym also ∙ is))
command_becomes now (commands.Open named) ixl number before mid is also = becomes_same (commands.Open named) number before mid (some_same (sym also ∙ is))

-- a move by command changes no route
moved_routes : (now : ℕ) (cause : Option Refusal) (command : Command) (part : StepSoFar) → (moved_at_once now cause command part).ixl.routes ≡ part.ixl.routes
unfolding moved_at_once giving_move
moved_routes now (Some refused) command part = refl
moved_routes now None (commands.Move point side) part = with_one_keeps (slice_get part.ixl.known_points point.0) _ part (λ known_point. refl)
moved_routes now None (commands.Request route) part = refl
moved_routes now None (commands.Cancel route) part = refl
moved_routes now None commands.Resume part = refl
moved_routes now None (commands.Release route) part = refl
moved_routes now None (commands.Close named) part = refl
moved_routes now None (commands.Open named) part = refl

pub where_none : (fails : Bool) (told : Refusal) (rest : Option Refusal) → refused_where fails told rest ≡ None → (fails ≡ false) × (rest ≡ None)
where_none true told rest is = absurd (some_is is)
where_none false told rest is = (refl, is)

pub request_free : (now : ℕ) (table : Table) (route : RouteId) (ixl : IxlState) (before : RouteState) → slice_get ixl.routes route.0 ≡ Some before →
    refusal now table (commands.Request route) ixl ≡ None → is_set before.phase ≡ false
unfolding refusal
request_free now table route ixl before is none = by_row (slice_get table.rows route.0) (sym (ap (request_refusal now table ixl route.0 (slice_get table.rows route.0)) is) ∙ none) where
  by_row : (row : Option Row) → request_refusal now table ixl route.0 row (Some before) ≡ None → is_set before.phase ≡ false
  by_row None told = absurd (some_is told)
  by_row (Some row) told =
      let locking : Option Refusal = option_or (locking_refusal now table ixl route.0 row) (closed_refusal table ixl route.0 row)
      in let set : Option Refusal = refused_where (is_set before.phase) refusals.AlreadySet locking
      in let over = where_none (is_holding now ixl) refusals.Holding (refused_where (not ixl.resumed) refusals.NotResumed set) told
      in let resumed = where_none (not ixl.resumed) refusals.NotResumed set over.1
      in (where_none (is_set before.phase) refusals.AlreadySet locking resumed.1).0

-- ---- a step of an interlocking

pub accepted_is : (command : Command) (now : ℕ) (table : Table) (key : Key) (ixl : IxlState) (answer : Reply) → answer ≡ reply now table key (Commands command) ixl →
    refusal now table command (all_clocked now ixl) ≡ None → answer ≡ Accepted
unfolding reply
accepted_is command now table key ixl answer answered none = answered ∙ ap answer_by none

command_goes : (now : ℕ) (command : Command) (old new : InterlockingState) (answer : Reply) (number : ℕ) (before after : RouteState) → HasStepped now (Commands command) old new answer →
    slice_get old.state.ixl.routes number ≡ Some before → slice_get new.state.ixl.routes number ≡ Some after → GoesOn (Commands command) answer number before.phase after.phase
unfolding stepped given ticked behind all_clocked PartGoes OnwardAll Becomes
command_goes now command old new answer number before after step is also = by_refusal (refusal now table command clocked) refl where
  table : Table
  table = old.state.sited.table

  clocked : IxlState
  clocked = all_clocked now old.state.ixl

  kept_by : Option Refusal → StepSoFar
  kept_by cause = record (begun_with clocked empty_outbox) { ixl = commanded_by now cause command clocked }

  heard_by : Option Refusal → StepSoFar
  heard_by cause = moved_at_once now cause command (kept_by cause)

  mid_of : (cause : Option Refusal) → refusal now table command clocked ≡ cause →
      (mid : RouteState) × (slice_get (commanded_by now cause command clocked).routes number ≡ Some mid) × IsOnward mid.phase after.phase
  mid_of cause told =
      let mid = behind_goes now table (Commands command) (heard_by cause) number after
      (ap (λ (c : Option Refusal). slice_get (behind now table (Commands command) (heard_by c)).ixl.routes number) (sym told)
      ∙ ap (λ (i : IxlState). slice_get i.routes number) (sym step.ixl) ∙ also)
      in (mid.0, ap (λ (routes : List RouteState). slice_get routes number) (sym (moved_routes now cause command (kept_by cause))) ∙ mid.1, mid.2)

  by_refusal : (cause : Option Refusal) → refusal now table command clocked ≡ cause → GoesOn (Commands command) answer number before.phase after.phase
  by_refusal (Some cause) told =
      let mid = mid_of (Some cause) told
      in inl (subst (λ (r : RouteState). IsOnward r.phase after.phase) (some_same (sym mid.1 ∙ is)) mid.2)
  by_refusal None told = by_becoming (command_becomes now command clocked number before mid.0 is mid.1) where
    mid : (mid : RouteState) × (slice_get (obeyed now command clocked).routes number ≡ Some mid) × IsOnward mid.phase after.phase
    mid = mid_of None told

    by_becoming : Becomes command number before mid.0 → GoesOn (Commands command) answer number before.phase after.phase
    by_becoming (inl onward) = inl (onward_then before.phase mid.0.phase after.phase onward mid.2)
    by_becoming (inr there) = inr (record {
      request = ap Commands there.0;
      accepted = accepted_is command now table (key_of old.state.sited.site) old.state.ixl answer step.answered told;
      free = request_free now table (record { 0 = number }) clocked before is (ap (λ (c : Command). refusal now table c clocked) (sym there.0) ∙ told);
      onward = subst (λ (p : Phase). IsOnward p after.phase) there.1 mid.2;
    })

other_goes : (now : ℕ) (input : Input) (old new : InterlockingState) (answer : Reply) (number : ℕ) (before after : RouteState) → HasStepped now input old new answer →
    PartGoes (begun_with (all_clocked now old.state.ixl) empty_outbox) (given now old.state.sited.table (key_of old.state.sited.site) input (begun_with (all_clocked now old.state.ixl) empty_outbox)) →
    slice_get old.state.ixl.routes number ≡ Some before → slice_get new.state.ixl.routes number ≡ Some after → IsOnward before.phase after.phase
unfolding stepped behind all_clocked PartGoes OnwardAll
other_goes now input old new answer number before after step heard is also =
    let mid = behind_goes now old.state.sited.table input
    (given now old.state.sited.table (key_of old.state.sited.site) input (begun_with (all_clocked now old.state.ixl) empty_outbox)) number after
    (ap (λ (i : IxlState). slice_get i.routes number) (sym step.ixl) ∙ also)
    in let first = heard number mid.0 mid.1
    in subst (λ (r : RouteState). IsOnward r.phase after.phase) (some_same (sym first.1 ∙ is)) (onward_then first.0.phase mid.0.phase after.phase first.2 mid.2)

pub steps_go_on : (now : ℕ) (input : Input) (old new : InterlockingState) (answer : Reply) (number : ℕ) (before after : RouteState) → HasStepped now input old new answer →
    slice_get old.state.ixl.routes number ≡ Some before → slice_get new.state.ixl.routes number ≡ Some after → GoesOn input answer number before.phase after.phase
steps_go_on now (Commands command) old new answer number before after step is also = command_goes now command old new answer number before after step is also
steps_go_on now Tick old new answer number before after step is also =
    inl (other_goes now Tick old new answer number before after step (tick_goes now old.state.sited.table (key_of old.state.sited.site) _) is also)
steps_go_on now (Datagram bytes) old new answer number before after step is also =
    inl (other_goes now (Datagram bytes) old new answer number before after step (datagram_goes now old.state.sited.table (key_of old.state.sited.site) bytes _) is also)

-- ---- a route that is kept after a step was kept before

was_there : {A : Type 0} (change : A → A) (number place : ℕ) (list : List A) (after : A) → slice_get (changed change number list) place ≡ Some after → (before : A) × (slice_get list place ≡ Some before)
was_there change number place [] after is = absurd (none_is is)
was_there change zero zero (first ∷ others) after is = (first, refl)
was_there change zero (suc place) (first ∷ others) after is = (after, is)
was_there change (suc number) zero (first ∷ others) after is = (first, refl)
was_there change (suc number) (suc place) (first ∷ others) after is = was_there change number place others after is

command_kept : (now : ℕ) (cause : Option Refusal) (command : Command) (ixl : IxlState) (number : ℕ) (after : RouteState) → slice_get (commanded_by now cause command ixl).routes number ≡ Some after →
    (before : RouteState) × (slice_get ixl.routes number ≡ Some before)
unfolding obeyed
command_kept now (Some refused) command ixl number after is = (after, is)
command_kept now None (commands.Request route) ixl number after is = was_there set_anew route.0 number ixl.routes after is
command_kept now None (commands.Cancel route) ixl number after is = was_there (λ old. record old { cancelled = true }) route.0 number ixl.routes after is
command_kept now None commands.Resume ixl number after is = (after, is)
command_kept now None (commands.Release route) ixl number after is = was_there (released_at now) route.0 number ixl.routes after is
command_kept now None (commands.Move point side) ixl number after is = (after, is)
command_kept now None (commands.Close named) ixl number after is = (after, is)
command_kept now None (commands.Open named) ixl number after is = (after, is)

given_kept : (now : ℕ) (table : Table) (key : Key) (input : Input) (part : StepSoFar) (number : ℕ) (after : RouteState) → slice_get (given now table key input part).ixl.routes number ≡ Some after →
    (before : RouteState) × (slice_get part.ixl.routes number ≡ Some before)
unfolding given PartGoes OnwardAll
given_kept now table key Tick part number after is = (after, is)
given_kept now table key (Datagram bytes) part number after is = let before = datagram_goes now table key bytes part number after is in (before.0, before.1)
given_kept now table key (Commands command) part number after is =
    let cause = refusal now table command part.ixl
    in command_kept now cause command part.ixl number after
    (ap (λ (routes : List RouteState). slice_get routes number) (sym (moved_routes now cause command (record part { ixl = commanded_by now cause command part.ixl }))) ∙ is)

pub routes_were_there : (now : ℕ) (input : Input) (old new : InterlockingState) (answer : Reply) (number : ℕ) (after : RouteState) → HasStepped now input old new answer →
    slice_get new.state.ixl.routes number ≡ Some after → (before : RouteState) × (slice_get old.state.ixl.routes number ≡ Some before)
unfolding stepped behind all_clocked PartGoes OnwardAll
routes_were_there now input old new answer number after step is =
    let table : Table = old.state.sited.table
    in let clocked : StepSoFar = begun_with (all_clocked now old.state.ixl) empty_outbox
    in let mid = behind_goes now table input (given now table (key_of old.state.sited.site) input clocked) number after (ap (λ (i : IxlState). slice_get i.routes number) (sym step.ixl) ∙ is)
    in given_kept now table (key_of old.state.sited.site) input clocked number mid.0 mid.1

-- ---- after the input alone

-- the input is a request for this route, and it is accepted
abbrev pub IsOwnRequest : ℕ → Table → IxlState → Input → ℕ → Type 0
IsOwnRequest now table ixl input number =
    (input ≡ Commands (commands.Request (record { 0 = number }))) × (refusal now table (commands.Request (record { 0 = number })) ixl ≡ None)

-- each route is onward, unless the input is its own request
abbrev pub GoesBehindInput : ℕ → Table → Key → Input → StepSoFar → ℕ → RouteState → Type 0
GoesBehindInput now table key input part number after = (before : RouteState) × (slice_get part.ixl.routes number ≡ Some before) × (IsOnward before.phase after.phase ⊎ IsOwnRequest now table part.ixl input number)

pub given_goes : (now : ℕ) (table : Table) (key : Key) (input : Input) (part : StepSoFar) (number : ℕ) (after : RouteState) → slice_get (given now table key input part).ixl.routes number ≡ Some after →
    GoesBehindInput now table key input part number after
unfolding given PartGoes OnwardAll Becomes
given_goes now table key Tick part number after is = (after, is, inl (onward_same after.phase))
given_goes now table key (Datagram bytes) part number after is = let before = datagram_goes now table key bytes part number after is in (before.0, before.1, inl before.2)
given_goes now table key (Commands command) part number after is = by_cause (refusal now table command part.ixl) refl (unmoved (refusal now table command part.ixl) is) where
  unmoved : (cause : Option Refusal) → slice_get (moved_at_once now cause command (record part { ixl = commanded_by now cause command part.ixl })).ixl.routes number ≡ Some after →
      slice_get (commanded_by now cause command part.ixl).routes number ≡ Some after
  unmoved cause at = ap (λ (routes : List RouteState). slice_get routes number) (sym (moved_routes now cause command (record part { ixl = commanded_by now cause command part.ixl }))) ∙ at

  by_becoming : (before : RouteState) → refusal now table command part.ixl ≡ None → Becomes command number before after → IsOnward before.phase after.phase ⊎ IsOwnRequest now table part.ixl (Commands command) number
  by_becoming before told (inl onward) = inl onward
  by_becoming before told (inr there) = inr (ap Commands there.0, ap (λ (c : Command). refusal now table c part.ixl) (sym there.0) ∙ told)

  by_cause : (cause : Option Refusal) → refusal now table command part.ixl ≡ cause → slice_get (commanded_by now cause command part.ixl).routes number ≡ Some after → GoesBehindInput now table key (Commands command) part number after
  by_cause (Some refused) told same = (after, same, inl (onward_same after.phase))
  by_cause None told changed_to =
      let before = command_kept now None command part.ixl number after changed_to
      in (before.0, before.1, by_becoming before.0 told (command_becomes now command part.ixl number before.0 after before.1 changed_to))
