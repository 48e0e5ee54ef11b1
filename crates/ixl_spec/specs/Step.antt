-- A step of an interlocking: the clock, the input, what is seen of routes with authority, the six rules, and on a tick
-- each link's.
use Rattle.std.specs.Prelude.{ℕ, suc, ◌==◌, ◌||◌, not, Bool, true, false, List, [], ◌∷◌, ◌++◌, length, map, Option, Some, None, slice_get, Result, Ok, Err, if◌then◌else◌}
use Rattle.std.specs.FinSet.{contains, insert, remove}
use Rattle.std.specs.List.{position}
use Rattle.closings.specs.control_table.bit_row.Places.{Places}
use Rattle.rasta_pdu.specs.PduRead.{reading}
use Rattle.rasta_pdu.specs.declared.fault.PduFault.{PduFault}
use Rattle.rasta_pdu.specs.declared.key.Key.{Key}
use Rattle.rasta_pdu.specs.declared.pdu.Pdu.{Pdu}
use Rattle.rasta_core.specs.Calls.{receiving}
use Rattle.rasta_core.specs.verdict.Verdict.{Verdict}
use Rattle.rasta_core.specs.verdict.Verdict.TheVariants as verdicts
use Rattle.closings.specs.sci_telegram.declared.message.Aspect.{Aspect}
use Rattle.closings.specs.sci_telegram.declared.message.Occupancy.TheVariants as occupancy
use Rattle.closings.specs.sci_telegram.declared.message.Position.TheVariants as positions
use Rattle.closings.specs.sci_telegram.declared.message.Side.{Side}
use Rattle.closings.specs.sci_telegram.declared.message.Side.TheVariants as sides
use Rattle.release.specs.Passage.{after_look}
use Rattle.ixl_client.specs.Client.{ClientState, is_ready}
use Rattle.ixl_client.specs.ClientSoFar.{begun}
use Rattle.ixl_client.specs.Step.{clocked, hearing, ticking}
use Rattle.ixl_client.specs.declared.indication.Indication.{Indication}
use Rattle.ixl_client.specs.declared.indication.ObjectState.{ObjectState}
use Rattle.ixl_client.specs.declared.indication.ObjectState.TheVariants as states
use Rattle.ixl_spec.specs.Table.{Row, Table}
use Rattle.ixl_spec.specs.State.{KnownDetectorState, IxlState, KnownSignalState, RouteState, KnownPointState}
use Rattle.ixl_spec.specs.View.{is_approach_clear, place_in, was_authorised}
use Rattle.ixl_spec.specs.StepSoFar.{Node, Signal, Point, Detector, StepSoFar, along, at_route, detector_after, known_signal_after, noted, over, known_point_after, with_detector, with_known_signal, with_one, with_route, with_known_point}
use Rattle.ixl_spec.specs.Rules.{count, is_proceeding, is_withdrawn, ruled}
use Rattle.ixl_spec.specs.Commands.{commanded_by, moved_at_once, refusal}
use Rattle.ixl_spec.specs.declared.command.Command.{Command}
use Rattle.ixl_spec.specs.declared.command.Refusal.{Refusal}

-- ---- the clock

abbrev pub clocked_known_signal : ℕ → KnownSignalState → KnownSignalState
clocked_known_signal now known_signal = known_signal_after known_signal.aspect known_signal.number known_signal.indicated (clocked now known_signal.client)

abbrev pub clocked_known_point : ℕ → KnownPointState → KnownPointState
clocked_known_point now known_point = known_point_after known_point.side known_point.moved (clocked now known_point.client)

abbrev pub clocked_detector : ℕ → KnownDetectorState → KnownDetectorState
clocked_detector now detector = detector_after detector.occupied (clocked now detector.client)

unfoldable pub all_clocked : ℕ → IxlState → IxlState
all_clocked now ixl = record ixl {
  known_signals = map (clocked_known_signal now) ixl.known_signals;
  known_points = map (clocked_known_point now) ixl.known_points;
  detectors = map (clocked_detector now) ixl.detectors;
}

-- ---- what is heard

-- the aspect that a signal's report tells
abbrev pub aspect_of : ObjectState → Option Aspect
aspect_of (states.Aspect aspect) = Some aspect
aspect_of _ = None

-- the last report stands
abbrev pub indicated_heard : List Indication → Option Aspect → Option Aspect
indicated_heard [] indicated = indicated
indicated_heard (first ∷ others) indicated = indicated_heard others (aspect_of first.state)

-- the side that a point's report tells
abbrev pub side_of : ObjectState → Option Side
side_of (states.Position positions.Right) = Some sides.Right
side_of (states.Position positions.Left) = Some sides.Left
side_of _ = None

-- the last report stands
abbrev pub side_heard : List Indication → Option Side → Option Side
side_heard [] side = side
side_heard (first ∷ others) side = side_heard others (side_of first.state)

abbrev pub is_told_occupied : ObjectState → Bool
is_told_occupied (states.Occupancy occupancy.Occupied) = true
is_told_occupied _ = false

abbrev pub occupied_heard : List Indication → Places → Places
occupied_heard [] occupied = occupied
occupied_heard (first ∷ others) occupied =
    occupied_heard others (if is_told_occupied first.state then insert occupied first.place else remove occupied first.place)

-- what a signal indicates is kept, and no rule uses it: the rules rest on what was given and confirmed
unfoldable pub known_signal_hearing : ℕ → List ℕ → ℕ → StepSoFar → StepSoFar
known_signal_hearing now bytes signal part = with_one (slice_get part.ixl.known_signals signal) hear part where
  hear : KnownSignalState → StepSoFar → StepSoFar
  hear known_signal part =
      let done = hearing now bytes (begun known_signal.client part.outbox)
      in with_known_signal signal (known_signal_after known_signal.aspect known_signal.number (indicated_heard done.heard known_signal.indicated) done.client) (noted (Signal signal) done part)

unfoldable pub known_point_hearing : ℕ → List ℕ → ℕ → StepSoFar → StepSoFar
known_point_hearing now bytes point part = with_one (slice_get part.ixl.known_points point) hear part where
  hear : KnownPointState → StepSoFar → StepSoFar
  hear known_point part =
      let done = hearing now bytes (begun known_point.client part.outbox)
      in with_known_point point (known_point_after (side_heard done.heard known_point.side) known_point.moved done.client) (noted (Point point) done part)

-- ---- what is seen of the sections of routes with authority

-- one look at a section of the layout, by a route that has authority or had it in this setting
abbrev pub route_looks : ℕ → Bool → Row → RouteState → RouteState
route_looks section occupied row route = at_place (place_in section row.sections) where
  at_place : Option ℕ → RouteState
  at_place None = route
  at_place (Some place) = record route { passage = after_look route.passage place occupied }

unfoldable pub looking_by : ℕ → Bool → Table → ℕ → StepSoFar → StepSoFar
looking_by section occupied table number = at_route table number (λ row route part.
    if was_authorised route.phase then with_route number (route_looks section occupied row) part else part)

-- all routes look at a section
abbrev pub looking : Table → ℕ × Bool → StepSoFar → StepSoFar
looking table look part = over (looking_by look.0 look.1 table) (count table) part

-- what a detector told before: each of its sections, by its place
abbrev pub told_before : Places → ℕ → List ℕ → List (ℕ × Bool)
told_before occupied place [] = []
told_before occupied place (section ∷ sections) = (section, contains occupied place) ∷ told_before occupied (suc place) sections

-- what it tells now
abbrev pub told_now : List ℕ → List Indication → List (ℕ × Bool)
told_now sections [] = []
told_now sections (first ∷ others) = one (slice_get sections first.place) (told_now sections others) where
  one : Option ℕ → List (ℕ × Bool) → List (ℕ × Bool)
  one None rest = rest
  one (Some section) rest = (section, is_told_occupied first.state) ∷ rest

-- the looks that a step brings: nothing while the link isn't ready; all that it told in the initialisation once that is
-- completed
abbrev pub looks : List ℕ → KnownDetectorState → List Indication → ClientState → List (ℕ × Bool)
looks sections old heard client =
    if not (is_ready client.stage) then []
    else if is_ready old.client.stage then told_now sections heard
    else told_before old.occupied 0 sections ++ told_now sections heard

unfoldable pub detector_hearing : ℕ → Table → List ℕ → ℕ → StepSoFar → StepSoFar
detector_hearing now table bytes place part =
    with_one (slice_get table.detectors place) (λ sections. with_one (slice_get part.ixl.detectors place) (hear sections)) part
  where
    hear : List ℕ → KnownDetectorState → StepSoFar → StepSoFar
    hear sections detector part =
        let done = hearing now bytes (begun detector.client part.outbox)
        in along (looking table) (looks sections detector done.heard done.client)
        (with_detector place (detector_after (occupied_heard done.heard detector.occupied) done.client) (noted (Detector place) done part))

-- a route with authority watches its approach
unfoldable pub watching : Table → ℕ → StepSoFar → StepSoFar
watching table number = at_route table number (λ row route part.
    if is_proceeding route.phase || is_withdrawn route.phase
    then with_route number (λ old. record old { approached = old.approached || not (is_approach_clear table part.ixl row) }) part
    else part)

-- ---- the input

pub data Input : Type 0 where
  Tick : Input
  Datagram : List ℕ → Input
  Commands : Command → Input

-- what a step answers
pub data Reply : Type 0 where
  Ticked : Reply
  Received : Verdict → Reply
  Accepted : Reply
  Refused : Refusal → Reply

-- the controller with this identity
abbrev pub partner_at : ℕ → ClientState → Bool
partner_at id client = client.link.identity.partner == id

abbrev pub or_else : Option Node → Option Node → Option Node
or_else None next = next
or_else (Some node) next = Some node

abbrev pub as_node : (ℕ → Node) → Option ℕ → Option Node
as_node node None = None
as_node node (Some place) = Some (node place)

unfoldable pub node_of : ℕ → IxlState → Option Node
node_of id ixl =
    or_else (as_node Signal (position (λ (known_signal : KnownSignalState). partner_at id known_signal.client) ixl.known_signals))
    (or_else (as_node Point (position (λ (known_point : KnownPointState). partner_at id known_point.client) ixl.known_points))
    (as_node Detector (position (λ (detector : KnownDetectorState). partner_at id detector.client) ixl.detectors)))

unfoldable pub node_hearing : ℕ → Table → List ℕ → Node → StepSoFar → StepSoFar
node_hearing now table bytes (Signal place) = known_signal_hearing now bytes place
node_hearing now table bytes (Point place) = known_point_hearing now bytes place
node_hearing now table bytes (Detector place) = detector_hearing now table bytes place

-- a datagram goes to the link whose partner it names as its sender
abbrev pub addressed : Result Pdu PduFault → IxlState → Option Node
addressed (Err fault) ixl = None
addressed (Ok pdu) ixl = node_of pdu.sender ixl

unfoldable pub given : ℕ → Table → Key → Input → StepSoFar → StepSoFar
given now table key Tick part = part
given now table key (Datagram bytes) part = with_one (addressed (reading key bytes) part.ixl) (node_hearing now table bytes) part
given now table key (Commands command) part =
    let cause = refusal now table command part.ixl
    in moved_at_once now cause command (record part { ixl = commanded_by now cause command part.ixl })

-- ---- ticks

unfoldable pub known_signal_ticking : ℕ → ℕ → StepSoFar → StepSoFar
known_signal_ticking now signal part = with_one (slice_get part.ixl.known_signals signal) tick part where
  tick : KnownSignalState → StepSoFar → StepSoFar
  tick known_signal part =
      let done = ticking now (begun known_signal.client part.outbox)
      in with_known_signal signal (known_signal_after known_signal.aspect known_signal.number known_signal.indicated done.client) (noted (Signal signal) done part)

unfoldable pub known_point_ticking : ℕ → ℕ → StepSoFar → StepSoFar
known_point_ticking now point part = with_one (slice_get part.ixl.known_points point) tick part where
  tick : KnownPointState → StepSoFar → StepSoFar
  tick known_point part =
      let done = ticking now (begun known_point.client part.outbox)
      in with_known_point point (known_point_after known_point.side known_point.moved done.client) (noted (Point point) done part)

unfoldable pub detector_ticking : ℕ → ℕ → StepSoFar → StepSoFar
detector_ticking now place part = with_one (slice_get part.ixl.detectors place) tick part where
  tick : KnownDetectorState → StepSoFar → StepSoFar
  tick detector part =
      let done = ticking now (begun detector.client part.outbox)
      in with_detector place (detector_after detector.occupied done.client) (noted (Detector place) done part)

-- a tick is each link's too: signals, points, detectors
unfoldable pub ticked : ℕ → Input → StepSoFar → StepSoFar
ticked now Tick part =
    over (detector_ticking now) (length part.ixl.detectors)
    (over (known_point_ticking now) (length part.ixl.known_points) (over (known_signal_ticking now) (length part.ixl.known_signals) part))
ticked now _ part = part

-- ---- the step

unfoldable pub stepped : ℕ → Table → Key → Input → StepSoFar → StepSoFar
stepped now table key input part =
    let begun = record part { ixl = all_clocked now part.ixl }
    in let heard = given now table key input begun
    in let seen = over (watching table) (count table) heard
    in ticked now input (ruled now table seen)

-- ---- the answer

-- what a link says of a datagram that names its partner
abbrev pub verdict_at : ℕ → List ℕ → Option ClientState → Verdict
verdict_at now bytes None = verdicts.WrongSender
verdict_at now bytes (Some client) = (receiving now bytes client.link).verdict

abbrev pub client_at : Node → IxlState → Option ClientState
client_at (Signal place) ixl = of_known_signal (slice_get ixl.known_signals place) where
  of_known_signal : Option KnownSignalState → Option ClientState
  of_known_signal None = None
  of_known_signal (Some known_signal) = Some known_signal.client
client_at (Point place) ixl = of_known_point (slice_get ixl.known_points place) where
  of_known_point : Option KnownPointState → Option ClientState
  of_known_point None = None
  of_known_point (Some known_point) = Some known_point.client
client_at (Detector place) ixl = of_detector (slice_get ixl.detectors place) where
  of_detector : Option KnownDetectorState → Option ClientState
  of_detector None = None
  of_detector (Some detector) = Some detector.client

abbrev pub client_of : Option Node → IxlState → Option ClientState
client_of None ixl = None
client_of (Some node) ixl = client_at node ixl

-- bytes that are no PDU are refused with what is wrong with them, and a sender that is no controller is the wrong one
abbrev pub verdict_of : ℕ → List ℕ → Result Pdu PduFault → IxlState → Verdict
verdict_of now bytes (Err fault) ixl = verdicts.Unreadable fault
verdict_of now bytes (Ok pdu) ixl = verdict_at now bytes (client_of (node_of pdu.sender ixl) ixl)

abbrev pub answer_by : Option Refusal → Reply
answer_by None = Accepted
answer_by (Some refusal) = Refused refusal

unfoldable pub reply : ℕ → Table → Key → Input → IxlState → Reply
reply now table key Tick ixl = Ticked
reply now table key (Datagram bytes) ixl = Received (verdict_of now bytes (reading key bytes) (all_clocked now ixl))
reply now table key (Commands command) ixl = answer_by (refusal now table command (all_clocked now ixl))
