-- The interlocking as a kind of node. Its step is that of a world's interlocking. It answers what its operator asks, and tells what
-- it knows, each change of it once.
use Rattle.std.specs.Prelude.{ℕ, zero, suc, ◌+◌, ◌==◌, ◌&&◌, not, nat_le, if◌then◌else◌, Bool, true, false, List, [], ◌∷◌, ◌++◌, length, map, Option, Some, None, is_some, slice_get, Result, Ok, Err}
use Rattle.std.specs.List.{flat_map}
use Rattle.node_drive.specs.replay_words.Cut.{words}
use Rattle.node_drive.specs.replay_words.declared.fault.Fault.{Fault}
use Rattle.simulator_spec.specs.layout.Entries.{Site}
use Rattle.simulator_spec.specs.sci_telegram.declared.message.Aspect.{Aspect}
use Rattle.simulator_spec.specs.sci_telegram.declared.message.Aspect.TheVariants as aspects
use Rattle.simulator_spec.specs.sci_telegram.declared.message.Occupancy.{Occupancy}
use Rattle.simulator_spec.specs.sci_telegram.declared.message.Occupancy.TheVariants as occupancies
use Rattle.simulator_spec.specs.sci_telegram.declared.message.Side.{Side}
use Rattle.simulator_spec.specs.sci_telegram.declared.message.Side.TheVariants as sides
use Rattle.simulator_spec.specs.ixl_spec.State.{IxlState, RouteState}
use Rattle.simulator_spec.specs.ixl_spec.Step as ixl
use Rattle.simulator_spec.specs.ixl_spec.StepSoFar.{StepSoFar, begun_with, empty_outbox}
use Rattle.simulator_spec.specs.ixl_spec.Table.{Row, Table, at, is_same_side}
use Rattle.simulator_spec.specs.ixl_spec.View.{authority_from, indicated, is_clear, is_holding, is_known, is_occupied, is_point_ready, is_set, is_signal_ready}
use Rattle.simulator_spec.specs.ixl_spec.declared.command.Command.{Command}
use Rattle.simulator_spec.specs.ixl_spec.declared.command.Command.TheVariants as command
use Rattle.simulator_spec.specs.ixl_spec.declared.command.Refusal.TheVariants as refusal
use Rattle.simulator_spec.specs.ixl_client.Client.{is_ready}
use Rattle.simulator_spec.specs.Nodes.{key_of}
use Rattle.simulator_spec.specs.Interlocking.{link_of}
use Rattle.simulator_spec.specs.ixl_spec.closings.Closed.{is_closed}
use Rattle.simulator_spec.specs.ixl_spec.closings.declared.thing.Thing.{Thing as Closable}
use Rattle.simulator_spec.specs.ixl_spec.closings.declared.thing.Thing.TheVariants as closable
use Rattle.simulator_spec.specs.ixl_spec.closings.Auxiliaries.{count_of}
use Rattle.simulator_spec.specs.ixl_spec.closings.declared.auxiliary.Auxiliary.{Auxiliary}
use Rattle.simulator_spec.specs.ixl_spec.closings.declared.auxiliary.Auxiliary.TheVariants as auxiliary
use Rattle.simulator_spec.specs.ixl_spec.closings.declared.auxiliary.AuxiliaryCounts.{AuxiliaryCounts}
use Rattle.node_drive.specs.node_lines.Auxiliaries.{counted_after}
use Rattle.node_drive.specs.node_lines.Commands.{command_said}
use Rattle.node_drive.specs.node_lines.Known.{known_text, operator_text}
use Rattle.node_drive.specs.node_lines.declared.operator_command.OperatorCommand.{OperatorCommand}
use Rattle.node_drive.specs.node_lines.declared.operator_command.OperatorCommand.TheVariants.{One, CancelAll}
use Rattle.node_drive.specs.node_lines.declared.operator_line.Known.{Known}
use Rattle.node_drive.specs.node_lines.declared.operator_line.Known.TheVariants as known
use Rattle.node_drive.specs.node_lines.declared.operator_line.LinkState.{LinkState}
use Rattle.node_drive.specs.node_lines.declared.operator_line.LinkState.TheVariants.{Ready, Lost}
use Rattle.node_drive.specs.node_lines.declared.operator_line.Authority.{Authority}
use Rattle.node_drive.specs.node_lines.declared.operator_line.OperatorLine.TheVariants.{Accepted, Refused}
use Rattle.node_drive.specs.Kinds.{AskedToKeep, Kind, Meaning, Comes, Faulty}
use Rattle.node_drive.specs.Waiting.{Addressed}
use Rattle.node_drive.specs.declared.outside.ToKeep.{ToKeep}
use Rattle.run_numbers.specs.Numbers.{NumbersState}
use Rattle.node_kinds.specs.Controllers.{is_same_occupancy}
use Rattle.node_kinds.specs.Counted.{is_question, number_lines, numbers_after}
use Rattle.node_kinds.specs.Kept.{to_keep, wanted as wanted_in}
use Rattle.node_kinds.specs.declared.keeping.Keeping.{Keeping}
use Rattle.node_kinds.specs.declared.thing.Thing.{Thing}
use Rattle.node_kinds.specs.declared.thing.Thing.TheVariants.{SignalLink, PointLink, DetectorLink, Section, Point, Signal, Indication, Route, Release, SectionClosing, LeftClosing, RightClosing, SignalClosing, RouteClosing, Counter, Readiness}

-- ---- what is known of one thing

-- The link to the controller of a place among all, counted from 0. Its node counts from the interlocking, which is 0.
abbrev pub link_known : ℕ → Bool → Option Known
link_known place ready = Some (known.Link (record { 0 = suc place }) (if ready then Ready else Lost))

abbrev pub is_detector_ready : IxlState → ℕ → Bool
is_detector_ready state place = at state.detectors place (λ detector. is_ready detector.client.stage)

abbrev pub occupancy_known : Bool → Bool → Option Occupancy
occupancy_known true occupied = Some occupancies.Clear
occupancy_known false true = Some occupancies.Occupied
occupancy_known false false = None

abbrev pub side_known : Bool → Bool → Option Side
side_known true left = Some sides.Right
side_known false true = Some sides.Left
side_known false false = None

-- the route that has authority from a signal, with its aspect
abbrev pub with_aspect : ℕ → Option Row → Option Authority
with_aspect route None = None
with_aspect route (Some row) = Some (record { aspect = row.aspect; route = record { 0 = route } })

abbrev pub authority_of : List Row → Option ℕ → Option Authority
authority_of rows None = None
authority_of rows (Some route) = with_aspect route (slice_get rows route)

-- nothing is told of a signal of which nothing was reported
abbrev pub indication : ℕ → Option Aspect → Option Known
indication signal None = None
indication signal (Some aspect) = Some (known.Indicates (record { 0 = signal }) aspect)

-- whether requests are taken; nothing is told once they are
abbrev pub readiness : Bool → Bool → Option Known
readiness true resumed = Some known.Holding
readiness false true = None
readiness false false = Some known.WaitingForResume

-- nothing is told of a route that wasn't released in this setting
abbrev pub is_released : IxlState → ℕ → Bool
is_released state place = at state.routes place (λ route. is_set route.phase && is_some route.released)

abbrev pub release_known : ℕ → Bool → Option Known
release_known place false = None
release_known place true = Some (known.Released (record { 0 = place }))

-- whether a thing is closed
abbrev pub closing_known : IxlState → Closable → Option Known
closing_known state thing = Some (known.Closing thing (is_closed state.closed thing))

abbrev pub closing_at : IxlState → Thing → ℕ → Option Known
closing_at state SectionClosing place = closing_known state (closable.Section (record { 0 = place }))
closing_at state LeftClosing place = closing_known state (closable.Point (record { 0 = place }) sides.Left)
closing_at state RightClosing place = closing_known state (closable.Point (record { 0 = place }) sides.Right)
closing_at state SignalClosing place = closing_known state (closable.Signal (record { 0 = place }))
closing_at state RouteClosing place = closing_known state (closable.Route (record { 0 = place }))
closing_at state other place = None

-- how many auxiliary commands of a kind were accepted; nothing is told of none
abbrev pub auxiliary_at : ℕ → Auxiliary
auxiliary_at place = if place == 0 then auxiliary.Release else auxiliary.Open

abbrev pub counter_known : AuxiliaryCounts → Auxiliary → Option Known
counter_known counts of = if count_of of counts == 0 then None else Some (known.Counted of (count_of of counts))

-- what is known of the thing of this kind at a place; nothing where there is nothing to tell
abbrev pub known_at : Table → AuxiliaryCounts → ℕ → IxlState → Thing → ℕ → Option Known
known_at table counts now state SignalLink place = link_known place (is_signal_ready state place)
known_at table counts now state PointLink place = link_known (length state.known_signals + place) (is_point_ready state place)
known_at table counts now state DetectorLink place = link_known (length state.known_signals + length state.known_points + place) (is_detector_ready state place)
known_at table counts now state Section place = Some (known.Section (record { 0 = place }) (occupancy_known (is_clear table state place) (is_occupied table state place)))
known_at table counts now state Point place = Some (known.Point (record { 0 = place }) (side_known (is_known state place sides.Right) (is_known state place sides.Left)))
known_at table counts now state Signal place = Some (known.Signal (record { 0 = place }) (authority_of table.rows (authority_from place 0 table.rows state.routes)))
known_at table counts now state Indication place = indication place (indicated state place)
known_at table counts now state Route place = Some (known.Route (record { 0 = place }) (at state.routes place (λ route. is_set route.phase)))
known_at table counts now state Release place = release_known place (is_released state place)
known_at table counts now state Counter place = counter_known counts (auxiliary_at place)
known_at table counts now state Readiness place = readiness (is_holding now state) state.resumed
known_at table counts now state closing place = closing_at state closing place

-- ---- all that is known

-- how many things of a kind there are
abbrev pub count : Site → IxlState → Thing → ℕ
count site state SignalLink = length state.known_signals
count site state PointLink = length state.known_points
count site state DetectorLink = length state.detectors
count site state Section = length site.sections
count site state Point = length state.known_points
count site state Signal = length state.known_signals
count site state Indication = length state.known_signals
count site state Route = length state.routes
count site state Release = length state.routes
count site state SectionClosing = length site.sections
count site state LeftClosing = length state.known_points
count site state RightClosing = length state.known_points
count site state SignalClosing = length state.known_signals
count site state RouteClosing = length state.routes
count site state Counter = 2
count site state Readiness = 1

-- of so many things, from a place on
abbrev pub each : (ℕ → Option Known) → ℕ → ℕ → List (Option Known)
each of place zero = []
each of place (suc more) = of place ∷ each of (suc place) more

abbrev pub all_of : Site → Table → AuxiliaryCounts → ℕ → IxlState → Thing → List (Option Known)
all_of site table counts now state thing = each (known_at table counts now state thing) 0 (count site state thing)

abbrev pub things : List Thing
things = SignalLink ∷ PointLink ∷ DetectorLink ∷ Section ∷ Point ∷ Signal ∷ Indication ∷ Route ∷ Release ∷ SectionClosing ∷ LeftClosing ∷ RightClosing ∷ SignalClosing ∷ RouteClosing ∷ Counter ∷ Readiness ∷ []

-- in the order in which it is told
abbrev pub all_known : Site → Table → AuxiliaryCounts → ℕ → IxlState → List (Option Known)
all_known site table counts now state = flat_map (all_of site table counts now state) things

-- ---- what changed

module _ {A : Type 0} (is_same : A → A → Bool) where
  abbrev pub both_same : Option A → Option A → Bool
  both_same None None = true
  both_same (Some one) (Some other) = is_same one other
  both_same _ _ = false

abbrev pub is_same_link : LinkState → LinkState → Bool
is_same_link Ready Ready = true
is_same_link Lost Lost = true
is_same_link _ _ = false

abbrev pub is_same_aspect : Aspect → Aspect → Bool
is_same_aspect aspects.Stop aspects.Stop = true
is_same_aspect aspects.Proceed aspects.Proceed = true
is_same_aspect aspects.Slow aspects.Slow = true
is_same_aspect _ _ = false

abbrev pub is_same_authority : Authority → Authority → Bool
is_same_authority one other = is_same_aspect one.aspect other.aspect && (one.route.0 == other.route.0)

abbrev pub is_same_flag : Bool → Bool → Bool
is_same_flag true true = true
is_same_flag false false = true
is_same_flag _ _ = false

abbrev pub is_same_thing : Closable → Closable → Bool
is_same_thing (closable.Section section) (closable.Section other) = section.0 == other.0
is_same_thing (closable.Point point side) (closable.Point other now) = (point.0 == other.0) && is_same_side side now
is_same_thing (closable.Signal signal) (closable.Signal other) = signal.0 == other.0
is_same_thing (closable.Route route) (closable.Route other) = route.0 == other.0
is_same_thing _ _ = false

abbrev pub is_same_auxiliary : Auxiliary → Auxiliary → Bool
is_same_auxiliary auxiliary.Release auxiliary.Release = true
is_same_auxiliary auxiliary.Open auxiliary.Open = true
is_same_auxiliary _ _ = false

-- the same is known of the same thing
abbrev pub is_same : Known → Known → Bool
is_same (known.Link node state) (known.Link other now) = node.0 == other.0 && is_same_link state now
is_same (known.Section section occupancy) (known.Section other now) = section.0 == other.0 && both_same is_same_occupancy occupancy now
is_same (known.Point point side) (known.Point other now) = point.0 == other.0 && both_same is_same_side side now
is_same (known.Signal signal authority) (known.Signal other now) = signal.0 == other.0 && both_same is_same_authority authority now
is_same (known.Indicates signal aspect) (known.Indicates other now) = signal.0 == other.0 && is_same_aspect aspect now
is_same (known.Route route set) (known.Route other now) = route.0 == other.0 && is_same_flag set now
is_same (known.Released route) (known.Released other) = route.0 == other.0
is_same (known.Closing thing closed) (known.Closing other now) = is_same_thing thing other && is_same_flag closed now
is_same (known.Counted of count) (known.Counted other now) = is_same_auxiliary of other && (count == now)
is_same known.Holding known.Holding = true
is_same known.WaitingForResume known.WaitingForResume = true
is_same _ _ = false

-- nothing need be told of it to who was told nothing of it: a thing isn't closed
abbrev pub is_at_rest : Known → Bool
is_at_rest (known.Closing thing closed) = not closed
is_at_rest other = false

-- the line of a thing, of which this was told last: none where nothing is known of it, or still the same, or it isn't closed and never
-- was
abbrev pub news : Site → Option Known → Option Known → List (List ℕ)
news site last None = []
news site None (Some one) = if is_at_rest one then [] else known_text site one ∷ []
news site (Some last) (Some one) = if is_same last one then [] else known_text site one ∷ []

-- what was told of the thing at a place; nothing where nothing was told at all
abbrev pub last_told : Option (Option Known) → Option Known
last_told None = None
last_told (Some last) = last

-- what comes of each of a list, by its place
abbrev pub of_each : {A B : Type 0} → (ℕ → A → List B) → ℕ → List A → List B
of_each comes place [] = []
of_each comes place (one ∷ others) = comes place one ++ of_each comes (suc place) others

-- the lines of all that isn't as it was told
abbrev pub changes : Site → List (Option Known) → List (Option Known) → List (List ℕ)
changes site told all = of_each (λ place one. news site (last_told (slice_get told place)) one) 0 all

-- ---- commands

abbrev pub answer_line : Site → ixl.Reply → List (List ℕ)
answer_line site ixl.Accepted = operator_text site Accepted ∷ []
answer_line site (ixl.Refused cause) = operator_text site (Refused cause) ∷ []
answer_line site _ = []

-- each route that is set is cancelled, by a command of its own
abbrev pub cancel_where_set : ℕ → RouteState → List Command
cancel_where_set place route = if is_set route.phase then command.Cancel (record { 0 = place }) ∷ [] else []

abbrev pub cancels : List RouteState → List Command
cancels routes = of_each cancel_where_set 0 routes

-- One answer tells whether cancels are taken.
abbrev pub answer_to_all : ℕ → IxlState → ixl.Reply
answer_to_all now state =
    if is_holding now state then ixl.Refused refusal.Holding
    else if not state.resumed then ixl.Refused refusal.NotResumed
    else ixl.Accepted

-- What a line is answered when it is taken: a cancel, whether of one route or of all. What else it asks for is answered by the step
-- of its command, since a request may be refused for what the clock makes of the links then.
abbrev pub answer_to : Site → Table → ℕ → IxlState → OperatorCommand → List (List ℕ)
answer_to site table now state (One (command.Cancel route)) = answer_line site (ixl.reply now table (key_of site) (ixl.Commands (command.Cancel route)) state)
answer_to site table now state (One of) = []
answer_to site table now state CancelAll = answer_line site (answer_to_all now state)

abbrev pub answer_by_step : Site → Command → ixl.Reply → List (List ℕ)
answer_by_step site (command.Cancel route) reply = []
answer_by_step site of reply = answer_line site reply

abbrev pub wanted : IxlState → OperatorCommand → List Command
wanted state (One of) = of ∷ []
wanted state CancelAll = cancels state.routes

abbrev pub commands : List Command → List ixl.Input
commands all = map ixl.Commands all

abbrev pub asked : Site → Table → ℕ → IxlState → Result OperatorCommand Fault → Meaning ixl.Input
asked site table now state (Ok line) = Comes (answer_to site table now state line) (commands (wanted state line))
asked site table now state (Err fault) = Faulty fault

-- ---- the kind

-- an interlocking of this layout and control table, what its process keeps of it, what it told last, of each thing, what it counted,
-- and how many auxiliary commands it accepted
pub record InterlockingNode : Type 0 where
  pub site : Site
  pub table : Table
  pub keeping : Keeping
  pub ixl : IxlState
  pub told : List (Option Known)
  pub numbers : NumbersState
  pub counts : AuxiliaryCounts

abbrev pub ixl_step : ℕ → ixl.Input → InterlockingNode → StepSoFar
ixl_step now input node = ixl.stepped now node.table (key_of node.site) input (begun_with node.ixl empty_outbox)

-- the answer that the step of an input tells
abbrev pub answer : ℕ → ixl.Input → InterlockingNode → List (List ℕ)
answer now (ixl.Commands of) node = answer_by_step node.site of (ixl.reply now node.table (key_of node.site) (ixl.Commands of) node.ixl)
answer now input node = []

-- each datagram goes to the controller that it names as its receiver
abbrev pub to_controllers : Site → List (List ℕ) → List Addressed
to_controllers site datagrams = map (λ (bytes : List ℕ). (record { 0 = suc (link_of site bytes) }, bytes)) datagrams

-- the counts of auxiliary commands after a command with this answer
abbrev pub counted_if_accepted : Command → ixl.Reply → AuxiliaryCounts → AuxiliaryCounts
counted_if_accepted of ixl.Accepted counts = counted_after of counts
counted_if_accepted of other counts = counts

-- and after a step
abbrev pub counts_then : ℕ → ixl.Input → InterlockingNode → AuxiliaryCounts
counts_then now (ixl.Commands of) node = counted_if_accepted of (ixl.reply now node.table (key_of node.site) (ixl.Commands of) node.ixl) node.counts
counts_then now other node = node.counts

-- all that is known after a step
abbrev pub known_then : ℕ → ixl.Input → InterlockingNode → List (Option Known)
known_then now input node = all_known node.site node.table (counts_then now input node) now (ixl_step now input node).ixl

-- what is counted then
abbrev pub numbers_then : ℕ → ixl.Input → InterlockingNode → NumbersState
numbers_then now input node = numbers_after input (ixl.reply now node.table (key_of node.site) input node.ixl) node.told (known_then now input node) node.numbers

-- what is to be in the file of its process
abbrev pub to_have : InterlockingNode → ToKeep
to_have node = record { counts = node.counts; closings = wanted_in node.keeping node.table node.ixl }

-- and after a step
abbrev pub to_have_then : ℕ → ixl.Input → InterlockingNode → ToKeep
to_have_then now input node = record { counts = counts_then now input node; closings = wanted_in node.keeping node.table (ixl_step now input node).ixl }

-- what is asked to be kept then
abbrev pub keeps_then : ℕ → ixl.Input → InterlockingNode → Option AskedToKeep
keeps_then now input node =
    to_keep node.site node.keeping input (ixl.reply now node.table (key_of node.site) input node.ixl)
    (wanted_in node.keeping node.table node.ixl) (to_have_then now input node)

-- the lines that are told then
abbrev pub said_then : ℕ → ixl.Input → InterlockingNode → List (List ℕ)
said_then now input node =
    answer now input node ++ changes node.site node.told (known_then now input node)

-- A line that asks for the numbers is answered by them, and nothing comes of it.
abbrev pub meaning_in : ℕ → List ℕ → InterlockingNode → Meaning ixl.Input
meaning_in now text node =
    if is_question text then Comes (number_lines node.numbers) [] else asked node.site node.table now node.ixl (command_said node.site (words text))

-- Who begins to listen is told what was told last, and so with what is told from then on all that is known.
abbrev pub interlocking_kind : Kind InterlockingNode ixl.Input
interlocking_kind = record {
  after = λ now input node. record node { ixl = (ixl_step now input node).ixl; told = known_then now input node; numbers = numbers_then now input node; counts = counts_then now input node };
  hands = λ now input node. to_controllers node.site (ixl_step now input node).outbox.datagrams;
  keeps = λ now input node. keeps_then now input node;
  says = λ now input node. said_then now input node;
  tick = ixl.Tick;
  datagram = ixl.Datagram;
  is_partner = λ node. nat_le 1 node.0;
  order = λ node. None;
  meaning = meaning_in;
  stands = λ now node. changes node.site [] node.told;
  is_done = λ node. false;
}
