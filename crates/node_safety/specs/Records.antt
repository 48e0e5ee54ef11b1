-- What the record of a process says of its node: whether and how it was made, and all that came to it.
use Rattle.std.specs.Prelude.{◌≡◌, ◌<◌, ◌+◌, ℕ, Bool, true, false, List, [], ◌∷◌, ◌++◌, Option, Some, None}
use Rattle.node_kinds.specs.simulator_spec.ixl_spec.Table.{Table}
use Rattle.node_kinds.specs.simulator_spec.ixl_spec.closings.declared.auxiliary.AuxiliaryCounts.{AuxiliaryCounts}
use Rattle.node_kinds.specs.simulator_spec.layout.Entries.{Site}
use Rattle.node_kinds.specs.node_drive.Ages.{IsIn, SendsBy, handed_by}
use Rattle.node_kinds.specs.node_drive.Calls.{Call, Calls, CallsCut, Reads, Told, Writes}
use Rattle.node_kinds.specs.node_drive.Kinds.{Kind}
use Rattle.node_kinds.specs.node_drive.Lives.{came}
use Rattle.node_kinds.specs.node_drive.Rounds.{Coming, CourseState, Standing, all_come, count, last_order, line_of, new_order}
use Rattle.node_kinds.specs.node_drive.Seen.{nothing_seen}
use Rattle.node_kinds.specs.node_drive.Waiting.{Addressed}
use Rattle.node_kinds.specs.node_drive.node_lines.declared.order.Order.{Order}
use Rattle.node_kinds.specs.Openings.{Equipment, Opening}
use Rattle.node_kinds.specs.Processes.{Controls, waited, lived, ControlsCut, waiting, opened, living, unmade, cut, StationCut, not_made, cut_off}
use Rattle.node_kinds.specs.declared.keeping.Keeping.{Keeping}
use Rattle.node_safety.specs.Processes.{Process}

-- what was called, where a process ran to its end (true), and where it was cut off
abbrev pub WasCalled : Bool → Told → Told → List Call → Type 0
WasCalled true old new calls = Calls old new calls
WasCalled false old new calls = CallsCut old new calls

-- A process made this node at a reading of its clock, and all this came in its rounds.
pub record IsRecorded {State Input : Type 0} (kind : Kind State Input) (ended : Bool) (node : State) (now : ℕ) (process : Process State) (old new : Told) : Type 0 where
  pub first_is : process.first.state ≡ node
  -- its equipment was told last to do what the new node has it do
  pub told : process.first.course.order ≡ kind.order process.first.state
  -- what was called before; then the clock was read; then came what the rounds call, or a beginning of it where they were cut off
  pub earlier : List Call
  pub read : Told
  pub reads : Calls old read (earlier ++ Reads now ∷ [])
  pub called : WasCalled ended read new (all_come kind process.comings process.first).0

-- ---- whether a node was made, and then of which contacts and at which reading

module _ {State Input Contacts : Type 0} {kind : Kind State Input} {site : Site} {equipment : Equipment} {told : Opening → Option Contacts} {made : Contacts → ℕ → State} {for_ms begins : ℕ} {old new : Told} where
  abbrev pub made_in : {after : CourseState} → Controls kind site equipment told made for_ms begins after old new → Option (Contacts × ℕ)
  made_in (waited opens none) = None
  made_in (lived {contacts = contacts} opens all lives) = Some (contacts, lives.now)

  abbrev pub made_before : ControlsCut kind site equipment told made for_ms begins old new → Option (Contacts × ℕ)
  made_before (waiting stopped) = None
  made_before (opened opens) = None
  made_before (living opens all (unmade reads)) = None
  made_before (living {contacts = contacts} opens all (cut {now = now} reads stopped)) = Some (contacts, now)

-- an interlocking is made of its table
abbrev pub station_before : {site : Site} {keeping : Keeping} {counts : AuxiliaryCounts} {first for_ms begins : ℕ} {old new : Told} → StationCut site keeping counts first for_ms begins old new → Option (Table × ℕ)
station_before (not_made reads) = None
station_before (cut_off {table = table} {now = now} is_table reads stopped) = Some (table, now)

-- ---- what it sent

-- A step of this life handed it out, less than 500 ms before this reading.
pub record WasHandedOut {State Input : Type 0} (kind : Kind State Input) (inputs : List (ℕ × Input)) (node : State) (now : ℕ) (datagram : Addressed) : Type 0 where
  pub since : ℕ
  pub in_time : now < since + 500
  pub handed : IsIn (since, datagram) (handed_by kind inputs node)

-- all of these calls, or the beginning of them that was called
abbrev pub calls_in : (ended : Bool) (old new : Told) (whole : List Call) → WasCalled ended old new whole → List Call
calls_in true old new whole called = whole
calls_in false old new whole called = called.calls

-- Each datagram that a process sent was handed out by its node, less than 500 ms before the last reading in front of it. None was
-- sent before the node was made.
abbrev pub SentInTime : {State Input : Type 0} (kind : Kind State Input) (ended : Bool) (node : State) (now : ℕ) (process : Process State) (old new : Told) → IsRecorded kind ended node now process old new → Type 0
SentInTime kind ended node now process old new is =
    SendsBy (WasHandedOut kind (came kind process.comings process.first) node) nothing_seen
    ((is.earlier ++ Reads now ∷ []) ++ calls_in ended is.read new (all_come kind process.comings process.first).0 is.called)

-- a node that was made is recorded, with what it sent
abbrev pub Records : {State Input Contacts : Type 0} → Kind State Input → (Contacts → ℕ → State) → Bool → Option (Contacts × ℕ) → Told → Told → Type 0
Records kind made ended None old new = Unit {0}
Records {State} kind made ended (Some at) old new = (process : Process State) × (is : IsRecorded kind ended (made at.0 at.1) at.1 process old new) × SentInTime kind ended (made at.0 at.1) at.1 process old new is

-- ---- what a controller writes

-- the lines that are written by these calls
abbrev pub texts_in : List Call → List (List ℕ)
texts_in [] = []
texts_in (Writes text ∷ calls) = text ∷ texts_in calls
texts_in (call ∷ calls) = texts_in calls

-- The lines of a life: after each of its steps the order of the node then, unless it is that of the last line. They are numbered
-- on, and each has the reading of its step.
abbrev pub order_lines : {State Input : Type 0} → Kind State Input → ℕ → Option Order → List (ℕ × Input) → State → List (List ℕ)
order_lines kind written last [] state = []
order_lines kind written last (one ∷ others) state =
    let after = kind.after one.0 one.1 state
    in let new = new_order last (kind.order after)
    in texts_in (line_of (count new written) one.0 new) ++ order_lines kind (count new written) (last_order last new) others after

-- what a process writes as these come is the lines of its life, and no others
abbrev pub WritesItsOrders : {State Input : Type 0} → Kind State Input → Type 0
WritesItsOrders {State} kind = (comings : List (ℕ × Coming)) (standing : Standing State)
    → texts_in (all_come kind comings standing).0 ≡ order_lines kind standing.course.written standing.course.order (came kind comings standing) standing.state
