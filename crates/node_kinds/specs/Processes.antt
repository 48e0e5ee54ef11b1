-- The process of a node, from its first call to its last.
use Rattle.std.specs.Prelude.{◌≡◌, ◌-◌, ℕ, List, [], ◌∷◌, Option, Some, None, slice_get}
use Rattle.simulator_spec.specs.layout.Entries.{DetectorEntry, Site}
use Rattle.simulator_spec.specs.layout.declared.entries.Point.{Point as PointEntry}
use Rattle.simulator_spec.specs.layout.declared.entries.Signal.{Signal as SignalEntry}
use Rattle.simulator_spec.specs.sci_telegram.declared.message.Occupancy.{Occupancy}
use Rattle.simulator_spec.specs.sci_telegram.declared.message.Position.{Position}
use Rattle.simulator_spec.specs.object_host.declared.input.Input.{Input}
use Rattle.simulator_spec.specs.signal_ctl.Signal.{SignalState}
use Rattle.simulator_spec.specs.point_ctl.Drive.{PointState}
use Rattle.simulator_spec.specs.tds_ctl.declared.section.Section.{Section as SectionState}
use Rattle.ixl_state.specs.ixl_table.Table.{IsTableOf}
use Rattle.simulator_spec.specs.ixl_spec.Table.{Table}
use Rattle.simulator_spec.specs.ixl_spec.closings.declared.auxiliary.AuxiliaryCounts.{AuxiliaryCounts}
use Rattle.simulator_spec.specs.First.{new_ixl, new_point, new_signal}
use Rattle.simulator_spec.specs.Nodes.{Node, Interlocking, Signal, Point, Detector}
use Rattle.node_kinds.specs.Made.{detector_sensing}
use Rattle.node_drive.specs.node_lines.declared.order.Order.{Order}
use Rattle.node_drive.specs.Beginning.{first_course, last_line}
use Rattle.node_drive.specs.Calls.{Calls, CallsCut, Reads, Told}
use Rattle.node_drive.specs.Drives.{CutOff, Ran}
use Rattle.node_drive.specs.Kinds.{Kind}
use Rattle.run_numbers.specs.Numbers.{no_numbers}
use Rattle.node_drive.specs.Rounds.{CourseState, Standing}
use Rattle.node_kinds.specs.Controllers.{Controller, OwnSections, detector_kind, point_kind, signal_kind}
use Rattle.node_kinds.specs.Interlockings.{InterlockingNode, interlocking_kind}
use Rattle.node_kinds.specs.Openings.{Equipment, Lamp, Motor, Sections, Opening, opening_kind, rest_order, untold}
use Rattle.node_kinds.specs.Made.{all_told, told_so}
use Rattle.node_kinds.specs.declared.keeping.Keeping.{Keeping}

-- the clock was read
abbrev pub ReadsAt : ℕ → Told → Told → Type 0
ReadsAt now old new = Calls old new (Reads now ∷ [])

abbrev pub standing : {State : Type 0} → State → CourseState → Standing State
standing state course = record { state = state; course = course }

-- ---- a node lives

-- How long a process may go on whose node is made at a reading, where it began at another.
abbrev pub left_of : ℕ → ℕ → ℕ → ℕ
left_of for_ms begins now = for_ms - (now - begins)

-- The node was made at a reading, and lived until its process was over.
pub record Lives {State Input : Type 0} (kind : Kind State Input) (made : ℕ → State) (for_ms begins : ℕ) (before after : CourseState) (old new : Told) : Type 0 where
  pub now : ℕ
  pub read : Told
  pub reads : ReadsAt now old read
  pub ticks : ℕ
  pub state : State
  pub ran : Ran kind (left_of for_ms begins now) now ticks (standing (made now) before) (standing state after) read new

-- It wasn't made, for want of memory, or its life was cut off.
pub data LifeCut {State Input : Type 0} (kind : Kind State Input) (made : ℕ → State) (for_ms begins : ℕ) (before : CourseState) (old new : Told) : Type 0 where
  unmade : {now : ℕ} → ReadsAt now old new → LifeCut kind made for_ms begins before old new
  cut : {now : ℕ} {read : Told} → ReadsAt now old read → CutOff kind (left_of for_ms begins now) now (standing (made now) before) read new → LifeCut kind made for_ms begins before old new

-- ---- a controller

-- It waited until its first line was in force and each of its contacts had told, or until its process was over.
pub record Opens (site : Site) (equipment : Equipment) (for_ms begins : ℕ) (opening : Opening) (after : CourseState) (old new : Told) : Type 0 where
  pub ticks : ℕ
  pub ran : Ran opening_kind for_ms begins ticks (standing (untold site equipment) first_course) (standing opening after) old new

-- Not all contacts had told when its process was over; or the node was made of what they told, and lived.
pub data Controls {State Input Contacts : Type 0} (kind : Kind State Input) (site : Site) (equipment : Equipment) (told : Opening → Option Contacts) (made : Contacts → ℕ → State)
    (for_ms begins : ℕ) (after : CourseState) (old new : Told) : Type 0 where
  waited : {opening : Opening} → Opens site equipment for_ms begins opening after old new → told opening ≡ None → Controls kind site equipment told made for_ms begins after old new
  lived : {opening : Opening} {opened : CourseState} {then : Told} {contacts : Contacts} → Opens site equipment for_ms begins opening opened old then → told opening ≡ Some contacts
      → Lives kind (made contacts) for_ms begins opened after then new → Controls kind site equipment told made for_ms begins after old new

-- the same, cut off; or it ended for want of memory as all had told
pub data ControlsCut {State Input Contacts : Type 0} (kind : Kind State Input) (site : Site) (equipment : Equipment) (told : Opening → Option Contacts) (made : Contacts → ℕ → State)
    (for_ms begins : ℕ) (old new : Told) : Type 0 where
  waiting : CutOff opening_kind for_ms begins (standing (untold site equipment) first_course) old new → ControlsCut kind site equipment told made for_ms begins old new
  opened : {opening : Opening} {after : CourseState} → Opens site equipment for_ms begins opening after old new → ControlsCut kind site equipment told made for_ms begins old new
  living : {opening : Opening} {after : CourseState} {then : Told} {contacts : Contacts} → Opens site equipment for_ms begins opening after old then → told opening ≡ Some contacts
      → LifeCut kind (made contacts) for_ms begins after then new → ControlsCut kind site equipment told made for_ms begins old new

-- ---- how nodes are made

-- what the contacts of each kind of equipment told, once all did
abbrev pub told_nothing : Opening → Option (Unit {0})
told_nothing opening = Some tt

abbrev pub told_position : Opening → Option Position
told_position opening = opening.position

abbrev pub told_sections : Opening → Option (List Occupancy)
told_sections opening = all_told opening.sections

module _ (site : Site) (first : ℕ) where
  abbrev pub signal_made : SignalEntry → Unit {0} → ℕ → Controller SignalState (Unit {0})
  signal_made entry contacts now = record { site = site; host = new_signal site (record { clock = now; first = first }) entry; contacts = tt }

  abbrev pub point_made : PointEntry → Position → ℕ → Controller PointState Position
  point_made entry lies now = record { site = site; host = new_point site (record { clock = now; first = first }) lies entry; contacts = lies }

  abbrev pub detector_made : DetectorEntry → List Occupancy → ℕ → Controller (List SectionState) OwnSections
  detector_made entry sensed now = record { site = site; host = detector_sensing site (record { clock = now; first = first }) sensed entry; contacts = told_so entry sensed }

  -- an interlocking has told nothing yet, and counts auxiliary commands on from what was counted before
  abbrev pub interlocking_made : Keeping → AuxiliaryCounts → Table → ℕ → InterlockingNode
  interlocking_made keeping counts table now = record { site = site; table = table; keeping = keeping; ixl = new_ixl site table (record { clock = now; first = first }); told = []; numbers = no_numbers; counts = counts }

-- ---- the whole of it

-- The interlocking of a table that belongs to this layout was made, and lived.
pub record StationRuns (site : Site) (keeping : Keeping) (counts : AuxiliaryCounts) (first for_ms begins : ℕ) (after : CourseState) (old new : Told) : Type 0 where
  pub table : Table
  pub is_table : IsTableOf site table
  pub lives : Lives interlocking_kind (interlocking_made site first keeping counts table) for_ms begins first_course after old new

-- It wasn't made, for want of memory, or its life was cut off.
pub data StationCut (site : Site) (keeping : Keeping) (counts : AuxiliaryCounts) (first for_ms begins : ℕ) (old new : Told) : Type 0 where
  not_made : {now : ℕ} → ReadsAt now old new → StationCut site keeping counts first for_ms begins old new
  cut_off : {table : Table} {now : ℕ} {read : Told} → IsTableOf site table → ReadsAt now old read
      → CutOff interlocking_kind (left_of for_ms begins now) now (standing (interlocking_made site first keeping counts table now) first_course) read new → StationCut site keeping counts first for_ms begins old new

module _ (site : Site) (keeping : Keeping) (counts : AuxiliaryCounts) (first for_ms begins : ℕ) (after : CourseState) (old new : Told) where
  -- A node of a station ran; where there is no such node nothing was called.
  abbrev pub NodeRuns : Option Node → Type 0
  NodeRuns None = Calls old new []
  NodeRuns (Some Interlocking) = StationRuns site keeping counts first for_ms begins after old new
  NodeRuns (Some (Signal place)) = (entry : SignalEntry) → slice_get site.signals place ≡ Some entry
      → Controls signal_kind site Lamp told_nothing (signal_made site first entry) for_ms begins after old new
  NodeRuns (Some (Point place)) = (entry : PointEntry) → slice_get site.points place ≡ Some entry
      → Controls point_kind site Motor told_position (point_made site first entry) for_ms begins after old new
  NodeRuns (Some (Detector place)) = (entry : DetectorEntry) → slice_get site.detectors place ≡ Some entry
      → Controls detector_kind site (Sections entry.sections) told_sections (detector_made site first entry) for_ms begins after old new

module _ (site : Site) (keeping : Keeping) (counts : AuxiliaryCounts) (first for_ms begins : ℕ) (old new : Told) where
  -- It was cut off.
  abbrev pub NodeCut : Option Node → Type 0
  NodeCut None = Calls old new []
  NodeCut (Some Interlocking) = StationCut site keeping counts first for_ms begins old new
  NodeCut (Some (Signal place)) = (entry : SignalEntry) → slice_get site.signals place ≡ Some entry
      → ControlsCut signal_kind site Lamp told_nothing (signal_made site first entry) for_ms begins old new
  NodeCut (Some (Point place)) = (entry : PointEntry) → slice_get site.points place ≡ Some entry
      → ControlsCut point_kind site Motor told_position (point_made site first entry) for_ms begins old new
  NodeCut (Some (Detector place)) = (entry : DetectorEntry) → slice_get site.detectors place ≡ Some entry
      → ControlsCut detector_kind site (Sections entry.sections) told_sections (detector_made site first entry) for_ms begins old new

-- by which order the equipment of a node rests
abbrev pub rest_of : Option Node → Option Order
rest_of (Some (Signal place)) = rest_order Lamp
rest_of (Some (Point place)) = rest_order Motor
rest_of _ = None

-- A process of a node: its clock was read, the node ran until its process was over, and at the end its equipment was told to rest.
pub record Process (site : Site) (node : Option Node) (keeping : Keeping) (counts : AuxiliaryCounts) (first for_ms : ℕ) (old new : Told) : Type 0 where
  pub begins : ℕ
  pub begun : Told
  pub reads : ReadsAt begins old begun
  pub course : CourseState
  pub ended : Told
  pub runs : NodeRuns site keeping counts first for_ms begins course begun ended node
  pub ends : ℕ
  pub rests : Calls ended new (Reads ends ∷ last_line ends (rest_of node) course)

-- Nothing was called after the cut; or the equipment was told to rest, or a beginning of that.
pub data EndsSomehow (rest : Option Order) (old new : Told) : Type 0 where
  at_once : Calls old new [] → EndsSomehow rest old new
  resting : {ends : ℕ} (course : CourseState) → CallsCut old new (Reads ends ∷ last_line ends rest course) → EndsSomehow rest old new

-- The same process, which ended before its time: the node was cut off, or its equipment wasn't told to rest.
pub data ProcessCut (site : Site) (node : Option Node) (keeping : Keeping) (counts : AuxiliaryCounts) (first for_ms : ℕ) (old new : Told) : Type 0 where
  in_life : {begins : ℕ} {begun ended : Told} → ReadsAt begins old begun → NodeCut site keeping counts first for_ms begins begun ended node → EndsSomehow (rest_of node) ended new → ProcessCut site node keeping counts first for_ms old new
  at_end : {begins : ℕ} {begun ended : Told} (course : CourseState) → ReadsAt begins old begun → NodeRuns site keeping counts first for_ms begins course begun ended node → EndsSomehow (rest_of node) ended new → ProcessCut site node keeping counts first for_ms old new
