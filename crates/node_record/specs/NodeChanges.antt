-- What changes by a node's record, and what is marked in its chart.
use Rattle.std.specs.Prelude.{◌≡◌, ℕ, ◌||◌, Bool, if◌then◌else◌, List, [], ◌∷◌, ◌++◌, codes, map, string_bytes, Option, Some, None, Result, Ok, Err}
use Rattle.std.specs.List.{enumerate_from}
use Rattle.std.specs.Str.{bytes_eq}
use Rattle.control_table.specs.layout.Entries.{Site}
use Rattle.lane_chart.specs.declared.change.Change.{Change}
use Rattle.lane_chart.specs.declared.change.Happening.{Happening}
use Rattle.replay_words.specs.Read.{decimal}
use Rattle.replay_words.specs.declared.fault.Fault.{Fault}
use Rattle.node_record.specs.CapturedRecord.{stamp}
use Rattle.node_record.specs.Courses.{first_course, parted, step_of}
use Rattle.node_record.specs.Records.{whole_lines}
use Rattle.node_record.specs.NodesOfRecords.{node_of}
use Rattle.node_record.specs.declared.course.Course.{Course}
use Rattle.node_record.specs.declared.node_story.NodeStory.{NodeStory}
use Rattle.control_table.specs.layout.Nodes.{Node}
use Rattle.control_table.specs.layout.Nodes as nodes
use Rattle.node_record.specs.declared.told.Told.{Told}

-- ---- changes

-- that what was told of a lane is seen from this reading on, by the line of this number
abbrev pub change_by : ℕ → ℕ → Option Told → List Change
change_by number time (Some told) = record { line = number; time = stamp time; lane = told.lane; seen = told.seen } ∷ []
change_by number time None = []

-- Those of numbered lines, one after the other.
abbrev pub changes_from : Site → Node → Course → List (ℕ × List ℕ) → List Change
changes_from l whose course [] = []
changes_from l whose course (line ∷ more) =
    let this = step_of l whose course line.1
    in change_by line.0 this.time this.told ++ changes_from l whose this.course more

-- how far a record is read after them
abbrev pub course_behind : Site → Node → Course → List (ℕ × List ℕ) → Course
course_behind l whose course [] = course
course_behind l whose course (line ∷ more) = course_behind l whose (step_of l whose course line.1).course more

-- ---- marks

-- a mark: its line, its time, the node whose record begins, and its words
pub record Mark : Type 0 where
  pub line : ℕ
  pub time : ℕ
  pub node : Option ℕ
  pub words : List ℕ

abbrev pub seen_mark : Happening → Mark
seen_mark happening = record { line = happening.line; time = happening.time; node = happening.node; words = string_bytes happening.words }

-- at its first reading a node begins
abbrev pub begins_at : ℕ → ℕ → Result ℕ Fault → List Mark
begins_at node number (Ok reading) = record { line = number; time = stamp reading; node = Some node; words = codes "begins" } ∷ []
begins_at node number (Err fault) = []

abbrev pub begins : ℕ → ℕ → Option ℕ → List ℕ → List Mark
begins node number (Some first) text = []
begins node number None text = begins_at node number (decimal text)

-- the first word of an answer to the operator, or of a line that tells that no request is taken yet
abbrev pub is_answer : List ℕ → Bool
is_answer word = bytes_eq word (codes "accepted") || (bytes_eq word (codes "refused") || (bytes_eq word (codes "holding") || bytes_eq word (codes "waiting")))

-- an interlocking's commands and answers
abbrev pub is_marked : List ℕ → List ℕ → Bool
is_marked kind text = if bytes_eq kind (codes "writes") then is_answer (parted text).0 else bytes_eq kind (codes "hears")

abbrev pub said_at : Node → Course → ℕ → List ℕ → List ℕ → List Mark
said_at nodes.Interlocking course number kind text =
    if is_marked kind text then record { line = number; time = stamp course.reading; node = None; words = text } ∷ [] else []
said_at controller course number kind text = []

abbrev pub mark_by : Node → ℕ → Course → ℕ → List ℕ → List ℕ → List Mark
mark_by whose node course number kind text =
    if bytes_eq kind (codes "at") then begins node number course.first text else said_at whose course number kind text

-- Those of numbered lines, one after the other.
abbrev pub marks_from : Site → Node → ℕ → Course → List (ℕ × List ℕ) → List Mark
marks_from l whose node course [] = []
marks_from l whose node course (line ∷ more) =
    mark_by whose node course line.0 (parted line.1).0 (parted line.1).1 ++ marks_from l whose node (step_of l whose course line.1).course more

-- ---- a record

abbrev pub begin_of : Option ℕ → ℕ
begin_of (Some first) = stamp first
begin_of None = 0

-- A story is that of numbered lines.
pub record TellsLines (l : Site) (whose : Node) (node : ℕ) (lines : List (ℕ × List ℕ)) (story : NodeStory) : Type 0 where
  pub changes : story.changes.items ≡ changes_from l whose first_course lines
  pub happenings : map seen_mark story.happenings.items ≡ marks_from l whose node first_course lines
  pub begin : story.begin ≡ begin_of (course_behind l whose first_course lines).first
  pub end : story.end ≡ stamp (course_behind l whose first_course lines).reading

-- A story is that of the record of a node.
abbrev pub IsStoryOf : Site → ℕ → List ℕ → NodeStory → Type 0
IsStoryOf l node text story = TellsLines l (node_of l node) node (enumerate_from 1 (whole_lines text)) story
