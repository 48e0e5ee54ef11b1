-- How a chart draws its rows, its commands and its restarts.
use Rattle.std.specs.Prelude.{ℕ, ◌+◌, ◌/◌, ◌==◌, ◌&&◌, ◌^◌, ◌-◌, min, max, nat_lt, ℤ, Bool, false, if◌then◌else◌, List, [], ◌∷◌, ◌++◌, codes, length, string_bytes, Option, Some, None}
use Rattle.std.specs.Fmt.{decimal}
use Rattle.std.specs.List.{flat_map}
use Rattle.control_table.specs.layout.Entries.{Site}
use Rattle.control_table.specs.sci_telegram.Words.{aspect_word, occupancy_word, position_word}
use Rattle.control_table.specs.sci_telegram.declared.message.Position.TheVariants as position
use Rattle.control_table.specs.sci_telegram.declared.message.Side.TheVariants as side
use Rattle.drawing.specs.declared.picture.Group.{Group}
use Rattle.lane_chart.specs.declared.change.Happening.{Happening}
use Rattle.lane_chart.specs.declared.drawn.DrawnRow.{DrawnRow}
use Rattle.lane_chart.specs.declared.lane.Progress.{Progress}
use Rattle.lane_chart.specs.declared.lane.Progress.TheVariants as progress
use Rattle.lane_chart.specs.declared.lane.Readiness.{Readiness}
use Rattle.lane_chart.specs.declared.lane.Readiness.TheVariants as readiness
use Rattle.lane_chart.specs.declared.lane.Seen.{Seen}
use Rattle.lane_chart.specs.declared.lane.Seen.TheVariants as seen
use Rattle.lane_chart.specs.declared.scale.Window.{Window}
use Rattle.lane_chart.specs.declared.scene.Nodes.{Nodes}
use Rattle.lane_chart.specs.declared.spans.Span.{Span}
use Rattle.lane_chart.specs.declared.subject.Row.{Row}
use Rattle.lane_chart.specs.declared.subject.Sort.{Sort}
use Rattle.lane_chart.specs.declared.subject.Sort.TheVariants as sort
use Rattle.lane_chart.specs.Spans.{is_within, unit_of}
use Rattle.lane_chart.specs.Strokes.{Stroke, arrow, line, named, on_paper, place_of, strokes}
use Rattle.lane_chart.specs.Subjects.{subject_id}

-- ---- the class of what is seen

abbrev pub progress_text : Progress → List ℕ
progress_text progress.Free = codes "free"
progress_text progress.Waiting = codes "set"
progress_text progress.Proceeding = codes "authority"
progress_text progress.Withdrawn = codes "withdrawn"
progress_text (progress.Ended freed) = codes "ended"

abbrev pub readiness_text : Readiness → List ℕ
readiness_text readiness.Down = codes "down"
readiness_text readiness.Up = codes "up"
readiness_text readiness.Ready = codes "ready"

abbrev pub state_text : Seen → List ℕ
state_text (seen.Aspect (Some aspect)) = aspect_word aspect
state_text (seen.Aspect None) = codes "none"
state_text (seen.Authority (Some route)) = codes "held"
state_text (seen.Authority None) = codes "none"
state_text (seen.Position (Some position.NoEndPosition)) = codes "moving"
state_text (seen.Position (Some position.Right)) = position_word position.Right
state_text (seen.Position (Some position.Left)) = position_word position.Left
state_text (seen.Position None) = codes "none"
state_text (seen.Drive (Some side.Left)) = codes "driven-left"
state_text (seen.Drive (Some side.Right)) = codes "driven-right"
state_text (seen.Drive None) = codes "none"
state_text (seen.Section (Some occupancy)) = occupancy_word occupancy
state_text (seen.Section None) = codes "none"
state_text (seen.Route (Some progress)) = progress_text progress
state_text (seen.Route None) = codes "none"
state_text (seen.Link readiness) = readiness_text readiness

-- ---- bands

-- Where the line of a span ends: where the next span begins, and one unit after its own beginning at the earliest.
abbrev pub span_end : Span → ℤ
span_end span = on_paper (max (min span.right 1380) (min span.left 1380 + 1))

-- an edge where a span begins, which is another one where it joins changes
abbrev pub edge_class : Span → List ℕ
edge_class span = if span.joins then codes "joined" else codes "edge"

-- At the left border of the chart there is none.
abbrev pub edge_of : Span → List Stroke
edge_of span = if nat_lt 0 span.left then line (edge_class span) (place_of span.left) (place_of span.left) ∷ [] else []

-- A span is a line of the class of what is seen, and an edge.
abbrev pub span_strokes : Span → List Stroke
span_strokes span = line (codes "band " ++ state_text span.seen) (place_of span.left) (span_end span) ∷ edge_of span

-- ---- restarts

-- sums end at the greatest of a machine word
abbrev pub capped : ℕ → ℕ
capped n = min n (2 ^ 64 - 1)

-- by how many signals and points the nodes of a station are numbered
abbrev pub nodes_of : Site → Nodes
nodes_of l = record { signals = length l.signals; points = length l.points }

-- the node of a row: the interlocking is 0, after it come signals, points and detectors
abbrev pub node_at : Nodes → Sort → ℕ → Option ℕ
node_at nodes sort.Interlocking behind = Some 0
node_at nodes sort.SignalNode behind = Some behind
node_at nodes sort.PointNode behind = Some (capped (behind + nodes.signals))
node_at nodes sort.DetectorNode behind = Some (capped (capped (behind + nodes.signals) + nodes.points))
node_at nodes sort.Signal behind = None
node_at nodes sort.Point behind = None
node_at nodes sort.Section behind = None
node_at nodes sort.Route behind = None
node_at nodes sort.SignalLink behind = None
node_at nodes sort.PointLink behind = None
node_at nodes sort.DetectorLink behind = None

abbrev pub node_of : Nodes → Row → Option ℕ
node_of nodes row = node_at nodes row.subject.sort (capped (row.place + 1))

abbrev pub is_node : ℕ → Option ℕ → Bool
is_node node None = false
is_node node (Some other) = other == node

-- an arrow at each time at which a node was made anew
abbrev pub restart_strokes : Window → ℕ → Happening → List Stroke
restart_strokes window node happening =
    if is_node node happening.node && is_within window happening.time
    then arrow (codes "restart") (place_of (unit_of window happening.time)) ∷ [] else []

abbrev pub node_strokes : Window → List Happening → Option ℕ → List Stroke
node_strokes window happenings None = []
node_strokes window happenings (Some node) =
    line (codes "band node-line") (on_paper 0) (on_paper 1380) ∷ flat_map (restart_strokes window node) happenings

-- ---- a row

-- A rule below it, its bands, and when its node was made anew.
abbrev pub row_strokes : Nodes → Window → List Happening → DrawnRow → List Stroke
row_strokes nodes window happenings drawn =
    line (codes "rule") (on_paper 0) (on_paper 1380) ∷ flat_map span_strokes drawn.upper.items ++ (flat_map span_strokes drawn.lower.items
    ++ node_strokes window happenings (node_of nodes drawn.row))

-- ---- commands and restarts

abbrev pub kind_of : Option ℕ → List ℕ
kind_of None = codes "command"
kind_of (Some node) = codes "restart"

-- an arrow at its time, if that is drawn
abbrev pub happening_strokes : Window → Happening → List Stroke
happening_strokes window happening =
    if is_within window happening.time then arrow (kind_of happening.node) (place_of (unit_of window happening.time)) ∷ [] else []

-- its line, its time, and what was answered to what
abbrev pub happening_title : Happening → List ℕ
happening_title happening =
    codes "line " ++ (decimal happening.line ++ (codes ", " ++ (decimal (happening.time / 1000) ++ (codes " ms: " ++ string_bytes happening.words))))

-- by its line
abbrev pub happening_id : ℕ → List ℕ
happening_id number = codes "line." ++ decimal number

-- ---- groups

-- what a group shows
pub record Face : Type 0 where
  pub id : List ℕ
  pub title : List ℕ
  pub strokes : List Stroke
  pub name : List ℕ

abbrev pub face_of : Group → Face
face_of group = record { id = string_bytes group.id; title = string_bytes group.title; strokes = strokes group.marks.items; name = named group.marks.items }

abbrev pub row_face : Nodes → Window → List Happening → DrawnRow → Face
row_face nodes window happenings drawn = record {
  id = subject_id drawn.row.subject;
  title = subject_id drawn.row.subject;
  strokes = row_strokes nodes window happenings drawn;
  name = drawn.row.subject.name;
}

abbrev pub happening_face : Window → Happening → Face
happening_face window happening = record {
  id = happening_id happening.line;
  title = happening_title happening;
  strokes = happening_strokes window happening;
  name = [];
}
