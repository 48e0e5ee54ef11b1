-- What a node's record comes to as a chart.
use Rattle.std.specs.Prelude.{◌≡◌, ℕ, ◌*◌, ◌-◌, ◌^◌, min, List, map, Option, Some, None, Ok}
use Rattle.std.specs.Io.KnownBytes.{Appends}
use Rattle.std.specs.List.{filter}
use Rattle.control_table.specs.layout.Entries.{Site}
use Rattle.drawing.specs.Svg.{svg_text}
use Rattle.drawing.specs.declared.picture.Picture.{Picture}
use Rattle.lane_chart.specs.Chart.{IsChartOf}
use Rattle.lane_chart.specs.Drawn.{drawn_rows, seen_row}
use Rattle.lane_chart.specs.declared.drawn.DrawnRow.{DrawnRow}
use Rattle.lane_chart.specs.declared.scale.Window.{Window}
use Rattle.station_check.specs.Report.{IsSound}
use Rattle.node_record.specs.NodeChanges.{IsStoryOf}
use Rattle.node_record.specs.NodeRows.{is_row_of}
use Rattle.node_record.specs.RecordLines.{Line}
use Rattle.node_record.specs.Records.{record_said}
use Rattle.node_record.specs.NodesOfRecords.{node_of}
use Rattle.node_record.specs.declared.node_chart.Cut.{Cut}
use Rattle.node_record.specs.declared.node_story.NodeStory.{NodeStory}
use Rattle.node_record.specs.declared.record_head.Head.{Head}
use Rattle.control_table.specs.layout.Nodes.{Node}

-- a time in microseconds, or another one where none is given; products end at the greatest of a machine word
abbrev pub micros_or : ℕ → Option ℕ → ℕ
micros_or otherwise (Some millis) = min (millis * 1000) (2 ^ 64 - 1)
micros_or otherwise None = otherwise

-- The part of a record that is drawn: no time after its end.
abbrev pub window_of : Cut → ℕ → ℕ → Window
window_of cut begin end = record { from = micros_or begin cut.from; to = min (micros_or end cut.to) end }

-- A text is the chart of a story: it draws the changes of each lane of which the node tells, in the row of that lane, and each mark.
pub record IsTextOf (l : Site) (whose : Node) (cut : Cut) (story : NodeStory) (text : List ℕ) : Type 0 where
  pub rows : List DrawnRow
  pub drawn : map seen_row rows ≡ filter (λ drawn. is_row_of l.detectors whose drawn.row) (drawn_rows l (window_of cut story.begin story.end) story.changes.items)
  pub picture : Picture
  pub is : IsChartOf l (window_of cut story.begin story.end) rows story.happenings.items picture
  pub text_is : text ≡ svg_text picture

-- A text is the chart of what happens by the record of a node.
pub record IsChartBy (l : Site) (node : ℕ) (recording : List ℕ) (cut : Cut) (text : List ℕ) : Type 0 where
  pub story : NodeStory
  pub told : IsStoryOf l node recording story
  pub is : IsTextOf l (node_of l node) cut story text

-- The layout is sound, no line of the record is faulty, and a text is the chart of what happens by it.
pub record IsRecordChart (layout name text : List ℕ) (cut : Cut) (chart : List ℕ) : Type 0 where
  pub site : Site
  pub sound : IsSound layout site
  pub head : Head
  pub lines : List Line
  pub says : record_said site name text ≡ Ok (head, lines)
  pub is : IsChartBy site head.node text cut chart

-- Such a chart was written.
abbrev pub IsCharted : List ℕ → List ℕ → List ℕ → Cut → Option (List ℕ) → Option (List ℕ) → Type 0
IsCharted layout name text cut before now = (chart : List ℕ) × IsRecordChart layout name text cut chart × Appends before now chart
