-- Charts of records.
use Rattle.std.proofs.Common.{◌≡◌, ℕ, List, Result, Ok, Err, map, subst}
use Rattle.std.specs.Prelude.{IfOk}
use Rattle.std.specs.List.{enumerate_from}
use Rattle.control_table.specs.layout.Entries.{Site}
use Rattle.drawing.specs.Svg.{svg_text}
use Rattle.drawing.specs.declared.picture.Picture.{Picture}
use Rattle.node_record.specs.ChartedRecord.{IsChartBy, IsRecordChart, IsTextOf}
use Rattle.node_record.specs.NodeChanges.{TellsLines}
use Rattle.node_record.specs.RecordLines.{told}
use Rattle.node_record.specs.Records.{whole_lines}
use Rattle.node_record.specs.NodesOfRecords.{node_of}
use Rattle.node_record.specs.declared.node_chart.Cut.{Cut}
use Rattle.node_record.specs.declared.node_story.NodeStory.{NodeStory}
use Rattle.node_record.specs.declared.record.Record.{Record}
use Rattle.control_table.specs.layout.Nodes.{Node}
use Rattle.node_record.specs.inside.SoundTexts.{AreTexts}

-- the text of a picture is the chart of a story
pub text_told : {F E : Type 0} (items : F → List ℕ) (l : Site) (whose : Node) (cut : Cut) (story : NodeStory) (picture : Picture) (tried : Result F E)
    → ((text : List ℕ) → text ≡ svg_text picture → IsTextOf l whose cut story text) → IfOk tried (λ text. items text ≡ svg_text picture) → IfOk tried (λ text. IsTextOf l whose cut story (items text))
text_told items l whose cut story picture (Ok text) told is = told (items text) is
text_told items l whose cut story picture (Err why) told is = tt

-- it is that of the record whose lines the story tells
pub chart_told : (l : Site) (node : ℕ) (whose : Node) (recording : List ℕ) (lines : List (ℕ × List ℕ)) (cut : Cut) (story : NodeStory) (text : List ℕ) → lines ≡ enumerate_from 1 (whole_lines recording)
    → whose ≡ node_of l node → TellsLines l whose node lines story → IsTextOf l whose cut story text → IsChartBy l node recording cut text
chart_told l node whose recording lines cut story text lines_are is happens drawn = record {
  story = story;
  told = subst (λ (of : Node). TellsLines l of node (enumerate_from 1 (whole_lines recording)) story) is (subst (λ (all : List (ℕ × List ℕ)). TellsLines l whose node all story) lines_are happens);
  is = subst (λ (of : Node). IsTextOf l of cut story text) is drawn;
}

-- so it is of texts without a fault
pub record_told : (layout name text : List ℕ) (site drawn : Site) (read : Record) (cut : Cut) (chart : List ℕ) → AreTexts layout name text site read → drawn ≡ site
    → IsChartBy drawn read.head.node text cut chart → IsRecordChart layout name text cut chart
record_told layout name text site drawn read cut chart are same is = record {
  site = site;
  sound = are.sound;
  head = read.head;
  lines = map told read.lines.items;
  says = are.says;
  is = subst (λ (s : Site). IsChartBy s read.head.node text cut chart) same is;
}
