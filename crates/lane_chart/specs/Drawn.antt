-- What a chart draws of the lanes of a session.
use Rattle.std.specs.Prelude.{ℕ, List, [], map, Option, Some, None}
use Rattle.control_table.specs.layout.Entries.{Site}
use Rattle.lane_chart.specs.declared.change.Change.{Change}
use Rattle.lane_chart.specs.declared.drawn.DrawnRow.{DrawnRow}
use Rattle.lane_chart.specs.declared.lane.Kind.{Kind}
use Rattle.lane_chart.specs.declared.lane.Kind.TheVariants as kind
use Rattle.lane_chart.specs.declared.scale.Window.{Window}
use Rattle.lane_chart.specs.declared.spans.Span.{Span}
use Rattle.lane_chart.specs.declared.subject.Row.{Row}
use Rattle.lane_chart.specs.declared.subject.Sort.{Sort}
use Rattle.lane_chart.specs.declared.subject.Sort.TheVariants as sort
use Rattle.lane_chart.specs.Spans.{spans_of}
use Rattle.lane_chart.specs.Subjects.{rows_of}

-- a row, and the spans of its bands, from left to right
pub record Drawn : Type 0 where
  pub row : Row
  pub upper : List Span
  pub lower : List Span

abbrev pub seen_row : DrawnRow → Drawn
seen_row drawn = record { row = drawn.row; upper = drawn.upper.items; lower = drawn.lower.items }

-- ---- which lanes a row has

abbrev pub upper_kind : Sort → Option Kind
upper_kind sort.Signal = Some kind.Aspect
upper_kind sort.Point = Some kind.Position
upper_kind sort.Section = Some kind.Section
upper_kind sort.Route = Some kind.Route
upper_kind sort.SignalLink = Some kind.SignalLink
upper_kind sort.PointLink = Some kind.PointLink
upper_kind sort.DetectorLink = Some kind.DetectorLink
upper_kind sort.Interlocking = None
upper_kind sort.SignalNode = None
upper_kind sort.PointNode = None
upper_kind sort.DetectorNode = None

abbrev pub lower_kind : Sort → Option Kind
lower_kind sort.Signal = Some kind.Authority
lower_kind sort.Point = Some kind.Drive
lower_kind _ = None

-- ---- all rows

abbrev pub band_of : Window → List Change → Option Kind → ℕ → List Span
band_of window changes None place = []
band_of window changes (Some of) place = spans_of window (record { kind = of; place = place }) changes

abbrev pub drawn_of : Window → List Change → Row → Drawn
drawn_of window changes row = record {
  row = row;
  upper = band_of window changes (upper_kind row.subject.sort) row.place;
  lower = band_of window changes (lower_kind row.subject.sort) row.place;
}

-- All rows of a layout, each once, in order, each with the changes of its own lanes.
abbrev pub drawn_rows : Site → Window → List Change → List Drawn
drawn_rows l window changes = map (drawn_of window changes) (rows_of l)
