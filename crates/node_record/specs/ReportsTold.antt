-- What the reports of field equipment tell of sections and of a point.
use Rattle.std.specs.Prelude.{ℕ, List, Option, Some, None, Result, Ok, Err}
use Rattle.control_table.specs.layout.Entries.{Site}
use Rattle.control_table.specs.sci_telegram.declared.message.Position.{Position}
use Rattle.lane_chart.specs.declared.lane.Kind.TheVariants as kind
use Rattle.lane_chart.specs.declared.lane.Seen.TheVariants as seen
use Rattle.node_lines.specs.Reports.{report_said as said}
use Rattle.node_lines.specs.declared.report.FieldReport.{FieldReport}
use Rattle.node_lines.specs.declared.report.FieldReport.TheVariants.{Done, Section, Point}
use Rattle.replay_words.specs.declared.fault.Fault.{Fault}
use Rattle.control_table.specs.layout.Nodes.{Node}
use Rattle.control_table.specs.layout.Nodes as nodes
use Rattle.node_record.specs.declared.told.Told.{Told}

abbrev pub position_told : Node → Position → Option Told
position_told (nodes.Point place) position = Some (record { lane = record { kind = kind.Position; place = place }; seen = seen.Position (Some position) })
position_told other position = None

abbrev pub report_told : Node → FieldReport → Option Told
report_told whose (Done number) = None
report_told whose (Section section occupancy) = Some (record { lane = record { kind = kind.Section; place = section.0 }; seen = seen.Section (Some occupancy) })
report_told whose (Point position) = position_told whose position

-- what is told by what words say, if they say something
abbrev pub told_if : Node → Result FieldReport Fault → Option Told
told_if whose (Ok report) = report_told whose report
told_if whose (Err fault) = None

abbrev pub report_said : Site → Node → List (List ℕ) → Option Told
report_said site whose words = told_if whose (said site words)
