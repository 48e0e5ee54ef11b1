-- What the code of a line can hold.
use Rattle.std.specs.Prelude.{◌^◌, ◌<◌, length}
use Rattle.replay_lines.specs.ixl_spec.layout.Entries.{Site}
use Rattle.node_lines.specs.declared.order.Order.{Order}
use Rattle.node_lines.specs.declared.order.Order.TheVariants.{ShowStop, ShowProceed, ShowSlow, DriveNone, Drive}
use Rattle.node_lines.specs.declared.order.OrderLine.{OrderLine}
use Rattle.node_lines.specs.declared.report.FieldReport.{FieldReport}
use Rattle.node_lines.specs.declared.report.FieldReport.TheVariants.{Done, Section, Point}

-- numbers have 64 bits
abbrev pub IsOrder : Order → Type 0
IsOrder ShowStop = Unit {0}
IsOrder (ShowProceed until) = until < 2 ^ 64
IsOrder (ShowSlow until) = until < 2 ^ 64
IsOrder DriveNone = Unit {0}
IsOrder (Drive side until) = until < 2 ^ 64

pub record IsOrderLine (line : OrderLine) : Type 0 where
  pub number : line.number < 2 ^ 64
  pub reading : line.reading < 2 ^ 64
  pub order : IsOrder line.order

-- and a section is one of the layout
abbrev pub IsReport : Site → FieldReport → Type 0
IsReport site (Done number) = number < 2 ^ 64
IsReport site (Section section occupancy) = section.0 < length site.sections
IsReport site (Point position) = Unit {0}
