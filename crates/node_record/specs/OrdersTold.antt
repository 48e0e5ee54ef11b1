-- What the orders of a controller tell of its lamp or of its motor.
use Rattle.std.specs.Prelude.{ℕ, ◌==◌, Bool, false, Option, Some, None}
use Rattle.control_table.specs.sci_telegram.declared.message.Aspect.{Aspect}
use Rattle.control_table.specs.sci_telegram.declared.message.Aspect.TheVariants as aspect
use Rattle.control_table.specs.sci_telegram.declared.message.Side.{Side}
use Rattle.control_table.specs.sci_telegram.declared.message.Side.TheVariants as side
use Rattle.lane_chart.specs.declared.lane.Kind.TheVariants as kind
use Rattle.lane_chart.specs.declared.lane.Seen.TheVariants as seen
use Rattle.node_lines.specs.declared.order.Order.{Order}
use Rattle.node_lines.specs.declared.order.Order.TheVariants.{ShowStop, ShowProceed, ShowSlow, DriveNone, Drive}
use Rattle.control_table.specs.layout.Nodes.{Node}
use Rattle.control_table.specs.layout.Nodes as nodes
use Rattle.node_record.specs.declared.told.Told.{Told}

-- what a lamp shows by an order that stands, and to which side a motor drives
abbrev pub shown_by : Order → Aspect
shown_by (ShowProceed until) = aspect.Proceed
shown_by (ShowSlow until) = aspect.Slow
shown_by other = aspect.Stop

abbrev pub drive_by : Order → Option Side
drive_by (Drive to until) = Some to
drive_by other = None

-- the lamp of a signal, and the motor of a point; a detector and an interlocking have none
abbrev pub told_by_order : Node → Order → Option Told
told_by_order (nodes.Signal place) order = Some (record { lane = record { kind = kind.Aspect; place = place }; seen = seen.Aspect (Some (shown_by order)) })
told_by_order (nodes.Point place) order = Some (record { lane = record { kind = kind.Drive; place = place }; seen = seen.Drive (drive_by order) })
told_by_order other order = None

-- up to which reading an order stands, if it ends by itself, and what stands from then on
abbrev pub until_of : Order → Option ℕ
until_of (ShowProceed until) = Some until
until_of (ShowSlow until) = Some until
until_of (Drive to until) = Some until
until_of other = None

abbrev pub fallen : Order → Order
fallen ShowStop = ShowStop
fallen (ShowProceed until) = ShowStop
fallen (ShowSlow until) = ShowStop
fallen DriveNone = DriveNone
fallen (Drive to until) = DriveNone

-- by which orders are told apart that aren't the same but for their end
abbrev pub order_number : Order → ℕ
order_number ShowStop = 0
order_number (ShowProceed until) = 1
order_number (ShowSlow until) = 2
order_number DriveNone = 3
order_number (Drive side.Left until) = 4
order_number (Drive side.Right until) = 5

-- an order is the one that stands, but for its end
abbrev pub is_renewed : Option Order → Order → Bool
is_renewed (Some standing) order = order_number standing == order_number order
is_renewed None order = false
