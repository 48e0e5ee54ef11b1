-- Lines worked by hand.
use Rattle.std.specs.Prelude.{◌≡◌, codes, Some, None, Ok, Err}
use Rattle.replay_words.specs.Cut.{words}
use Rattle.replay_words.specs.declared.fault.Fault.TheVariants.{Words, Number}
use Rattle.replay_lines.specs.ixl_spec.sci_telegram.declared.message.Aspect.TheVariants as aspects
use Rattle.replay_lines.specs.ixl_spec.sci_telegram.declared.message.Position.TheVariants as position
use Rattle.replay_lines.specs.ixl_spec.sci_telegram.declared.message.Side.TheVariants as side
use Rattle.replay_lines.specs.ixl_spec.layout.Entries.{Site}
use Rattle.node_lines.specs.Orders.{aspect_ordered, order_line_said, order_text, side_ordered}
use Rattle.node_lines.specs.Reports.{report_said}
use Rattle.node_lines.specs.Commands.{command_said}
use Rattle.node_lines.specs.declared.order.Order.TheVariants.{ShowStop, ShowProceed, ShowSlow, DriveNone, Drive}
use Rattle.node_lines.specs.declared.operator_command.OperatorCommand.TheVariants.{CancelAll}
use Rattle.node_lines.specs.declared.report.FieldReport.TheVariants.{Done, Point}

pub record Worked (site : Site) : Type 0 where
  pub proceed : order_text (record { number = 7; reading = 12000; order = ShowProceed 13640 }) ≡ codes "7 at 12000 show proceed until 13640"
  pub stop : order_text (record { number = 8; reading = 12310; order = ShowStop }) ≡ codes "8 at 12310 show stop"
  pub left : order_text (record { number = 9; reading = 500; order = Drive side.Left 2280 }) ≡ codes "9 at 500 drive left until 2280"
  pub none : order_text (record { number = 10; reading = 900; order = DriveNone }) ≡ codes "10 at 900 drive none"
  -- an order stands up to its moment
  pub lit : aspect_ordered (ShowProceed 13640) 13639 ≡ aspects.Proceed
  pub slow : aspect_ordered (ShowSlow 13640) 13639 ≡ aspects.Slow
  pub fallen : aspect_ordered (ShowProceed 13640) 13640 ≡ aspects.Stop
  pub driven : side_ordered (Drive side.Left 2280) 2279 ≡ Some side.Left
  pub let_go : side_ordered (Drive side.Left 2280) 2280 ≡ None
  -- a moment is always told with an aspect other than stop, and with a drive
  pub without : order_line_said (words (codes "7 at 12000 show proceed")) ≡ Err Words
  pub not_until : order_line_said (words (codes "7 at 12000 show proceed up 13640")) ≡ Err Words
  pub too_much : order_line_said (words (codes "8 at 12310 show stop until 13640")) ≡ Err Words
  pub no_number : order_line_said (words (codes "x at 12310 show stop")) ≡ Err Number
  pub done : report_said site (words (codes "done 7")) ≡ Ok (Done 7)
  pub moves : report_said site (words (codes "reach none")) ≡ Ok (Point position.NoEndPosition)
  pub spaced : report_said site (words (codes "done  7")) ≡ Err Words
  pub all : command_said site (words (codes "cancel all")) ≡ Ok CancelAll
