-- Whether two orders are one.
use Rattle.std.specs.Prelude.{◌==◌, ◌&&◌, Bool, true, false}
use Rattle.node_lines.specs.ixl_spec.Table.{is_same_side}
use Rattle.node_lines.specs.declared.order.Order.{Order}
use Rattle.node_lines.specs.declared.order.Order.TheVariants.{ShowStop, ShowProceed, ShowSlow, DriveNone, Drive}

abbrev pub is_same_order : Order → Order → Bool
is_same_order ShowStop ShowStop = true
is_same_order (ShowProceed one) (ShowProceed other) = one == other
is_same_order (ShowSlow one) (ShowSlow other) = one == other
is_same_order DriveNone DriveNone = true
is_same_order (Drive to one) (Drive side other) = is_same_side to side && (one == other)
is_same_order _ _ = false
