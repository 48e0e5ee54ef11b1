use Rattle.std.proofs.Common.{subst}
use Rattle.ixl_spec.specs.sci_telegram.declared.message.Side.TheVariants as side
use Rattle.ixl_spec.specs.Table.{Row}
use Rattle.ixl_table.specs.Table.{AreNeededAt}
use Rattle.ixl_table.proofs.row.Row.left_row.Goals as goal

pub returns : goal.returns
returns c = subst (λ (x : Row). AreNeededAt x.needs side.Left c.self.inside.left_row) c.self.view_is c.self.invariant.at_left
