use Rattle.std.proofs.Common.{subst}
use Rattle.ixl_spec.specs.Table.{Row}
use Rattle.ixl_table.specs.Table.{IsSetOf}
use Rattle.ixl_table.proofs.row.Row.approach_row.Goals as goal

pub returns : goal.returns
returns c = subst (λ (x : Row). IsSetOf x.approach c.self.inside.approach_row) c.self.view_is c.self.invariant.of_approach
