use Rattle.std.proofs.Common.{subst}
use Rattle.ixl_spec.specs.Table.{Row}
use Rattle.ixl_table.specs.Table.{IsSetOf}
use Rattle.ixl_table.proofs.row.Row.section_row.Goals as goal

pub returns : goal.returns
returns c = subst (λ (x : Row). IsSetOf x.sections c.self.inside.section_row) c.self.view_is c.self.invariant.of_sections
