use Rattle.std.proofs.Common.{◌∙◌, ap}
use Rattle.ixl_state.specs.ixl_spec.Operations.{counts_as_closed, things_used}
use Rattle.ixl_state.specs.ixl_spec.Table.{Row}
use Rattle.ixl.specs.inside.Parts.{first_where}
use Rattle.ixl.proofs.RowLaws.{same_row}
use Rattle.ixl.proofs.operations.first_closed.Goals as goal

pub returns : goal.returns
returns c row route kept =
    c.first_closed_of.ensures
    ∙ ap (λ (r : Row). first_where (counts_as_closed c.args.state.now.sited.table c.args.state.now.ixl) (things_used c.args.number r))
    (same_row c.args.state.now.sited.table.rows c.args.number c.row_of.result.now row c.row_of.ensures kept.0)
