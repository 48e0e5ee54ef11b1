use Rattle.ixl_state.specs.ixl_spec.Operations.{awaits_point_in}
use Rattle.ixl.proofs.RowLaws.{for_route}
use Rattle.ixl.proofs.operations.awaits_point_in.Goals as goal

pub returns : goal.returns
returns c row route kept =
    for_route (λ row route. awaits_point_in c.args.state.now.sited.table c.args.state.now.ixl row route c.args.section) _ c.args.state.now.sited.table.rows c.args.number c.row_of.result.now row c.route.result route
    c.awaits_some_in.ensures c.row_of.ensures kept.0 (c.route.ensures row route kept)
