use Rattle.ixl_state.specs.ixl_spec.View.{holds_point}
use Rattle.ixl.proofs.RowLaws.{for_route}
use Rattle.ixl.proofs.operations.holds.Goals as goal

pub returns : goal.returns
returns c row route kept =
    for_route (λ row route. holds_point row route.phase c.args.point) _ c.args.state.now.sited.table.rows c.args.number c.row_of.result.now row c.route.result route
    c.holds_point.ensures c.row_of.ensures kept.0 (c.route.ensures row route kept)
