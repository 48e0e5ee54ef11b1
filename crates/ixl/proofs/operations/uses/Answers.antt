use Rattle.std.proofs.Common.{◌∙◌, ap, sym}
use Rattle.std.specs.Prelude.{◌&&◌, ◌==◌}
use Rattle.std.specs.FinSet.{contains}
use Rattle.ixl_state.specs.ixl_spec.Operations.{uses}
use Rattle.ixl_state.specs.ixl_spec.View.{holds_point_at, is_set}
use Rattle.ixl.proofs.RowLaws.{for_route}
use Rattle.ixl.proofs.UsedThings.{section_held}
use Rattle.ixl.proofs.operations.uses.Goals as goal

pub returns-in-Section : goal.returns-in-Section
returns-in-Section c row route kept =
    c.contains.ensures ∙ section_held row route.phase c.in-Section.section.0 (contains c.locked.result c.in-Section.section.0) (c.locked.ensures row route kept c.in-Section.section.0)
    ∙ ap (uses c.args.number row route) (sym c.in-Section.is)

pub returns-in-Point : goal.returns-in-Point
returns-in-Point c row route kept =
    for_route (λ row route. holds_point_at row route.phase c.in-Point.point.0 c.in-Point.side) _ c.args.state.now.sited.table.rows c.args.number c.row_of-row.result.now row c.route-route.result route
    c.holds_point_at.ensures c.row_of-row.ensures kept.0 (c.route-route.ensures row route kept)
    ∙ ap (uses c.args.number row route) (sym c.in-Point.is)

pub returns-in-Signal : goal.returns-in-Signal
returns-in-Signal c row route kept =
    for_route (λ row route. is_set route.phase && row.entry == c.in-Signal.signal.0) _ c.args.state.now.sited.table.rows c.args.number c.row_of-row.result.now row c.route-route.result route
    c.is_set_from.ensures c.row_of-row.ensures kept.0 (c.route-route.ensures row route kept)
    ∙ ap (uses c.args.number row route) (sym c.in-Signal.is)

pub returns-in-Route : goal.returns-in-Route
returns-in-Route c row route kept =
    for_route (λ row route. is_set route.phase && c.args.number == c.in-Route.other.0) _ c.args.state.now.sited.table.rows c.args.number c.row_of-row.result.now row c.route-route.result route
    c.is_set_as.ensures c.row_of-row.ensures kept.0 (c.route-route.ensures row route kept)
    ∙ ap (uses c.args.number row route) (sym c.in-Route.is)
