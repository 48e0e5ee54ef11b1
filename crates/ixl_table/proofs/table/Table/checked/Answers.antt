use Rattle.std.proofs.Common.{subst}
use Rattle.ixl_table.specs.Table.{IsTableThere, SitedTable}
use Rattle.ixl_table.proofs.Made.{table-there}
use Rattle.ixl_table.proofs.table.Table.checked.Goals as goal

pub returns-clause-there : goal.returns-clause-there
returns-clause-there c =
    let kept = c.self.invariant in
    subst (λ (t : SitedTable). IsTableThere t.site t.table) c.self.view_is
    (table-there c.self.inside.checked _ kept.station kept.is_table
    (c.a_route_leads_over_sections_that_are_there.ensures c.self.inside.checked kept.station)
    (c.required_points_are_there.ensures c.self.inside.checked kept.station))
