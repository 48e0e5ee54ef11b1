use Rattle.std.proofs.Common.{◌≤◌, arith, length, subst}
use Rattle.ixl_table.specs.Table.{IsTableOf, IsTableThere, SitedTable}
use Rattle.ixl_state.proofs.ThingsFew.{is_placed}
use Rattle.ixl_state.proofs.state.State.things_are_few.Goals as goal

pub returns : goal.returns
returns c =
    let table : IsTableOf c.table-table.result.now.site c.table-table.result.now.table = c.is_of_its_site.ensures.table in
    let there : IsTableThere c.table-table.result.now.site c.table-table.result.now.table = c.names_what_is_there.ensures.there in
    let limits = c.names_what_is_there.ensures.station.limits in
    let sections : length c.args.self.now.sited.table.reporters ≤ 64 =
    subst (λ (p : SitedTable). length p.table.reporters ≤ 64) c.table-table.ensures.sited (omega (arith, table.reporters.each, limits.sections)) in
    let points : length c.args.self.now.sited.table.point_sections ≤ 64 =
    subst (λ (p : SitedTable). length p.table.point_sections ≤ 64) c.table-table.ensures.sited (omega (arith, there.each_point, limits.points)) in
    is_placed c.args.self.now.sited.table c.args.self.now.ixl c.args.named sections points (omega (arith, c.table-table.ensures.lengths.0)) c.table-table.ensures.few c.requires
