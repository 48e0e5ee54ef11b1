use Rattle.std.proofs.Common.{◌≡◌, length, subst}
use Rattle.ixl_table.specs.Table.{IsTableOf, IsTableThere, SitedTable}
use Rattle.ixl_state.proofs.ThingsFew.{named_there, thing_there}
use Rattle.ixl_state.proofs.state.State.has_what_its_layout_has.Goals as goal

pub returns-clause-thing : goal.returns-clause-thing
returns-clause-thing c =
    let table : IsTableOf c.table-table.result.now.site c.table-table.result.now.table = c.is_of_its_site.ensures.table in
    let there : IsTableThere c.table-table.result.now.site c.table-table.result.now.table = c.names_what_is_there.ensures.there in
    thing_there c.args.self.now.sited.site c.args.self.now.sited.table c.args.self.now.ixl
    (subst (λ (p : SitedTable). length p.table.reporters ≡ length p.site.sections) c.table-table.ensures.sited table.reporters.each)
    (subst (λ (p : SitedTable). length p.table.point_sections ≡ length p.site.points) c.table-table.ensures.sited there.each_point)
    c.table-table.ensures.known_signals (subst (λ (p : SitedTable). length p.table.rows ≡ length p.site.routes) c.table-table.ensures.sited table.rows.each)

pub returns-clause-named : goal.returns-clause-named
returns-clause-named c =
    let table : IsTableOf c.table-table.result.now.site c.table-table.result.now.table = c.is_of_its_site.ensures.table in
    let there : IsTableThere c.table-table.result.now.site c.table-table.result.now.table = c.names_what_is_there.ensures.there in
    named_there c.args.self.now.sited.site c.args.self.now.sited.table c.args.self.now.ixl
    (subst (λ (p : SitedTable). length p.table.reporters ≡ length p.site.sections) c.table-table.ensures.sited table.reporters.each)
    (subst (λ (p : SitedTable). length p.table.point_sections ≡ length p.site.points) c.table-table.ensures.sited there.each_point)
    c.table-table.ensures.known_signals (subst (λ (p : SitedTable). length p.table.rows ≡ length p.site.routes) c.table-table.ensures.sited table.rows.each)
