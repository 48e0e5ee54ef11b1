use Rattle.ixl_table.proofs.LockLaws.{blocks-is}
use Rattle.ixl_table.proofs.laws.routes_block_by_phase.Goals as goal

pub returns : goal.returns
returns c sited routes locks once table are left number row route is wanted wanted_row wanted_route wanted_is =
    blocks-is sited routes locks are number row route is table wanted wanted_row wanted_route wanted_is (c.a_route_leads_over_its_sections_alone.ensures sited.site once) left
