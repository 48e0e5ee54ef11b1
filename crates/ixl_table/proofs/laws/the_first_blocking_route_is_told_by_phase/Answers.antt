use Rattle.ixl_table.proofs.FirstLaws.{first-is, none-is}
use Rattle.ixl_table.proofs.laws.the_first_blocking_route_is_told_by_phase.Goals as goal

pub returns-clause-some : goal.returns-clause-some
returns-clause-some c sited routes locks once table each are left wanted wanted_row wanted_route wanted_is =
    first-is sited routes locks table each are (c.a_route_leads_over_its_sections_alone.ensures sited.site once) left wanted wanted_row wanted_route wanted_is

pub returns-clause-none : goal.returns-clause-none
returns-clause-none c sited routes locks once table each are left wanted wanted_row wanted_route wanted_is =
    none-is sited routes locks table each are (c.a_route_leads_over_its_sections_alone.ensures sited.site once) left wanted wanted_row wanted_route wanted_is
