use Rattle.control_table.proofs.RouteLaws.{over-its-sections}
use Rattle.control_table.proofs.laws.a_route_leads_over_its_sections_alone.Goals as goal

pub returns : goal.returns
returns c = over-its-sections
