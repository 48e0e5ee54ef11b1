use Rattle.control_table.proofs.There.{point-section}
use Rattle.control_table.proofs.laws.a_route_leads_over_the_sections_of_its_points.Goals as goal

pub returns : goal.returns
returns c = point-section
