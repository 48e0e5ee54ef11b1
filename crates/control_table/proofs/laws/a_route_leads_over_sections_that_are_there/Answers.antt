use Rattle.control_table.proofs.There.{sections-there}
use Rattle.control_table.proofs.laws.a_route_leads_over_sections_that_are_there.Goals as goal

pub returns : goal.returns
returns c = sections-there
