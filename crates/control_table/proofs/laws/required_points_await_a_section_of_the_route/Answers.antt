use Rattle.control_table.proofs.FreeingLaws.{requires-awaits}
use Rattle.control_table.proofs.laws.required_points_await_a_section_of_the_route.Goals as goal

pub returns : goal.returns
returns c = requires-awaits
