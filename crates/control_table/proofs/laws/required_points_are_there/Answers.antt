use Rattle.control_table.proofs.There.{required-there}
use Rattle.control_table.proofs.laws.required_points_are_there.Goals as goal

pub returns : goal.returns
returns c = required-there
