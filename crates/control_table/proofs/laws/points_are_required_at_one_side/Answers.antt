use Rattle.control_table.proofs.RouteLaws.{one-side}
use Rattle.control_table.proofs.laws.points_are_required_at_one_side.Goals as goal

pub returns : goal.returns
returns c = one-side
