use Rattle.control_table.proofs.RouteLaws.{conflict-turned}
use Rattle.control_table.proofs.laws.conflicts_go_both_ways.Goals as goal

pub returns : goal.returns
returns c = conflict-turned
