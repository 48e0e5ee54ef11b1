use Rattle.control_table.proofs.RouteLaws.{entry-conflicts}
use Rattle.control_table.proofs.laws.routes_of_one_entry_conflict.Goals as goal

pub returns : goal.returns
returns c = entry-conflicts
