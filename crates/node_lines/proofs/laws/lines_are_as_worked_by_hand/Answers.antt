use Rattle.node_lines.proofs.WorkedLines.{worked}
use Rattle.node_lines.proofs.laws.lines_are_as_worked_by_hand.Goals as goal

pub returns : goal.returns
returns c site = worked site
