use Rattle.line_end.proofs.Came.{step_empty}
use Rattle.line_end.proofs.laws.empty_comes_by_clear.Goals as goal

pub returns : goal.returns
returns c = step_empty
