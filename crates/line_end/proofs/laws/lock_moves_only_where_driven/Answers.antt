use Rattle.line_end.proofs.Came.{step_moved}
use Rattle.line_end.proofs.laws.lock_moves_only_where_driven.Goals as goal

pub returns : goal.returns
returns c = step_moved
