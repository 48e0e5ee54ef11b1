use Rattle.line_end.proofs.Said.{step_said}
use Rattle.line_end.proofs.laws.what_is_said_is_true.Goals as goal

pub returns : goal.returns
returns c = step_said
