use Rattle.line_end.proofs.Came.{step_lock}
use Rattle.line_end.proofs.laws.lock_comes_by_drive_and_token.Goals as goal

pub returns : goal.returns
returns c = step_lock
