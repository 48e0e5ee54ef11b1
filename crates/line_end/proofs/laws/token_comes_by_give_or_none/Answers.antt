use Rattle.line_end.proofs.Came.{step_token}
use Rattle.line_end.proofs.laws.token_comes_by_give_or_none.Goals as goal

pub returns : goal.returns
returns c = step_token
