use Rattle.line_host.proofs.Sites.{step_unlinked}
use Rattle.line_host.proofs.laws.unjoined_end_is_unlinked.Goals as goal

pub returns : goal.returns
returns c = step_unlinked
