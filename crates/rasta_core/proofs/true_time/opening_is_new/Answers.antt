use Rattle.rasta_core.proofs.Conclusions.{taken_opening}
use Rattle.rasta_core.proofs.true_time.opening_is_new.Goals as goal

pub returns : goal.returns
returns c = taken_opening
