use Rattle.rasta_core.proofs.Conclusions.{taken_fresh}
use Rattle.rasta_core.proofs.true_time.items_are_fresh.Goals as goal

pub returns : goal.returns
returns c = taken_fresh
