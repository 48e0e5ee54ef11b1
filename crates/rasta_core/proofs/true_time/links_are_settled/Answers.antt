use Rattle.rasta_core.proofs.Conclusions.{links_settled}
use Rattle.rasta_core.proofs.true_time.links_are_settled.Goals as goal

pub returns : goal.returns
returns c = links_settled
