use Rattle.rasta_core.proofs.Copies.{copy_delivered}
use Rattle.rasta_core.proofs.true_time.copies_are_delivered.Goals as goal

pub returns : goal.returns
returns c = copy_delivered
