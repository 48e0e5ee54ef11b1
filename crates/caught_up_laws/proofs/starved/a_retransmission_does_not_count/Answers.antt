use Rattle.caught_up_laws.proofs.Computed.{does_not_count}
use Rattle.caught_up_laws.proofs.starved.a_retransmission_does_not_count.Goals as goal

pub returns : goal.returns
returns c = does_not_count
