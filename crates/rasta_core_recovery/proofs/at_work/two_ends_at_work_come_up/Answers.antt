use Rattle.rasta_core_recovery.proofs.Lemmas.FirstRound.AnyFirstWork.{recovers_at_work}
use Rattle.rasta_core_recovery.proofs.at_work.two_ends_at_work_come_up.Goals as goal

pub returns : goal.returns
returns c = recovers_at_work c.laws_below.ensures
