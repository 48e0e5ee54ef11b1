use Rattle.rasta_core_recovery.proofs.Lemmas.AtWork.HandOver.{hands_over}
use Rattle.rasta_core_recovery.proofs.at_work.two_ends_at_work_hand_over.Goals as goal

pub returns : goal.returns
returns c = hands_over c.laws_below.ensures
