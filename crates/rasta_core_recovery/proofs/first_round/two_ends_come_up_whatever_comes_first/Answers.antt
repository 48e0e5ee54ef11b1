use Rattle.rasta_core_recovery.proofs.Lemmas.FirstRound.FirstUp.{recovers_whatever_comes}
use Rattle.rasta_core_recovery.proofs.first_round.two_ends_come_up_whatever_comes_first.Goals as goal

pub returns : goal.returns
returns c = recovers_whatever_comes c.laws_below.ensures
