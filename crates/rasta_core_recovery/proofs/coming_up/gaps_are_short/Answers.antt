use Rattle.rasta_core_recovery.proofs.Lemmas.ComingUp.Recovers.{recovers_again}
use Rattle.rasta_core_recovery.proofs.coming_up.gaps_are_short.Goals as goal

pub returns : goal.returns
returns c = recovers_again c.laws_below.ensures
