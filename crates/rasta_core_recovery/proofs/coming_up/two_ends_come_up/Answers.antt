use Rattle.rasta_core_recovery.proofs.Lemmas.ComingUp.Recovers.{recovers}
use Rattle.rasta_core_recovery.proofs.coming_up.two_ends_come_up.Goals as goal

pub returns : goal.returns
returns c = recovers c.laws_below.ensures
