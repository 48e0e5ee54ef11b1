use Rattle.rasta_core_recovery.proofs.Lemmas.ComingUp.Recovers.{stays_calm}
use Rattle.rasta_core_recovery.proofs.coming_up.gaps_are_rare.Goals as goal

pub returns : goal.returns
returns c = stays_calm c.laws_below.ensures
