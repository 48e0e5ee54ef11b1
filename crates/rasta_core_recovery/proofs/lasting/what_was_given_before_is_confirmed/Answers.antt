use Rattle.rasta_core_recovery.proofs.Lemmas.Lasting.LastingRounds.{given_before_is_confirmed}
use Rattle.rasta_core_recovery.proofs.lasting.what_was_given_before_is_confirmed.Goals as goal

pub returns : goal.returns
returns c = given_before_is_confirmed c.laws_below.ensures
