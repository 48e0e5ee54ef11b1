use Rattle.rasta_core_recovery.proofs.Lemmas.Asking.AsksRound.{answer_comes_behind}
use Rattle.rasta_core_recovery.proofs.asking.two_that_wait_are_answered.Goals as goal

pub returns : goal.returns
returns c = answer_comes_behind c.laws_below.ensures
