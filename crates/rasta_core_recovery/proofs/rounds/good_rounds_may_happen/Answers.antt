use Rattle.rasta_core_recovery.proofs.Lemmas.Rounds.Happen.{rounds_lead, rounds_may_happen}
use Rattle.rasta_core_recovery.proofs.rounds.good_rounds_may_happen.Goals as goal

pub returns-clause-may : goal.returns-clause-may
returns-clause-may c = rounds_may_happen

pub returns-clause-lead : goal.returns-clause-lead
returns-clause-lead c = rounds_lead
