use Rattle.rasta_core_recovery.proofs.Words.Recovery.{ends_at_limit}
use Rattle.rasta_core_recovery.proofs.Lemmas.ComingUp.Wrong.{asks_for_nothing, rests_for_ever}
use Rattle.rasta_core_recovery.proofs.coming_up.wrong_clients_never_come_up.Goals as goal

pub returns-clause-once : goal.returns-clause-once
returns-clause-once c = asks_for_nothing

pub returns-clause-limit : goal.returns-clause-limit
returns-clause-limit c = rests_for_ever ends_at_limit
