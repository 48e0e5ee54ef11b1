use Rattle.rasta_core_recovery.proofs.Lemmas.Heartbeats.Heartbeats.{clients_speak}
use Rattle.rasta_core_recovery.proofs.heartbeats.clients_at_work_speak.Goals as goal

pub returns : goal.returns
returns c = clients_speak c.laws_below.ensures
