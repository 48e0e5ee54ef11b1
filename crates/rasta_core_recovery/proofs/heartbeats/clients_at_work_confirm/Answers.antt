use Rattle.rasta_core_recovery.proofs.Lemmas.Heartbeats.Confirms.{clients_confirm}
use Rattle.rasta_core_recovery.proofs.heartbeats.clients_at_work_confirm.Goals as goal

pub returns : goal.returns
returns c = clients_confirm c.laws_below.ensures
