use Rattle.rasta_core_recovery.proofs.Lemmas.Heartbeats.ServersConfirm.{servers_confirm}
use Rattle.rasta_core_recovery.proofs.heartbeats.servers_at_work_confirm.Goals as goal

pub returns : goal.returns
returns c = servers_confirm c.laws_below.ensures
