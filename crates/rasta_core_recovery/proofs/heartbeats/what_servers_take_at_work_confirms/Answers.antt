use Rattle.rasta_core_recovery.proofs.Lemmas.Heartbeats.TakingsConfirm.{takings_confirm}
use Rattle.rasta_core_recovery.proofs.heartbeats.what_servers_take_at_work_confirms.Goals as goal

pub returns : goal.returns
returns c = takings_confirm c.laws_below.ensures
