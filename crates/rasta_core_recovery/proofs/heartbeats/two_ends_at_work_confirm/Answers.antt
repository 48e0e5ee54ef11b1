use Rattle.rasta_core_recovery.proofs.Lemmas.Heartbeats.Replies.{replies_confirm}
use Rattle.rasta_core_recovery.proofs.heartbeats.two_ends_at_work_confirm.Goals as goal

pub returns : goal.returns
returns c = replies_confirm c.laws_below.ensures
