use Rattle.rasta_core_recovery.proofs.Lemmas.Heartbeats.Heartbeats.{servers_speak}
use Rattle.rasta_core_recovery.proofs.heartbeats.servers_at_work_speak.Goals as goal

pub returns : goal.returns
returns c = servers_speak c.laws_below.ensures
