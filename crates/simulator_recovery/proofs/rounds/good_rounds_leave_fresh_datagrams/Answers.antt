use Rattle.simulator_recovery.proofs.Lemmas.Rounds.Sends.{leaves_fresh}
use Rattle.simulator_recovery.proofs.rounds.good_rounds_leave_fresh_datagrams.Goals as goal

pub returns : goal.returns
returns c = leaves_fresh
