use Rattle.rasta_core.proofs.Runs.{run_kept}
use Rattle.rasta_core.proofs.true_time.every_run_keeps_time.Goals as goal

pub returns : goal.returns
returns c = run_kept c.every_event_keeps_time.ensures
